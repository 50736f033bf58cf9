-- Reading a complete text returns what the grammar derives, or the fault of a row that fits.
use Rattle.std.proofs.Common.{◌≡◌, ◌≢◌, suc, List, [], ◌∷◌, ◌++◌, length, Ok, Err, None, refl, ap, ◌∙◌, sym, inl, inr, arith, append_assoc, append-nil, false}
use Rattle.std.proofs.Common.{Bool, true, IsTrue}
use Rattle.ixdtf_grammar.specs.language.{Times.Clock, Letters.{Text, Letter.Plain}, Shapes.some, Brackets.{Pair, ArePairs, IsTail}, Cores.{Core, IsCore}}
use Rattle.ixdtf_grammar.specs.language.Readers.{Reader, CoreKind, has_exact_zones, Reader.{bracketed, parse_rfc3339, parse_offset, parse_identifier, parse_iana_identifier, parse_duration}}
use Rattle.ixdtf_grammar.specs.language.Languages.{Parsed, parsed_with, IsBracketed, Found, Derives}
use Rattle.ixdtf_grammar.specs.language.Languages.Derives.{as_parsed, as_dated, as_shifted, as_identified, as_named, as_lasting}
use Rattle.ixdtf_grammar.specs.{language.Languages.Found.{dated, shifted, identified, named, lasting}, table.LineNames.LineName}
use Rattle.ixdtf_grammar.specs.table.LineNames.{LineName.{of_clock, of_zone, of_bracket, of_pair}, ZoneLine.{in_zone_name, after_zone_slash}}
use Rattle.ixdtf_grammar.specs.table.LineNames.BracketLine.{first_bracket_start, first_critical_start, first_bracket_scan, first_dots_form, first_name_form, first_offset_form, after_bracket}
use Rattle.ixdtf_grammar.specs.table.{LineNames.PairLine.{key_start, critical_key_start}, Before.{Before, Bracketed}, Rows.{Row, Fits}}
use Rattle.ixdtf_grammar.proofs.parts.Texts.{bracketed_text}
use Rattle.ixdtf_reading.specs.reading.{Looks.{Read, ◌>>=◌, error_of}, Pairs.pairs_at, Durations.duration_at}
use Rattle.ixdtf_reading.specs.reading.DateTimes.{rfc_3339_at}
use Rattle.ixdtf_reading.specs.reading.Zones.{offset_at, identifier_at, iana_identifier_at}
use Rattle.ixdtf_reading.specs.reading.{Brackets.{Bracket, zoned, paired, zone_in, pairs_in}, Cores.{ClosedCore, core_at}}
use Rattle.ixdtf_reading.specs.reading.{ExactZones.bracket_by}
use Rattle.ixdtf_reading.specs.reading.Wholes.{bracketed_at, annotated_at, tail_at, bracketed_text_at, with_pairs, finding, read_at}
use Rattle.ixdtf_reading.specs.reading.Chains.{AfterBrackets, FitsAfterBrackets}
use Rattle.ixdtf_reading.proofs.to_grammar.DateTimes.{rfc_3339_read}
use Rattle.ixdtf_reading.proofs.{parts.Looks.OnRead, to_grammar.ZonesAlone.{offset_read, identifier_read, iana_identifier_read}}
use Rattle.ixdtf_reading.proofs.to_grammar.{Cores.{CoreFront, ReadsCore, core_read}, FirstBracket.{InBracket, FitsAfterCore}}
use Rattle.ixdtf_reading.proofs.to_grammar.ExactBracket.{BracketFront, IsForm, FitsBracket, bracket_by_read}
use Rattle.ixdtf_reading.proofs.{to_grammar.{MorePairs.{OnPairs, pairs_read}, Durations.duration_read}, to_reading.ExactBracket.{IsBracketBy, bracket_by_takes}}

-- The text before a table line of a first bracket, if a core is before the bracket.
in_first : (kind : CoreKind) (name : LineName) (cores prior rest : Text) → some (IsCore kind) cores → InBracket name prior rest
    → Before (bracketed kind) name [] (cores ++ prior) rest
in_first kind (of_clock Clock.MinuteOffset name) cores prior rest core b =
    ((cores ++ b.0, b.1, rw b.2 (simp append_assoc), (cores, b.0, refl, core, b.3), b.4), refl)
in_first kind (of_zone in_zone_name) cores prior rest core b = (((cores, prior, refl, core, b.0), b.1), refl)
in_first kind (of_zone after_zone_slash) cores prior rest core b = (((cores, prior, refl, core, b.0), b.1), refl)
in_first kind (of_bracket first_bracket_start) cores prior rest core b = rw (b, append-nil) (core, refl)
in_first kind (of_bracket first_critical_start) cores prior rest core b = rw (b, append-nil) (core, refl)
in_first kind (of_bracket first_bracket_scan) cores prior rest core b = ((cores, prior, refl, core, b), refl)
in_first kind (of_pair key_start) cores prior rest core b = absurd b
in_first kind (of_pair critical_key_start) cores prior rest core b = absurd b
in_first kind (of_pair l) cores prior rest core b = inl ((cores, prior, refl, core, b.0), b.1, refl)
in_first kind name cores prior rest core b = absurd b

-- The text before the table line of a zone that is not exact.
of_form : (kind : CoreKind) (name : LineName) (cores rest : Text) → some (IsCore kind) cores → IsTrue (has_exact_zones kind) → IsForm name
    → Before (bracketed kind) name [] cores rest
of_form kind (of_bracket first_dots_form) cores rest core exact h = ((core, exact), refl)
of_form kind (of_bracket first_name_form) cores rest core exact h = ((core, exact), refl)
of_form kind (of_bracket first_offset_form) cores rest core exact h = ((core, exact), refl)
of_form kind name cores rest core exact h = absurd h

-- If a row fits the text after the core, it fits the complete text.
pub after_core : (kind : CoreKind) (row : Row) (text cores body : Text) → text ≡ cores ++ body → some (IsCore kind) cores → FitsAfterCore row body
    → Fits (bracketed kind) row [] text
after_core kind row text cores body is core f = (cores ++ f.0, f.1, is ∙ rw f.2 (simp append_assoc), in_first kind row.name cores f.0 f.1 core f.3, f.4)

-- As above, for a row of a zone that is not exact.
pub after_core_by : (kind : CoreKind) (row : Row) (text cores body : Text) → text ≡ cores ++ body → some (IsCore kind) cores
    → FitsBracket (has_exact_zones kind) row body → Fits (bracketed kind) row [] text
after_core_by kind row text cores body is core (inl f) = after_core kind row text cores body is core f
after_core_by kind row text cores body is core (inr f) = (cores, body, is, of_form kind row.name cores body core f.0 f.1, f.2)

-- As above, if complete brackets are before the table line.
in_later : (kind : CoreKind) (name : LineName) (pairs : List Pair) (whole prior rest : Text) → Bracketed kind pairs whole → AfterBrackets name prior
    → Before (bracketed kind) name pairs (whole ++ prior) rest
in_later kind (of_bracket after_bracket) pairs whole prior rest h b = rw (b, append-nil whole) h
in_later kind (of_pair key_start) pairs whole prior rest h b = rw (b, append-nil whole) h
in_later kind (of_pair critical_key_start) pairs whole prior rest h b = rw (b, append-nil whole) h
in_later kind (of_pair l) pairs whole prior rest h b = inr (whole, prior, refl, h, b)
in_later kind name pairs whole prior rest h b = absurd b

pub after_brackets : (kind : CoreKind) (row : Row) (pairs : List Pair) (text whole rest : Text) → text ≡ whole ++ rest → Bracketed kind pairs whole
    → FitsAfterBrackets row rest → Fits (bracketed kind) row pairs text
after_brackets kind row pairs text whole rest is h f =
    (whole ++ f.0, f.1, is ∙ rw f.2 (simp append_assoc), in_later kind row.name pairs whole f.0 f.1 h f.3, f.4)

-- A first bracket, and annotations after it.
pub tail_of : (exact : Bool) (bracket : Bracket) (first rest : Text) (more : List Pair) → IsBracketBy exact first bracket → ArePairs rest more
    → IsTail exact (first ++ rest) (zone_in bracket) (pairs_in bracket ++ more)
tail_of exact (zoned note) first rest more b h = (first, rest, refl, b, h)
tail_of exact (paired pair) first rest more b h = ([], first ++ rest, refl, refl, (first, rest, refl, b, h))

-- A text that begins with a first bracket is not empty.
pub bracket_stands : (exact : Bool) (first rest : Text) (bracket : Bracket) → IsBracketBy exact first bracket → first ++ rest ≢ []
bracket_stands exact first rest bracket b none =
    let start = bracket_by_takes error_of exact first [] bracket b in
    let bad : Plain 91 ∷ (start.0 ++ rest) ≡ [] = ap (λ t. t ++ rest) (sym start.1) ∙ none in absurd cc

-- What is true for the result of reading a complete text.
abbrev pub OnWhole : {E : Type 0} → (List Pair → Row → E) → Reader → Text → Read E (Found × List Pair) → Type 0
OnWhole fault reader text (Ok x) = (x.1 ≡ []) × Derives reader text x.0.0 x.0.1
OnWhole fault reader text (Err e) = (pairs : List Pair) × (row : Row) × (e ≡ fault pairs row) × Fits reader row pairs text

module _ {E : Type 0} (fault : List Pair → Row → E) (kind : CoreKind) where
  -- Whether a zone must be exact.
  abbrev exact : Bool
  exact = has_exact_zones kind

  -- What is true for the result of reading a core and brackets.
  abbrev OnBracketed : Text → Read E (Parsed × List Pair) → Type 0
  OnBracketed text (Ok x) = (x.1 ≡ []) × IsBracketed kind text x.0.0 x.0.1
  OnBracketed text (Err e) = (pairs : List Pair) × (row : Row) × (e ≡ fault pairs row) × Fits (bracketed kind) row pairs text

  -- Reading after a core and a first bracket.
  bracketed_read : (text cores first rest : Text) (core : Core) (bracket : Bracket) → text ≡ cores ++ (first ++ rest) → IsCore kind cores core
      → IsBracketBy exact first bracket → OnBracketed text (bracketed_at fault core bracket rest)
  unfolding bracketed_at
  bracketed_read text cores first rest core bracket is is_core b =
      go (pairs_at fault (suc (length rest)) (pairs_in bracket) rest) (pairs_read fault (suc (length rest)) (pairs_in bracket) rest (omega arith))
    where
      go : (r : Read E (List Pair)) → OnPairs fault (pairs_in bracket) rest r
          → OnBracketed text (r >>= λ pairs. Ok ((parsed_with core (zone_in bracket), pairs.0), pairs.1))
      go (Ok x) h =
          (h.0, bracketed_text cores (first ++ rest) core (zone_in bracket) x.0 is is_core (rw h.2 (tail_of exact bracket first rest h.1 b h.3)))
      go (Err e) h = (
        pairs_in bracket ++ h.0,
        h.3,
        h.4,
        after_brackets kind h.3 (pairs_in bracket ++ h.0) text (cores ++ (first ++ h.2.0)) h.1 (is ∙ rw h.2.1 (simp append_assoc))
            (cores, first ++ h.2.0, refl, (core, is_core), zone_in bracket, tail_of exact bracket first h.2.0 h.0 b h.2.2, bracket_stands exact first h.2.0 bracket b) h.5,
      )

  -- Reading after a core and `[`.
  annotated_read : (text cores inner : Text) (core : Core) → text ≡ cores ++ (Plain 91 ∷ inner) → IsCore kind cores core
      → OnBracketed text (annotated_at fault exact core inner)
  unfolding annotated_at
  annotated_read text cores inner core is is_core = go (bracket_by (fault []) exact inner) (bracket_by_read (fault []) exact inner)
    where
      go : (r : Read E Bracket) → OnRead (fault []) r (BracketFront exact (Plain 91 ∷ inner)) (λ row. FitsBracket exact row (Plain 91 ∷ inner)) → OnBracketed text (r >>= λ bracket. bracketed_at fault core bracket.0 bracket.1)
      go (Ok x) h = bracketed_read text cores h.0 x.1 core x.0 (is ∙ ap (λ t. cores ++ t) h.1) is_core h.2
      go (Err e) h = ([], h.0, h.1, after_core_by kind h.0 text cores (Plain 91 ∷ inner) is (core, is_core) h.2)

  tail_read : (text : Text) (x : ClosedCore) (rest : Text) → CoreFront kind text x rest → OnBracketed text (tail_at fault exact x rest)
  tail_read text (core, false) rest h =
      (h.1.1, bracketed_text h.0 [] core None [] (h.1.0 ∙ sym (append-nil h.0)) h.2 ([], [], refl, refl, refl))
  tail_read text (core, true) rest h = annotated_read text h.0 rest core h.1 h.2

  text_read : (text : Text) → OnBracketed text (bracketed_text_at fault kind text)
  unfolding bracketed_text_at
  text_read text = go (core_at (fault []) kind text) (core_read (fault []) text kind)
    where
      go : (r : Read E ClosedCore) → ReadsCore (fault []) kind text r → OnBracketed text (r >>= λ core. tail_at fault exact core.0 core.1)
      go (Err e) h = ([], h.0, h.1, h.2)
      go (Ok x) h = tail_read text x.0 x.1 h

  with_pairs_read : (text : Text) (r : Read E (Parsed × List Pair)) → OnBracketed text r → OnWhole fault (bracketed kind) text (with_pairs r)
  with_pairs_read text (Ok x) h = (h.0, as_parsed h.1)
  with_pairs_read text (Err e) h = h

module _ {E : Type 0} (fault : List Pair → Row → E) where
  found_read : {A : Type 0} (reader : Reader) (text : Text) (found : A → Found) (r : Read E A) (language : A → Type 0)
      → OnRead (fault []) r (λ x rest. (rest ≡ []) × language x) (λ row. Fits reader row [] text) → ((x : A) → language x → Derives reader text (found x) [])
      → OnWhole fault reader text (finding found r)
  found_read reader text found (Ok x) language h derives = (h.0, derives x.0 h.1)
  found_read reader text found (Err e) language h derives = ([], h.0, h.1, h.2)

  -- Reading returns what the grammar derives, and nothing is left; or it returns the fault of a row that fits.
  pub whole_read : (reader : Reader) (text : Text) → OnWhole fault reader text (read_at fault reader text)
  whole_read (bracketed kind) text = with_pairs_read fault kind text (bracketed_text_at fault kind text) (text_read fault kind text)
  whole_read parse_rfc3339 text = found_read parse_rfc3339 text dated (rfc_3339_at (fault []) text) _ (rfc_3339_read (fault []) text) (λ x d. as_dated d)
  whole_read parse_offset text = found_read parse_offset text shifted (offset_at (fault []) text) _ (offset_read (fault []) text) (λ x d. as_shifted d)
  whole_read parse_identifier text =
      found_read parse_identifier text identified (identifier_at (fault []) text) _ (identifier_read (fault []) text) (λ x d. as_identified d)
  whole_read parse_iana_identifier text =
      found_read parse_iana_identifier text named (iana_identifier_at (fault []) text) _ (iana_identifier_read (fault []) text) (λ x d. as_named d)
  whole_read (parse_duration profile) text =
      found_read (parse_duration profile) text lasting (duration_at (fault []) profile text) _ (duration_read (fault []) profile text) (λ x d. as_lasting d)
