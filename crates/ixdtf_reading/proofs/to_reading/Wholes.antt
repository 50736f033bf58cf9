-- Reading returns what the grammar derives, or the row that fits. So what is true for a text decides what reading returns.
use Rattle.std.proofs.Common.{◌≡◌, ℕ, suc, ◌<◌, ◌⊎◌, List, [], ◌∷◌, ◌++◌, length, Ok, Err, Option, Some, None, refl, sym, ap, ◌∙◌, inl, inr, arith}
use Rattle.std.proofs.Common.{append_assoc, append-nil, Bool, true}
use Rattle.ixdtf_grammar.specs.language.{Times.Clock, Letters.{Text, Letter.Plain}, Shapes.some, Brackets.{ZoneNote, Pair, ArePairs, IsTail}, Cores.Core}
use Rattle.ixdtf_grammar.specs.language.{Cores.IsCore, Readers.{Reader, CoreKind, has_exact_zones, Reader.{bracketed, parse_rfc3339, parse_offset, parse_identifier, parse_iana_identifier}}}
use Rattle.ixdtf_grammar.specs.language.{Readers.Reader.parse_duration, Languages.{Parsed, parsed_with, IsBracketed, Found, Derives, Derives.as_parsed}}
use Rattle.ixdtf_grammar.specs.{language.Languages.Derives.{as_dated, as_shifted, as_identified, as_named, as_lasting}, table.{Faults.Fault, LineNames.LineName}}
use Rattle.ixdtf_grammar.specs.table.LineNames.{LineName.{of_core, of_clock, of_offset, of_date_time, of_zone, of_bracket, of_pair}, OffsetLine.{offset_start, after_zulu}}
use Rattle.ixdtf_grammar.specs.table.LineNames.{ZoneLine.{in_zone_name, after_zone_slash}, BracketLine.{first_bracket_start, first_critical_start, first_dots_form, first_name_form, first_offset_form}}
use Rattle.ixdtf_grammar.specs.table.{LineNames.{BracketLine.{first_bracket_scan, after_bracket}, PairLine.{key_start, critical_key_start}}, Lines.line_of}
use Rattle.ixdtf_grammar.specs.table.{Before.{BeforeBracketed, Bracketed}, Rows.{Row, Place, Stops, Fits, front_of}}
use Rattle.ixdtf_reading.specs.reading.{Looks.{Read, ◌>>=◌, row_of}, Pairs.pairs_at, Brackets.{Bracket, zoned, paired, zone_in, pairs_in}, Cores.core_at}
use Rattle.ixdtf_reading.specs.reading.{Wholes.{bracketed_at, annotated_at, bracketed_text_at, read_at}, Chains.AfterBrackets, ExactZones.bracket_by}
use Rattle.ixdtf_reading.proofs.to_reading.DateTimes.{rfc_3339_takes, rfc_3339_rows}
use Rattle.ixdtf_reading.proofs.to_reading.{Cores.{core_takes, core_line_rows, core_time_rows, core_offset_rows, core_zulu_row, core_date_time_rows}, ExactBracket.{IsBracketBy, bracket_by_takes}}
use Rattle.ixdtf_reading.proofs.to_reading.{ExactBracket.{bracket_by_rows, dots_form, name_form, offset_form}, MorePairs.{over_pairs, pairs_end, pairs_row}, Durations.{duration_takes, duration_rows}}
use Rattle.ixdtf_reading.proofs.{to_grammar.FirstBracket.InBracket, to_reading.ZonesAlone.{offset_takes, offset_rows as offset_reader_rows}}
use Rattle.ixdtf_reading.proofs.{to_reading.ZonesAlone.{identifier_takes, identifier_rows, iana_identifier_takes, iana_identifier_rows}, parts.{Looks.RowsWhere, Openings.Returned}}

-- One bracket or more, in the order of reading: a first bracket, and annotations.
pub record Brackets (exact : Bool) (text : Text) (zone : Option ZoneNote) (pairs : List Pair) : Type 0 where
  pub bracket : Bracket
  pub first : Text
  pub rest : Text
  pub more : List Pair
  pub is : text ≡ first ++ rest
  pub is_bracket : IsBracketBy exact first bracket
  pub zone_is : zone ≡ zone_in bracket
  pub are_pairs : ArePairs rest more
  pub pairs_are : pairs ≡ pairs_in bracket ++ more

-- No bracket.
pub record NoBrackets (text : Text) (zone : Option ZoneNote) (pairs : List Pair) : Type 0 where
  pub is : text ≡ []
  pub zone_is : zone ≡ None
  pub pairs_are : pairs ≡ []

pub brackets_of : (exact : Bool) (text : Text) (zone : Option ZoneNote) (pairs : List Pair) → IsTail exact text zone pairs
    → NoBrackets text zone pairs ⊎ Brackets exact text zone pairs
brackets_of exact text None [] h = inl (record { is = h.2 ∙ rw (h.3, h.4); zone_is = refl; pairs_are = refl })
brackets_of exact text None (pair ∷ pairs) h =
    inr (record {
      bracket = paired pair;
      first = h.4.0;
      rest = h.4.1;
      more = pairs;
      is = h.2 ∙ rw h.3 h.4.2;
      is_bracket = h.4.3;
      zone_is = refl;
      are_pairs = h.4.4;
      pairs_are = refl;
    })
brackets_of exact text (Some note) pairs h =
    inr (record { bracket = zoned note; first = h.0; rest = h.1; more = pairs; is = h.2; is_bracket = h.3; zone_is = refl; are_pairs = h.4; pairs_are = refl })

module _ {E : Type 0} (fault : List Pair → Row → E) (kind : CoreKind) where
  -- Whether a zone must be exact.
  abbrev exact : Bool
  exact = has_exact_zones kind

  -- ---- a core and what follows it

  abbrev whole_at : Text → Read E (Parsed × List Pair)
  whole_at text = bracketed_text_at fault kind text

  core_alone : (cores : Text) (core : Core) → IsCore kind cores core → whole_at cores ≡ Ok ((parsed_with core None, []), [])
  unfolding bracketed_text_at
  core_alone cores core d = rw (← append-nil cores, (core_takes (fault []) kind cores core [] d (inl refl)).0 refl)

  after_opening : (cores : Text) (core : Core) (body inner : Text) → body ≡ Plain 91 ∷ inner → IsCore kind cores core
      → whole_at (cores ++ body) ≡ annotated_at fault exact core inner
  unfolding bracketed_text_at
  after_opening cores core body inner is d = rw (is, (core_takes (fault []) kind cores core (Plain 91 ∷ inner) d (inr (inner, refl))).1 inner refl)

  -- The result after a core and a zone, if these annotations were read.
  abbrev with_core : Core → Option ZoneNote → List Pair × Text → Read E (Parsed × List Pair)
  with_core core zone pairs = Ok ((parsed_with core zone, pairs.0), pairs.1)

  -- Reading goes over complete brackets to the annotations after them. The bound is large enough for the rest.
  pub over_brackets : (cores brackets rest : Text) (core : Core) (zone : Option ZoneNote) (pairs : List Pair) → IsCore kind cores core
      → Brackets exact brackets zone pairs → (m : ℕ) × (length rest < m)
      × (whole_at (cores ++ (brackets ++ rest)) ≡ (pairs_at fault m pairs rest >>= with_core core zone))
  unfolding annotated_at bracketed_at
  over_brackets cores brackets rest core first_zone pairs d h =
      let read = bracket_by_takes (fault []) exact h.first (h.rest ++ rest) h.bracket h.is_bracket in
      let over = over_pairs fault h.more h.rest rest (pairs_in h.bracket) (suc (length (h.rest ++ rest))) h.are_pairs (omega arith) in
      let whole : brackets ++ rest ≡ Plain 91 ∷ (read.0 ++ (h.rest ++ rest)) = ap (λ t. t ++ rest) h.is ∙ append_assoc h.first h.rest rest
      ∙ ap (λ t. t ++ (h.rest ++ rest)) read.1 in (
        over.0,
        over.1,
        after_opening cores core (brackets ++ rest) (read.0 ++ (h.rest ++ rest)) whole d ∙ rw (read.2, over.2, h.zone_is, h.pairs_are) refl,
      )

  -- ---- what is derived

  brackets_takes : (cores brackets : Text) (core : Core) (first_zone : Option ZoneNote) (pairs : List Pair) → IsCore kind cores core
      → NoBrackets brackets first_zone pairs ⊎ Brackets exact brackets first_zone pairs → whole_at (cores ++ brackets) ≡ Ok ((parsed_with core first_zone, pairs), [])
  brackets_takes cores brackets core first_zone pairs d (inl h) = rw (h.is, h.zone_is, h.pairs_are, append-nil cores) (core_alone cores core d)
  brackets_takes cores brackets core first_zone pairs d (inr h) =
      let over = over_brackets cores brackets [] core first_zone pairs d h in
      ap (λ t. whole_at (cores ++ t)) (sym (append-nil brackets)) ∙ over.2 ∙ rw (pairs_end fault over.0 pairs over.1)

  pub whole_takes : (text : Text) (found : Parsed) (pairs : List Pair) → IsBracketed kind text found pairs → whole_at text ≡ Ok ((found, pairs), [])
  whole_takes text found pairs d =
      rw (d.is, d.has) (brackets_takes d.cores d.brackets d.core d.zone pairs d.is_core (brackets_of exact d.brackets d.zone pairs d.is_tail))

  -- ---- each row

  inner_row : (cores : Text) (core : Core) → IsCore kind cores core → (name : LineName)
      → RowsWhere (fault []) true (λ body. whole_at (cores ++ body)) name (InBracket name)
  unfolding annotated_at
  inner_row cores core d name place e prior front rest b f at =
      let row = bracket_by_rows (fault []) exact name place e prior front rest b f at in
      after_opening cores core (prior ++ (front ++ rest)) (row.0 ++ rest) (rw (← append_assoc prior front rest, row.1) refl) d ∙ rw row.2

  -- A row of a zone that is not exact.
  form_row : (cores : Text) (core : Core) → IsCore kind cores core → (name : LineName) (place : Place) (e : Fault) (front rest : Text)
      → Returned (bracket_by (fault []) exact) front rest (Err (fault [] (row_of name place e)))
      → whole_at (cores ++ (front ++ rest)) ≡ Err (fault [] (row_of name place e))
  unfolding annotated_at
  form_row cores core d name place e front rest row = after_opening cores core (front ++ rest) (row.0 ++ rest) (rw row.1 refl) d ∙ rw row.2

  -- A row after `[` or `[!`, and the text before the brackets.
  opened_row : (name : LineName) (place : Place) (e : Fault) (pairs : List Pair) (cores prior front rest before_all : Text) → pairs ≡ []
      → before_all ≡ cores ++ prior → some (IsCore kind) cores → InBracket name prior (front ++ rest) → front_of (line_of true name) front
      → Stops (line_of true name) place e rest → whole_at (before_all ++ (front ++ rest)) ≡ Err (fault pairs (row_of name place e))
  opened_row name place e pairs cores prior front rest before_all none is core b f at =
      rw (is, none) (ap (whole_at) (simp append_assoc) ∙ inner_row cores core.0 core.1 name place e prior front rest b f at)

  -- A row after complete brackets.
  bracketed_row : (name : LineName) (pairs : List Pair) (prior : Text) → Bracketed kind pairs prior
      → RowsWhere (fault pairs) true (λ body. whole_at (prior ++ body)) name (λ opens rest. AfterBrackets name opens)
  bracketed_row name pairs prior b place e opens front rest a f at = go (brackets_of exact b.1 b.4 pairs b.5)
    where
      go : NoBrackets b.1 b.4 pairs ⊎ Brackets exact b.1 b.4 pairs → whole_at (prior ++ (opens ++ (front ++ rest))) ≡ Err (fault pairs (row_of name place e))
      go (inl h) = absurd (b.6 h.is)
      go (inr h) =
          let over = over_brackets b.0 b.1 (opens ++ (front ++ rest)) b.3.0 b.4 pairs b.3.1 h in
          ap whole_at (ap (λ t. t ++ (opens ++ (front ++ rest))) b.2 ∙ append_assoc b.0 b.1 (opens ++ (front ++ rest)))
          ∙ over.2 ∙ rw (pairs_row fault name place e opens front rest pairs over.0 a f at over.1)

  -- A row of the table lines of a core.
  in_core : (text : Text) (row : Row) (pairs : List Pair) → pairs ≡ [] → core_at (fault []) kind text ≡ Err (fault [] row)
      → whole_at text ≡ Err (fault pairs row)
  unfolding bracketed_text_at
  in_core text row pairs none h = rw (none, h)

  pub whole_row : (name : LineName) (pairs : List Pair) → RowsWhere (fault pairs) true whole_at name (BeforeBracketed kind name pairs)
  whole_row (of_core l) pairs place e prior front rest b f at = in_core _ _ pairs b.1 (core_line_rows (fault []) kind l place e prior front rest b.0 f at)
  whole_row (of_clock Clock.Time l) pairs place e prior front rest b f at =
      in_core _ _ pairs b.1 (core_time_rows (fault []) kind l prior b.0 place e front rest f at)
  whole_row (of_clock Clock.Offset l) pairs place e prior front rest b f at =
      in_core _ _ pairs b.1 (core_offset_rows (fault []) kind l prior b.0 place e front rest f at)
  whole_row (of_clock Clock.MinuteOffset l) pairs place e prior front rest (b, none) f at =
      opened_row (of_clock Clock.MinuteOffset l) place e pairs b.3.0 (b.3.1 ++ b.1) front rest prior none (b.2 ∙ rw b.3.2 (simp append_assoc)) b.3.3
      (b.3.1, b.1, refl, b.3.4, b.4) f at
  whole_row (of_offset offset_start) pairs place e prior front rest b f at = absurd b.0
  whole_row (of_offset after_zulu) pairs place e prior front rest b f at =
      in_core _ _ pairs b.1 (core_zulu_row (fault []) kind prior b.0 place e front rest f at)
  whole_row (of_date_time l) pairs place e prior front rest b f at =
      in_core _ _ pairs b.1 (core_date_time_rows (fault []) kind l prior b.0 place e front rest f at)
  whole_row (of_zone in_zone_name) pairs place e prior front rest (b, none) f at =
      opened_row (of_zone in_zone_name) place e pairs b.0.0 b.0.1 front rest prior none b.0.2 b.0.3 (b.0.4, b.1) f at
  whole_row (of_zone after_zone_slash) pairs place e prior front rest (b, none) f at =
      opened_row (of_zone after_zone_slash) place e pairs b.0.0 b.0.1 front rest prior none b.0.2 b.0.3 (b.0.4, b.1) f at
  whole_row (of_bracket first_bracket_start) pairs place e prior front rest (b, none) f at =
      rw none (inner_row prior b.0 b.1 (of_bracket first_bracket_start) place e [] front rest refl f at)
  whole_row (of_bracket first_critical_start) pairs place e prior front rest (b, none) f at =
      rw none (inner_row prior b.0 b.1 (of_bracket first_critical_start) place e [] front rest refl f at)
  whole_row (of_bracket first_bracket_scan) pairs place e prior front rest (b, none) f at =
      opened_row (of_bracket first_bracket_scan) place e pairs b.0 b.1 front rest prior none b.2 b.3 b.4 f at
  whole_row (of_bracket first_dots_form) pairs place e prior front rest (b, none) f at =
      rw none (form_row prior b.0.0 b.0.1 (of_bracket first_dots_form) place e front rest (dots_form (fault []) exact b.1 place e front rest f at))
  whole_row (of_bracket first_name_form) pairs place e prior front rest (b, none) f at =
      rw none (form_row prior b.0.0 b.0.1 (of_bracket first_name_form) place e front rest (name_form (fault []) exact b.1 place e front rest f at))
  whole_row (of_bracket first_offset_form) pairs place e prior front rest (b, none) f at =
      rw none (form_row prior b.0.0 b.0.1 (of_bracket first_offset_form) place e front rest (offset_form (fault []) exact b.1 place e front rest f at))
  whole_row (of_bracket after_bracket) pairs place e prior front rest b f at =
      bracketed_row (of_bracket after_bracket) pairs prior b place e [] front rest refl f at
  whole_row (of_pair key_start) pairs place e prior front rest b f at = bracketed_row (of_pair key_start) pairs prior b place e [] front rest refl f at
  whole_row (of_pair critical_key_start) pairs place e prior front rest b f at =
      bracketed_row (of_pair critical_key_start) pairs prior b place e [] front rest refl f at
  whole_row (of_pair l) pairs place e prior front rest (inl b) f at =
      opened_row (of_pair l) place e pairs b.0.0 b.0.1 front rest prior b.2 b.0.2 b.0.3 (b.0.4, b.1) f at
  whole_row (of_pair l) pairs place e prior front rest (inr b) f at =
      ap whole_at (ap (λ t. t ++ (front ++ rest)) b.2 ∙ append_assoc b.0 b.1 (front ++ rest))
      ∙ bracketed_row (of_pair l) pairs b.0 b.3 place e b.1 front rest b.4 f at
  whole_row name pairs place e prior front rest b f at = absurd b

module _ {E : Type 0} (fault : List Pair → Row → E) where
  -- ---- each reader

  -- Reading returns what the grammar derives, and nothing is left.
  pub takes : (reader : Reader) (text : Text) (found : Found) (pairs : List Pair) → Derives reader text found pairs
      → read_at fault reader text ≡ Ok ((found, pairs), [])
  takes reader text found pairs (as_parsed d) = rw (whole_takes fault _ text _ pairs d)
  takes reader text found pairs (as_dated d) = rw (rfc_3339_takes (fault []) text _ d)
  takes reader text found pairs (as_shifted d) = rw (offset_takes (fault []) text _ d)
  takes reader text found pairs (as_identified d) = rw (identifier_takes (fault []) text _ d)
  takes reader text found pairs (as_named d) = rw (iana_identifier_takes (fault []) text _ d)
  takes reader text found pairs (as_lasting d) = rw (duration_takes (fault []) _ text _ d)

  -- A row that fits is returned.
  pub row_read : (reader : Reader) (text : Text) (row : Row) (pairs : List Pair) → Fits reader row pairs text
      → read_at fault reader text ≡ Err (fault pairs row)
  row_read (bracketed kind) text row pairs f =
      rw (f.2, f.4.2, whole_row fault kind row.name pairs row.place row.error f.0 f.4.0 f.4.1 (rw f.4.2 at f.3) f.4.3 f.4.4)
  row_read parse_rfc3339 text row pairs f =
      rw (f.3.1, f.2, f.4.2, rfc_3339_rows (fault []) row.name pairs row.place row.error f.0 f.4.0 f.4.1 f.3 f.4.3 f.4.4)
  row_read parse_offset text row pairs f =
      rw (f.3.1, f.2, f.4.2, offset_reader_rows (fault []) row.name pairs row.place row.error f.0 f.4.0 f.4.1 f.3 f.4.3 f.4.4)
  row_read parse_identifier text row pairs f =
      rw (f.3.1, f.2, f.4.2, identifier_rows (fault []) row.name pairs row.place row.error f.0 f.4.0 f.4.1 f.3 f.4.3 f.4.4)
  row_read parse_iana_identifier text row pairs f =
      rw (f.3.1, f.2, f.4.2, iana_identifier_rows (fault []) row.name pairs row.place row.error f.0 f.4.0 f.4.1 f.3 f.4.3 f.4.4)
  row_read (parse_duration profile) text row pairs f =
      rw (f.3.1, f.2, f.4.2, duration_rows (fault []) profile row.name pairs row.place row.error f.0 f.4.0 f.4.1 f.3 f.4.3 f.4.4)
