-- Reading a first bracket returns a zone or an annotation, or the fault of a row that fits.
use Rattle.std.proofs.Common.{◌≡◌, ℕ, Bool, true, false, IsTrue, IsFalse, List, Result, Ok, Err, [], ◌∷◌, ◌++◌, drop, refl, sym, ap, ◌∙◌, subst, inl, inr}
use Rattle.std.proofs.{Common.{arith, append_assoc, if◌then◌else◌}, lemmas.Bool.{eqb-true, Decides.nat_tests}}
use Rattle.ixdtf_grammar.specs.language.{Times.Clock.MinuteOffset, Letters.{Text, ◌or◌, sign, closing, exclamation, slash, zone_lead, zone_char, key_lead}}
use Rattle.ixdtf_grammar.specs.language.{Letters.Letter.{Plain, Bad}, Shapes.{one, ◌then◌, some}, Offsets.minutes_of}
use Rattle.ixdtf_grammar.specs.language.{ZoneNames.{Zone, IsZone, IsZoneName}, Brackets.{Opens, IsZoneBracket, ReadsAsName, Pair, IsPair, ReadsAsPair}}
use Rattle.ixdtf_grammar.specs.table.{Faults.Fault.{AnnotationClose, IanaChar}, LineNames.{BracketLine, PairLine, LineName}}
use Rattle.ixdtf_grammar.specs.table.LineNames.{LineName.{of_clock, of_zone, of_bracket, of_pair}, ZoneLine.{in_zone_name, after_zone_slash}}
use Rattle.ixdtf_grammar.specs.table.LineNames.BracketLine.{first_bracket_start, first_critical_start, first_bracket_scan}
use Rattle.ixdtf_grammar.specs.table.LineNames.PairLine.{key_start, critical_key_start, in_key, value_start, in_value, after_value_hyphen}
use Rattle.ixdtf_grammar.specs.table.{Lines.{line_of, zone_letters}, Rows.{Row, Stops, FitsHere, front_of, Place.{end, other}}}
use Rattle.ixdtf_reading.specs.reading.{Looks.{Read, ◌>>=◌, row_of, letter_at, look_at, next_by}, Times.clock_at, Pairs.pair_at, Zones.name_line}
use Rattle.ixdtf_reading.specs.reading.{Zones.{follow_look, name_look, name_run, as_zone}, Brackets.{Bracket, zoned, paired, sight_at, name_in_bracket_at}}
use Rattle.ixdtf_reading.specs.reading.Brackets.{name_or_pair_at, offset_in_bracket_at, noted, as_pair, inside_at, critical_bracket_at, bracket_at}
use Rattle.ixdtf_reading.proofs.{parts.Looks.{OnRead, FitsIn, then_read, read_if, read_letter}, to_grammar.Pair.critical_start}
use Rattle.ixdtf_reading.proofs.{parts.LookAhead.{OnSight, over_letter, sight_read, key_lead_skipped}, to_grammar.Times.{clock_read, clock_next_read}}
use Rattle.ixdtf_reading.proofs.to_grammar.{ZoneNames.{NameFront, name_read, name_stops_here}, Pair.{PairFront, FitsInPair, pair_read, opened_pair}}
use Rattle.ixdtf_reading.proofs.to_reading.Pair.{InPair}
use Rattle.ixdtf_grammar.proofs.parts.Texts.{signed_text}

-- The text between a core and the prefix of a table line of a first bracket, and the text from the prefix on.
abbrev pub InBracket : LineName → Text → Text → Type 0
InBracket (of_clock MinuteOffset name) before rest = (some Opens then one sign) before
InBracket (of_zone in_zone_name) before rest = some Opens before × ReadsAsName rest
InBracket (of_zone after_zone_slash) before rest = some Opens before × ReadsAsName rest
InBracket (of_bracket first_bracket_start) before rest = before ≡ []
InBracket (of_bracket first_critical_start) before rest = before ≡ []
InBracket (of_bracket first_bracket_scan) before rest = some Opens before
InBracket (of_pair in_key) before rest = some Opens before × ReadsAsPair rest
InBracket (of_pair value_start) before rest = some Opens before × ReadsAsPair rest
InBracket (of_pair in_value) before rest = some Opens before × ReadsAsPair rest
InBracket (of_pair after_value_hyphen) before rest = some Opens before × ReadsAsPair rest
InBracket name before rest = ⊥

-- The row fits the text after a core.
abbrev pub FitsAfterCore : Row → Text → Type 0
FitsAfterCore row body = (before rest : Text) × (body ≡ before ++ rest) × InBracket row.name before rest × FitsHere true row rest

-- A first bracket: a zone or an annotation.
abbrev pub IsBracket : Text → Bracket → Type 0
IsBracket text (zoned note) = IsZoneBracket text note
IsBracket text (paired pair) = IsPair text pair

-- The row fits the text of a zone, after `[` or after `[!`.
abbrev FitsInside : Text → Row → Type 0
FitsInside text row = (start : Text) → some Opens start → FitsAfterCore row (start ++ text)

-- A name and `]` were read.
abbrev NameClosed : Text → List ℕ → Text → Type 0
NameClosed text name rest = (inside : Text) × (text ≡ inside ++ (Plain 93 ∷ rest)) × IsZoneName inside name

-- A zone and `]` were read.
abbrev ZoneFront : Text → Zone → Text → Type 0
ZoneFront text zone rest = (inside : Text) × (text ≡ inside ++ (Plain 93 ∷ rest)) × IsZone inside zone

-- ---- rows

-- A row of a name fits in a bracket.
of_name : (row : Row) (text : Text) → ReadsAsName text → FitsIn name_line true row text → FitsInside text row
of_name row text reads h start opens = (start, text, refl, rw h.1 (at h.0), h.2)
  where
    at : (may_end : Bool) → InBracket (name_line may_end) start text
    at true = (opens, reads)
    at false = (opens, reads)

-- A row of an offset fits in a bracket.
of_minutes : (row : Row) (c : ℕ) (text more : Text) → text ≡ Plain c ∷ more → IsTrue (sign c) → FitsIn (of_clock MinuteOffset) true row more
    → FitsInside text row
of_minutes row c text more is signs h start opens =
    (start ++ (Plain c ∷ []), more, rw is (simp append_assoc), rw h.1 (start, Plain c ∷ [], refl, opens, (c, refl, signs)), h.2)

-- A row of an annotation fits in a bracket.
of_pairs : (row : Row) (text : Text) → ReadsAsPair text → FitsInPair text row → FitsInside text row
of_pairs row text reads h start opens = (start, text, refl, rw h.2 (by_line h.0 h.1), h.3)
  where
    by_line : (l : PairLine) → InPair l → InBracket (of_pair l) start text
    by_line key_start within = absurd within
    by_line critical_key_start within = absurd within
    by_line l within = (opens, reads)

module _ {E : Type 0} (fault : Row → E) where
  -- ---- names

  -- The code units of a name were read.
  after_name_read : (text : Text) (name : List ℕ) (rest : Text) → NameFront text name rest
      → OnRead fault (next_by (name_look fault true closing) rest) (λ d left. rest ≡ Plain 93 ∷ left) (λ row. FitsIn name_line true row text)
  unfolding next_by look_at
  after_name_read text name [] h =
      (row_of (of_zone in_zone_name) (end []) AnnotationClose, refl, name_stops_here fault true (end []) AnnotationClose text h.0 [] h.1 h.2 (refl, refl, refl))
  after_name_read text name (Bad ∷ rest) h = absurd h.4.0
  after_name_read text name (Plain d ∷ rest) h = read_if fault (closing d) _ _ _ _
      (λ closes. ap (λ n. Plain n ∷ rest) (eqb-true d 93 closes))
      (λ out. (
        row_of (of_zone in_zone_name) (other (Plain d ∷ rest)) IanaChar,
        refl,
        name_stops_here fault true (other (Plain d ∷ rest)) IanaChar text h.0 (Plain d ∷ rest) h.1 h.2 (d, rest, refl, neither d h.4.0 h.4.1 out, refl, refl),
      ))
    where
      neither : (d : ℕ) → IsFalse (zone_char d) → IsFalse (slash d) → IsFalse (closing d) → IsFalse (zone_letters true d)
      neither d no_char no_slash no_closing = grind (arith, nat_tests)

  -- Reading a name and `]`, if the bracket reads as a name.
  name_in_bracket_read : (c : ℕ) (text more : Text) → text ≡ Plain c ∷ more → IsTrue (zone_lead c) → ReadsAsName text
      → OnRead fault (name_in_bracket_at fault text) (NameClosed text) (FitsInside text)
  unfolding name_in_bracket_at
  name_in_bracket_read c text more is lead reads = then_read fault (name_run fault true text) _ _ _ _ _ (name_read fault true c text more is lead)
      (λ name rest h. then_read fault (next_by (name_look fault true closing) rest) _ _ _ _ _ (after_name_read text name rest h)
      (λ d left g. (h.0, h.1 ∙ ap (λ t. h.0 ++ t) g, (h.2, h.3)))
      (λ r f. of_name r text reads f))
      (λ r f. of_name r text reads f)

  as_zone_read : (text : Text) (r : Read E (List ℕ)) → OnRead fault r (NameClosed text) (FitsInside text)
      → OnRead fault (as_zone r) (ZoneFront text) (FitsInside text)
  as_zone_read text (Ok x) h = (h.0, h.1, inl (x.0, h.2, refl))
  as_zone_read text (Err e) h = h

  -- ---- offsets

  -- Reading an offset after its sign, and `]`.
  minutes_read : (c : ℕ) (text more : Text) → text ≡ Plain c ∷ more → IsTrue (sign c)
      → OnRead fault (offset_in_bracket_at fault c more) (ZoneFront text) (FitsInside text)
  unfolding offset_in_bracket_at
  minutes_read c text more is signs = then_read fault (clock_at fault MinuteOffset more) _ _ _ _ _ (clock_read fault true MinuteOffset more)
      (λ x rest h. then_read fault (next_by (follow_look fault true MinuteOffset x) rest) _ _ _ _ _
      (clock_next_read fault true MinuteOffset more x rest AnnotationClose h refl)
      (λ d left g. (
        Plain c ∷ h.0,
        is ∙ ap (λ t. Plain c ∷ t) (h.1 ∙ ap (λ t. h.0 ++ t) (g.0 ∙ ap (λ n. Plain n ∷ left) (eqb-true d 93 g.1))),
        inr (minutes_of c x.1, signed_text c h.0 x.0 x.1 refl signs h.2, refl),
      ))
      (λ r f. of_minutes r c text more is signs f))
      (λ r f. of_minutes r c text more is signs f)

  -- ---- brackets

  -- What is true for the result of reading a bracket from its `[` on.
  abbrev BracketRead : Text → Read E Bracket → Type 0
  BracketRead body r = OnRead fault r (λ bracket rest. (front : Text) × (body ≡ front ++ rest) × IsBracket front bracket) (λ row. FitsAfterCore row body)

  -- The text after `[` or `[!`.
  module _ (start : Text) (critical : Bool) (opens : Opens start critical) where
    -- A zone was read.
    noted_read : (text : Text) (r : Read E Zone) → OnRead fault r (ZoneFront text) (FitsInside text) → BracketRead (start ++ text) (noted critical r)
    noted_read text (Ok x) h =
        (start ++ (h.0 ++ (Plain 93 ∷ [])), rw h.1 (simp append_assoc), record { start = start; inside = h.0; is = refl; opens = opens; zone = h.2 })
    noted_read text (Err e) h = (h.0, h.1, h.2 start (critical, opens))

    -- An annotation was read, if the bracket reads as an annotation.
    paired_read : (text : Text) → ReadsAsPair text → (r : Read E Pair) → OnRead fault r (PairFront critical text) (FitsInPair text)
        → BracketRead (start ++ text) (as_pair r)
    paired_read text reads (Ok x) h = (start ++ h.0, rw h.1 (simp append_assoc), opened_pair start h.0 critical x.0 opens h.2 h.3)
    paired_read text reads (Err e) h = (h.0, h.1, of_pairs h.0 text reads h.2 start (critical, opens))

    -- The result of looking ahead decides.
    sighted : (c : ℕ) (text more : Text) → text ≡ Plain c ∷ more → IsTrue (zone_lead c) → IsTrue (key_lead c) → (s : Result Bool E) → OnSight fault more s
        → BracketRead (start ++ text) (s >>= λ pair. if pair then as_pair (pair_at fault critical text) else noted critical
        (as_zone (name_in_bracket_at fault text)))
    sighted c text more is lead key (Ok true) h = paired_read text (Plain c ∷ [], more, is, (c, refl, key), h) _ (pair_read fault critical c text more is key)
    sighted c text more is lead key (Ok false) h =
        noted_read text _ (as_zone_read text _ (name_in_bracket_read c text more is lead (inr (Plain c ∷ [], more, is, (c, refl, key), h))))
    sighted c text more is lead key (Err e) h = (
      row_of (of_bracket first_bracket_scan) h.4 h.5,
      h.6,
      (start, text, refl, (critical, opens), (Plain c ∷ h.0, h.1, is ∙ ap (λ t. Plain c ∷ t) h.2, (Plain c ∷ [], h.0, refl, (c, refl, key), h.3), h.7)),
    )

    -- The first code unit is one with which a key can begin.
    key_read : (c : ℕ) (text more : Text) → text ≡ Plain c ∷ more → IsTrue (zone_lead c) → IsTrue (key_lead c)
        → BracketRead (start ++ text) (name_or_pair_at fault critical text)
    unfolding name_or_pair_at
    key_read c text more is lead key =
        sighted c text more is lead key (sight_at fault text) (subst (OnSight fault more)
        (sym (ap (sight_at fault) is ∙ over_letter fault c more (key_lead_skipped c key))) (sight_read fault more))

    -- Reading the content from its first code unit on.
    inside_read : (c : ℕ) (text more : Text) → text ≡ Plain c ∷ more → IsTrue ((zone_lead or sign) c)
        → BracketRead (start ++ text) (inside_at fault critical c text)
    unfolding inside_at
    inside_read c text more is may = read_if fault (sign c) _ _ _ _
        (λ signs. noted_read text (offset_in_bracket_at fault c (drop 1 text)) (rw (ap (drop 1) is) (minutes_read c text more is signs)))
        (λ no_mark.
        let lead : IsTrue (zone_lead c) = grind (arith, may, no_mark, nat_tests) in
        read_if fault (key_lead c) _ _ _ _
        (key_read c text more is lead)
        (λ no_key. noted_read text _ (as_zone_read text _ (name_in_bracket_read c text more is lead
        (inl (Plain c ∷ [], more, is, (c, refl, rw (lead, no_key)), tt))))))

  -- A row of a table line without any text before it.
  at_start : (l : BracketLine) (row : Row) (body front rest : Text) → row.name ≡ of_bracket l → InBracket (of_bracket l) [] body → body ≡ front ++ rest
      → front_of (line_of true (of_bracket l)) front → Stops (line_of true (of_bracket l)) row.place row.error rest → FitsAfterCore row body
  at_start l row body front rest name inside is shape at = ([], body, refl, rw name inside, rw name (front, rest, is, shape, at))

  -- Reading after `[!`.
  critical_read : (text : Text) → BracketRead (Plain 91 ∷ (Plain 33 ∷ text)) (critical_bracket_at fault text)
  unfolding critical_bracket_at
  critical_read text =
      then_read fault (letter_at fault (of_bracket first_critical_start) text) _ _ _ _ _ (read_letter fault (of_bracket first_critical_start) text tt)
      (λ c rest h. inside_read (Plain 91 ∷ (Plain 33 ∷ [])) true critical_start c text rest h.0 h.1)
      (λ r h. at_start first_critical_start r (Plain 91 ∷ (Plain 33 ∷ text)) (Plain 91 ∷ (Plain 33 ∷ [])) text h.0 refl refl critical_start h.1)

  -- Reading after `[`.
  pub bracket_read : (body text : Text) → body ≡ Plain 91 ∷ text
      → OnRead fault (bracket_at fault text) (λ bracket rest. (front : Text) × (body ≡ front ++ rest) × IsBracket front bracket) (λ row. FitsAfterCore row body)
  unfolding bracket_at
  bracket_read body text is =
      rw is (then_read fault (letter_at fault (of_bracket first_bracket_start) text) _ _ _ _ _ (read_letter fault (of_bracket first_bracket_start) text tt)
      (λ c rest h. read_if fault (exclamation c) _ _ _ _
      (λ critical. subst (λ t. BracketRead (Plain 91 ∷ t) (critical_bracket_at fault rest))
      (sym (h.0 ∙ ap (λ n. Plain n ∷ rest) (eqb-true c 33 critical))) (critical_read rest))
      (λ no_mark. inside_read (Plain 91 ∷ []) false (91, refl, refl) c text rest h.0 (grind (arith, h.1, no_mark, nat_tests))))
      (λ r h. at_start first_bracket_start r (Plain 91 ∷ text) (Plain 91 ∷ []) text h.0 refl refl (91, refl, refl) h.1))
