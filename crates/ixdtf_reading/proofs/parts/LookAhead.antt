-- Looking ahead in a bracket: the text decides what `sight_at` returns, and its result says what the text has.
use Rattle.std.proofs.Common.{◌≡◌, ℕ, Bool, true, false, IsTrue, IsFalse, List, [], ◌∷◌, ◌++◌, Result, Ok, Err, refl, ap, ◌∙◌, inl, inr, arith, append_assoc}
use Rattle.std.proofs.{Common.if◌then◌else◌, lemmas.Bool.{eqb-true, Decides.nat_tests}}
use Rattle.ixdtf_grammar.specs.language.Letters.{Text, Class, equals, closing, slash, zone_char, key_lead, key_char, Letter.{Plain, Bad}}
use Rattle.ixdtf_grammar.specs.language.{Shapes.{Shape, one, ◌then◌, Joined, many}, ZoneNames.{NameItem, ZoneName}}
use Rattle.ixdtf_grammar.specs.{language.Brackets.{skipped, FirstIs, ReadsAsName, Key, ReadsAsPair}, table.Faults.{Fault, Fault.NonAsciiCodePoint}}
use Rattle.ixdtf_grammar.specs.table.{LineNames.{LineName.of_bracket, BracketLine.first_bracket_scan}, Lines.{bracket_line, abrupt_bracket, LetterOfKey}}
use Rattle.ixdtf_grammar.specs.table.Rows.{Row, Place, Stops, Place.{end, bad}}
use Rattle.ixdtf_reading.{specs.reading.{Looks.row_of, Brackets.sight_at}, proofs.parts.Looks.row_here}

-- ---- code units that are skipped

neither_skipped : (c : ℕ) → IsFalse (equals c) → IsFalse (closing c) → IsTrue (skipped c)
neither_skipped c no_equals no_closing = rw (no_equals, no_closing) refl

pub zone_char_skipped : (c : ℕ) → IsTrue (zone_char c) → IsTrue (skipped c)
zone_char_skipped c h = grind (arith, nat_tests)

pub slash_skipped : (c : ℕ) → IsTrue (slash c) → IsTrue (skipped c)
slash_skipped c h = grind (arith, nat_tests)

pub key_char_skipped : (c : ℕ) → IsTrue (key_char c) → IsTrue (skipped c)
key_char_skipped c h = grind (arith, nat_tests)

pub key_lead_skipped : (c : ℕ) → IsTrue (key_lead c) → IsTrue (skipped c)
key_lead_skipped c h = grind (arith, nat_tests)

-- ---- what a text decides

module _ {E : Type 0} (fault : Row → E) where
  pub over_letter : (c : ℕ) (rest : Text) → IsTrue (skipped c) → sight_at fault (Plain c ∷ rest) ≡ sight_at fault rest
  unfolding sight_at
  over_letter c rest h =
      let no_equals : IsFalse (equals c) = grind (arith, nat_tests, h) in
      let no_closing : IsFalse (closing c) = grind (arith, nat_tests, h) in rw (no_equals, no_closing) refl

  over_joined : (parts : List Text) (text rest : Text) → Joined (one skipped) parts text → sight_at fault (text ++ rest) ≡ sight_at fault rest
  over_joined [] text rest h = rw h refl
  over_joined (part ∷ parts) text rest h = rw (h.1, h.2.1) (over_letter h.2.0 _ h.2.2 ∙ over_joined parts h.0 rest h.3)

  -- The code units that the table line of `sight_at` accepts are skipped.
  pub over_scanned : (text rest : Text) → LetterOfKey text → sight_at fault (text ++ rest) ≡ sight_at fault rest
  over_scanned text rest h =
      rw (h.2, h.3.1) (over_letter h.3.0 _ (key_lead_skipped h.3.0 h.3.2) ∙ over_joined h.4.0 h.1 rest h.4.1)

  pub sight_stops : (place : Place) (e : Fault) (rest : Text) → Stops (bracket_line first_bracket_scan) place e rest
      → sight_at fault rest ≡ Err (fault (row_of (of_bracket first_bracket_scan) place e))
  unfolding sight_at
  sight_stops = row_here fault (of_bracket first_bracket_scan) (sight_at fault) (bracket_line first_bracket_scan) (refl, λ rest. refl)

  -- A code unit of the class comes first, and decides.
  sight_first : (class : Class) (b : Bool) → ((c : ℕ) (rest : Text) → IsTrue (class c) → sight_at fault (Plain c ∷ rest) ≡ Ok b)
      → (text : Text) → (one key_lead then FirstIs class) text → sight_at fault text ≡ Ok b
  sight_first class b decides text h =
      let f = h.4 in
      let g = f.4 in
      rw (h.2, h.3.1, f.2, g.2, g.3.1) (over_letter h.3.0 _ (key_lead_skipped h.3.0 h.3.2) ∙ over_joined f.3.0 f.0 _ f.3.1 ∙ decides g.3.0 _ g.3.2)

  pub sight_pair : (text : Text) → ReadsAsPair text → sight_at fault text ≡ Ok true
  unfolding sight_at
  sight_pair = sight_first equals true (λ c rest h. rw h refl)

  pub sight_name : (text : Text) → (one key_lead then FirstIs closing) text → sight_at fault text ≡ Ok false
  unfolding sight_at
  sight_name = sight_first closing false (λ c rest h. rw (eqb-true c 93 h) refl)

-- ---- what was seen

-- What the result of `sight_at` says about the text, or the row of its fault.
abbrev pub OnSight : {E : Type 0} → (Row → E) → Text → Result Bool E → Type 0
OnSight fault text (Ok true) = FirstIs equals text
OnSight fault text (Ok false) = FirstIs closing text
OnSight fault text (Err e) =
    (seen rest : Text) × (text ≡ seen ++ rest) × many (one skipped) seen × (place : Place) × (d : Fault)
    × (e ≡ fault (row_of (of_bracket first_bracket_scan) place d)) × Stops (bracket_line first_bracket_scan) place d rest

one_more : (c : ℕ) (text : Text) → IsTrue (skipped c) → many (one skipped) text → many (one skipped) (Plain c ∷ text)
one_more c text h m = ((Plain c ∷ []) ∷ m.0, (text, refl, (c, refl, h), m.1))

module _ {E : Type 0} (fault : Row → E) where
  seen_more : (c : ℕ) (text : Text) → IsTrue (skipped c) → (r : Result Bool E) → OnSight fault text r → OnSight fault (Plain c ∷ text) r
  seen_more c text h (Ok true) s = (Plain c ∷ s.0, s.1, ap (λ t. Plain c ∷ t) s.2, one_more c s.0 h s.3, s.4)
  seen_more c text h (Ok false) s = (Plain c ∷ s.0, s.1, ap (λ t. Plain c ∷ t) s.2, one_more c s.0 h s.3, s.4)
  seen_more c text h (Err e) s = (Plain c ∷ s.0, s.1, ap (λ t. Plain c ∷ t) s.2, one_more c s.0 h s.3, s.4, s.5, s.6, s.7)

  pub sight_read : (text : Text) → OnSight fault text (sight_at fault text)
  unfolding sight_at
  sight_read [] = ([], [], refl, ([], refl), end [], abrupt_bracket, refl, (refl, refl, refl))
  sight_read (Bad ∷ rest) = ([], Bad ∷ rest, refl, ([], refl), bad (Bad ∷ rest), NonAsciiCodePoint, refl, (rest, refl, refl, refl))
  sight_read (Plain c ∷ rest) = at_letter _ _ refl refl (sight_read rest)
    where
      at_letter : (b d : Bool) → equals c ≡ b → closing c ≡ d → OnSight fault rest (sight_at fault rest)
          → OnSight fault (Plain c ∷ rest) (if b then Ok true else (if d then Ok false else sight_at fault rest))
      at_letter true d is_equals is_closing more = ([], Plain c ∷ rest, refl, ([], refl), (Plain c ∷ [], rest, refl, (c, refl, is_equals), tt))
      at_letter false true no_equals is_closing more = ([], Plain c ∷ rest, refl, ([], refl), (Plain c ∷ [], rest, refl, (c, refl, is_closing), tt))
      at_letter false false no_equals no_closing more = seen_more c rest (neither_skipped c no_equals no_closing) _ more

-- ---- names read as names

item_skipped : (part rest : Text) → NameItem part → many (one skipped) rest → many (one skipped) (part ++ rest)
item_skipped part rest (inl h) m = rw h.1 (one_more h.0 rest (zone_char_skipped h.0 h.2) m)
item_skipped part rest (inr h) m =
    rw (h.2, h.3.1, h.4.1) (one_more h.3.0 (Plain h.4.0 ∷ rest) (slash_skipped h.3.0 h.3.2) (one_more h.4.0 rest (zone_char_skipped h.4.0 h.4.2) m))

-- Parts one after the other, each of which can be put before code units that are skipped.
joined_skipped : {shape : Shape} → ((part rest : Text) → shape part → many (one skipped) rest → many (one skipped) (part ++ rest))
    → (parts : List Text) (text : Text) → Joined shape parts text → many (one skipped) text
joined_skipped each [] text h = ([], h)
joined_skipped each (part ∷ parts) text h = rw h.1 (each part h.0 h.2 (joined_skipped each parts h.0 h.3))

-- A complete name, and `]`.
pub name_reads : (text rest : Text) → ZoneName text → ReadsAsName (text ++ (Plain 93 ∷ rest))
name_reads text rest h = rw (h.2, h.3.1) (by_lead (key_lead h.3.0) refl)
  where
    by_lead : (b : Bool) → key_lead h.3.0 ≡ b → ReadsAsName (Plain h.3.0 ∷ (h.1 ++ (Plain 93 ∷ rest)))
    by_lead true is = inr (
      Plain h.3.0 ∷ [],
      h.1 ++ (Plain 93 ∷ rest),
      refl,
      (h.3.0, refl, is),
      (h.1, Plain 93 ∷ rest, refl, joined_skipped item_skipped h.4.0 h.1 h.4.1, (Plain 93 ∷ [], rest, refl, (93, refl, refl), tt)),
    )
    by_lead false is = inl (Plain h.3.0 ∷ [], h.1 ++ (Plain 93 ∷ rest), refl, (h.3.0, refl, rw (h.3.2, is) refl), tt)

-- ---- keys read as keys

-- A complete key, and `=`.
pub key_reads : (text rest : Text) → Key text → ReadsAsPair (text ++ (Plain 61 ∷ rest))
key_reads text rest h =
    let passed = joined_skipped (λ part more g m. rw g.1 (one_more g.0 more (key_char_skipped g.0 g.2) m)) h.4.0 h.1 h.4.1 in
    (h.0, h.1 ++ (Plain 61 ∷ rest), rw h.2 (simp append_assoc), h.3, (h.1, Plain 61 ∷ rest, refl, passed, (Plain 61 ∷ [], rest, refl, (61, refl, refl), tt)))
