-- A test of the values of annotations, and the proof that it accepts exactly these values.
use Rattle.std.proofs.Common.{ℕ, ◌≡◌, ◌↔◌, IsTrue, Bool, true, false, cond, ◌&&◌, if◌then◌else◌, List, [], ◌∷◌, ◌++◌, refl, ◌∙◌, arith}
use Rattle.std.proofs.lemmas.Bool.Decides.{nat_tests}
use Rattle.ixdtf.specs.language.{Letters.{Text, hyphen, value_char, Letter.{Plain, Bad}}, Shapes.{Shape, one, ◌then◌, many, Joined}}
use Rattle.ixdtf.specs.language.Brackets.{Value, ValueRun}

-- The code units continue a value up to its end. `in_run` says whether the code unit before them is in a run.
unfoldable pub goes_as_value : Bool → Text → Bool
goes_as_value in_run [] = in_run
goes_as_value in_run (Bad ∷ rest) = false
goes_as_value in_run (Plain c ∷ rest) = if value_char c then goes_as_value true rest else (if hyphen c && in_run then goes_as_value false rest else false)

-- The texts that can follow a code unit of a run.
abbrev Rest : Shape
Rest = many (one value_char) then many (one hyphen then ValueRun)

abbrev Goes : Bool → Shape
Goes true = Rest
Goes false = Value

one_more : (c : ℕ) (rest : Text) → IsTrue (value_char c) → Rest rest → Rest (Plain c ∷ rest)
one_more c rest h (run, runs, is, (parts, joined), more) = (Plain c ∷ run, runs, rw is refl, ((Plain c ∷ []) ∷ parts, (run, refl, (c, refl, h), joined)), more)

begins : (c : ℕ) (rest : Text) → IsTrue (value_char c) → Rest rest → Value (Plain c ∷ rest)
begins c rest h (run, runs, is, letters, more) = (Plain c ∷ run, runs, rw is refl, (Plain c ∷ [], run, refl, (c, refl, h), letters), more)

next_run : (c : ℕ) (rest : Text) → IsTrue (hyphen c) → Value rest → Rest (Plain c ∷ rest)
next_run c rest h (run, runs, is, letters, (parts, joined)) =
    ([], Plain c ∷ rest, refl, ([], refl), ((Plain c ∷ run) ∷ parts, (runs, rw is refl, (Plain c ∷ [], run, refl, (c, refl, h), letters), joined)))

spells : (in_run : Bool) (text : Text) → IsTrue (goes_as_value in_run text) → Goes in_run text
unfolding goes_as_value
spells true [] h = ([], [], refl, ([], refl), ([], refl))
spells false [] h = absurd cc
spells in_run (Bad ∷ rest) h = absurd cc
spells in_run (Plain c ∷ rest) h = by_letter in_run (value_char c) (hyphen c) (λ t. t) (λ t. t) (spells true rest) (spells false rest) h
  where
    by_letter : (in_run letter mark : Bool) → (IsTrue letter → IsTrue (value_char c)) → (IsTrue mark → IsTrue (hyphen c))
        → (IsTrue (goes_as_value true rest) → Rest rest) → (IsTrue (goes_as_value false rest) → Value rest)
        → IsTrue (cond letter (goes_as_value true rest) (cond (mark && in_run) (goes_as_value false rest) false)) → Goes in_run (Plain c ∷ rest)
    by_letter true true mark is_letter is_mark in_letters at_run h = one_more c rest (is_letter refl) (in_letters h)
    by_letter false true mark is_letter is_mark in_letters at_run h = begins c rest (is_letter refl) (in_letters h)
    by_letter true false true is_letter is_mark in_letters at_run h = next_run c rest (is_mark refl) (at_run h)
    by_letter true false false is_letter is_mark in_letters at_run h = absurd cc
    by_letter false false true is_letter is_mark in_letters at_run h = absurd cc
    by_letter false false false is_letter is_mark in_letters at_run h = absurd cc

-- ---- the other way

over_letter : (in_run : Bool) (c : ℕ) (rest : Text) → IsTrue (value_char c) → goes_as_value in_run (Plain c ∷ rest) ≡ goes_as_value true rest
unfolding goes_as_value
over_letter in_run c rest h = rw h refl

over_hyphen : (c : ℕ) (rest : Text) → IsTrue (hyphen c) → goes_as_value true (Plain c ∷ rest) ≡ goes_as_value false rest
unfolding goes_as_value
over_hyphen c rest h =
    let none : value_char c ≡ false = grind (arith, nat_tests, h) in
    rw (none, h) refl

over_letters : (parts : List Text) (text rest : Text) → Joined (one value_char) parts text → goes_as_value true (text ++ rest) ≡ goes_as_value true rest
over_letters [] text rest h = rw h refl
over_letters (part ∷ parts) text rest (more, is, (c, letter, h), joined) =
    rw (is, letter) (over_letter true c (more ++ rest) h ∙ over_letters parts more rest joined)

over_run : (text rest : Text) → ValueRun text → goes_as_value false (text ++ rest) ≡ goes_as_value true rest
over_run text rest (first, more, is, (c, letter, h), (parts, joined)) =
    rw (is, letter) (over_letter false c (more ++ rest) h ∙ over_letters parts more rest joined)

over_runs : (parts : List Text) (text : Text) → Joined (one hyphen then ValueRun) parts text → IsTrue (goes_as_value true text)
unfolding goes_as_value
over_runs [] text h = rw h refl
over_runs (part ∷ parts) text (more, is, (mark, run, split, (c, hyphened, h), letters), joined) =
    rw (is, split, hyphened) (over_hyphen c (run ++ more) h ∙ over_run run more letters ∙ over_runs parts more joined)

goes : (text : Text) → Value text → IsTrue (goes_as_value false text)
goes text (run, runs, is, letters, (parts, joined)) = rw is (over_run run runs letters ∙ over_runs parts runs joined)

pub value_test : (text : Text) → IsTrue (goes_as_value false text) ↔ Value text
value_test text = (spells false text, goes text)
