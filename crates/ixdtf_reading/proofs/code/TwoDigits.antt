-- Two digits, read by looks at the first two indices, and their number.
use Rattle.ixdtf_grammar.specs.declared.reason.Reason.{Reason}
use Rattle.std.proofs.Common.{◌≡◌, ◌∙◌, ℕ, ◌+◌, ◌-◌, ◌*◌, ◌/◌, ◌%◌, ◌≤◌, ◌<◌, true, IsTrue, IsFalse, List, [], ◌∷◌, length, map, drop, Option, Some, None, Result, Ok, Err, refl, arith}
use Rattle.std.proofs.lemmas.Bool.Decides.{nat_tests}
use Rattle.std.proofs.lemmas.Nat.{div-mul-add, mod-mul-add}
use Rattle.std.proofs.Math.Nat.{div-one, mod-eq_of_lt}
use Rattle.ixdtf_grammar.proofs.PaddedDigits.{decimal-whole}
use Rattle.ixdtf_grammar.specs.language.Digits.{decimal}
use Rattle.ixdtf_reading.specs.{reading.Looks.{Placed, Read, ◌>>=◌, look_at, next_by, digits_by, digit_look, two_digits_by, two_digits_of}}
use Rattle.ixdtf_reading.specs.reading.FixedPlaces.{byte_place, first_byte, tens_value, ones_value}
use Rattle.ixdtf_grammar.specs.language.Letters.{Text, digit, Letter.{Plain, Bad}}

module _ (first second : Reason) where
  abbrev two : Text → Read Placed Text
  two text = two_digits_by first second text

  -- The first code unit is no digit.
  pub no_first : (text : Text) → IsFalse (digit (byte_place 0 text)) → two text ≡ Err (first, text)
  unfolding two_digits_by next_by look_at
  no_first [] none = refl
  no_first (Bad ∷ rest) none = refl
  no_first (Plain c ∷ rest) none = rw none refl

  abbrev alone : ℕ × Text → Read Placed Text
  alone next = Ok (Plain next.0 ∷ [], next.1)

  abbrev before_all : ℕ → Text × Text → Read Placed Text
  before_all a more = Ok (Plain a ∷ more.0, more.1)

  abbrev after : ℕ → ℕ × Text → Read Placed Text
  after a next = Ok (Plain a ∷ Plain next.0 ∷ [], next.1)

  joined : (a : ℕ) (r : Read Placed ℕ) → ((r >>= alone) >>= before_all a) ≡ (r >>= after a)
  joined a (Ok x) = refl
  joined a (Err e) = refl

  after_first : (a : ℕ) (rest : Text) → IsTrue (digit a) → two (Plain a ∷ rest) ≡ (next_by (digit_look second) rest >>= after a)
  unfolding two_digits_by next_by digits_by look_at
  after_first a rest is = rw is (joined a (next_by (digit_look second) rest))

  -- The first code unit is a digit, and the second is none.
  pub no_second : (text : Text) → IsTrue (digit (byte_place 0 text)) → IsFalse (digit (byte_place 1 text)) → two text ≡ Err (second, drop 1 text)
  unfolding next_by look_at
  no_second [] is none = absurd cc
  no_second (Bad ∷ rest) is none = absurd cc
  no_second (Plain a ∷ rest) is none = after_first a rest is ∙ go rest none
    where
      go : (rest : Text) → IsFalse (digit (first_byte rest)) → (next_by (digit_look second) rest >>= after a) ≡ Err (second, rest)
      go [] none = refl
      go (Bad ∷ more) none = refl
      go (Plain c ∷ more) none = rw none refl

  -- The first code unit is a digit, and there is no second one.
  pub short_second : (text : Text) → length text < 2 → IsTrue (digit (byte_place 0 text)) → two text ≡ Err (second, drop 1 text)
  short_second [] short is = absurd cc
  short_second (Plain a ∷ []) short is = no_second (Plain a ∷ []) is refl
  short_second (Bad ∷ rest) short is = absurd cc
  short_second (x ∷ y ∷ rest) short is = absurd (omega arith)

  -- The first two code units are digits.
  pub both : (text : Text) → IsTrue (digit (byte_place 0 text)) → IsTrue (digit (byte_place 1 text))
      → two text ≡ Ok (Plain (byte_place 0 text) ∷ Plain (byte_place 1 text) ∷ [], drop 2 text)
  unfolding next_by look_at
  both [] is is_too = absurd cc
  both (Bad ∷ rest) is is_too = absurd cc
  both (Plain a ∷ rest) is is_too = after_first a rest is ∙ go rest is_too
    where
      go : (rest : Text) → IsTrue (digit (first_byte rest))
          → (next_by (digit_look second) rest >>= after a) ≡ Ok (Plain a ∷ Plain (first_byte rest) ∷ [], drop 1 rest)
      go [] is = absurd cc
      go (Bad ∷ more) is = absurd cc
      go (Plain c ∷ more) is = rw is refl

-- ---- the number of two digits

pub value_is : (number : ℕ) → number < 100 → decimal (two_digits_of number) ≡ number
unfolding two_digits_of
value_is number small = decimal-whole 2 number small

-- The sum of the table entries of two digits is their number.
pub are_written : (a b : ℕ) → IsTrue (digit a) → IsTrue (digit b) → two_digits_of (tens_value a + ones_value b) ≡ Plain a ∷ Plain b ∷ []
unfolding two_digits_of
are_written a b is_a is_b =
    let number : tens_value a + ones_value b ≡ (a - 48) * 10 + (b - 48) = grind (arith, nat_tests) in
    let small_a : a - 48 < 10 = grind (arith, nat_tests) in
    let small_b : b - 48 < 10 = grind (arith, nat_tests) in
    let a_is : 48 + (a - 48) ≡ a = grind (arith, nat_tests) in
    let b_is : 48 + (b - 48) ≡ b = grind (arith, nat_tests) in
    let tens : ((a - 48) * 10 + (b - 48)) / 10 % 10 ≡ a - 48 = rw (div-mul-add (a - 48) 10 (b - 48) small_b) (mod-eq_of_lt small_a) in
    let ones : ((a - 48) * 10 + (b - 48)) / 1 % 10 ≡ b - 48 = rw div-one (mod-mul-add (a - 48) 10 (b - 48) small_b) in
    rw number (rw (tens, ones, a_is, b_is) refl)
