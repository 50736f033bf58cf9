-- Digits of a number.
use Rattle.std.proofs.Common.{ℕ, zero, suc, ◌+◌, ◌%◌, ◌/◌, ◌^◌, ◌<◌, ◌≤◌, ◌≡◌, IsTrue, [], ◌∷◌, ◌++◌, replicate, min, ◌-◌, Some, refl}
use Rattle.std.proofs.{Common.{sym, arith, append-nil, ◌∙◌}, lemmas.Bool.Decides.nat_tests, Math.Nat.{div-one, zero-div}}
use Rattle.ixdtf.specs.language.{Letters.{Text, digit, Letter.Plain}, Shapes.digits, Digits.{padded_digits, TwoDigits, UpTo}, Fractions.FractionParts}
use Rattle.ixdtf_grammar.proofs.PaddedDigits.{decimal-whole}
use Rattle.ixdtf_print.specs.Canonical.{two_digits, minutes_text, seconds_text, fraction_digits, fraction_text}

is_digit : (n : ℕ) → IsTrue (digit (48 + n % 10))
is_digit n = grind (arith, nat_tests)

pub padded_are : (count number : ℕ) → digits count (padded_digits count number)
padded_are zero number = refl
padded_are (suc count) number = (_, _, refl, is_digit (number / 10 ^ count), padded_are count number)

pub two_are : (number : ℕ) → number < 100 → TwoDigits (two_digits number) number
unfolding two_digits
two_are number small = (padded_are 2 number, sym (decimal-whole 2 number small))

pub up_to : (greatest number : ℕ) → greatest < 100 → number ≤ greatest → UpTo greatest (two_digits number) number
unfolding two_digits
up_to greatest number g h = (padded_are 2 number, sym (decimal-whole 2 number (omega arith)), h)

-- ---- lists of digits, one after another

pub digits-append : (a b : ℕ) (xs ys : Text) → digits a xs → digits b ys → digits (a + b) (xs ++ ys)
digits-append zero b xs ys h g = rw h (let e : zero + b ≡ b = omega arith in rw e g)
digits-append (suc a) b xs ys h g =
    let e : suc a + b ≡ suc (a + b) = omega arith in
    rw e (h.0, h.1 ++ ys, rw h.2 refl, h.3, digits-append a b h.1 ys h.4 g)

pub zeros_are : (count : ℕ) → digits count (replicate count (Plain 48))
zeros_are zero = refl
zeros_are (suc count) = (48, replicate count (Plain 48), refl, refl, zeros_are count)

-- The digits of zero are zeros.
padded_zero : (count : ℕ) → padded_digits count 0 ≡ replicate count (Plain 48)
padded_zero zero = refl
padded_zero (suc count) = rw (zero-div, padded_zero count) refl

-- ---- two digits, as they are written

two_is : (number : ℕ) → two_digits number ≡ Plain (48 + number / 10 % 10) ∷ (Plain (48 + number % 10) ∷ [])
unfolding two_digits
two_is number = rw div-one refl

pub two_written : (number tens ones : ℕ) → tens ≡ 48 + number / 10 % 10 → ones ≡ 48 + number % 10 → two_digits number ≡ Plain tens ∷ (Plain ones ∷ [])
two_written number tens ones t o = rw (t, o) (two_is number)

-- An hour and a minute are `abcd` after these digits are written, and a second is `ef`.
module _ (hour minute : ℕ) {a b c d : ℕ} (p : a ≡ 48 + hour / 10 % 10) (q : b ≡ 48 + hour % 10) (r : c ≡ 48 + minute / 10 % 10) (s : d ≡ 48 + minute % 10) where
  pub minutes_written : minutes_text hour minute ≡ Plain a ∷ (Plain b ∷ (Plain 58 ∷ (Plain c ∷ (Plain d ∷ []))))
  unfolding minutes_text
  minutes_written = rw (two_written hour a b p q, two_written minute c d r s) refl

  pub seconds_written : (second : ℕ) {e f : ℕ} → e ≡ 48 + second / 10 % 10 → f ≡ 48 + second % 10
      → seconds_text hour minute second ≡ Plain a ∷ (Plain b ∷ (Plain 58 ∷ (Plain c ∷ (Plain d ∷ (Plain 58 ∷ (Plain e ∷ (Plain f ∷ [])))))))
  unfolding seconds_text
  seconds_written second {e} {f} t u = rw (two_written hour a b p q, two_written minute c d r s, two_written second e f t u) refl

pub fraction_is : (fraction : FractionParts) → fraction_text (Some fraction)
    ≡ (Plain 46 ∷ []) ++ (padded_digits (min fraction.count 18) fraction.value ++ padded_digits (fraction.count - 18) 0)
unfolding fraction_digits
fraction_is fraction = rw (padded_zero (fraction.count - 18)) refl

-- If a fraction has at most 18 digits, no zeros follow its value.
pub few_digits_are : (fraction : FractionParts) → fraction.count ≤ 18 → fraction_text (Some fraction)
    ≡ (Plain 46 ∷ []) ++ padded_digits (min fraction.count 18) fraction.value
few_digits_are fraction few =
    let none : fraction.count - 18 ≡ 0 = omega arith in
    fraction_is fraction ∙ rw (none, append-nil (padded_digits (min fraction.count 18) fraction.value)) refl
