-- Lemmas about the digits in the text of an instant.
use Rattle.std.proofs.Common.{◌≡◌, ◌≢◌, ℕ, zero, suc, ◌+◌, ◌-◌, ◌/◌, ◌%◌, ◌^◌, ◌<◌, ◌≤◌, [], ◌∷◌, refl, arith, ℤ, pos, negsuc}
use Rattle.std.proofs.Math.Nat.{one-le-pow}
use Rattle.std.proofs.lemmas.Bool.Decides.{nat_tests}
use Rattle.ixdtf_instants.specs.Texts.{digits_in, trimmed_digits, long_year, year_digits, fraction_digits}

-- A power of ten is greater than zero.
pub ten_pos : (k : ℕ) → 0 < 10 ^ k
ten_pos k = omega (arith, one-le-pow k 10 (omega arith))

-- If no digit is asked for, there is no digit.
pub digits_in-none : (number : ℕ) → digits_in 0 number ≡ []
unfolding digits_in
digits_in-none number = refl

-- The digits of a number are its first digit, and the other digits.
pub digits_in-first : (count number : ℕ) → 0 < count → digits_in count number ≡ (48 + number / 10 ^ (count - 1) % 10) ∷ digits_in (count - 1) number
unfolding digits_in
digits_in-first zero number some = absurd (omega arith)
digits_in-first (suc count) number some = let back : suc count - 1 ≡ count = omega arith in rw back refl

-- A zero at the end is removed.
pub trimmed-zero : (count number : ℕ) → 0 < count → number % 10 ≡ 0 → trimmed_digits count number ≡ trimmed_digits (count - 1) (number / 10)
unfolding trimmed_digits
trimmed-zero zero number some end = absurd (omega arith)
trimmed-zero (suc count) number some end = let back : suc count - 1 ≡ count = omega arith in rw (back, end) refl

-- If the last digit is not zero, all digits stay.
pub trimmed-other : (count number : ℕ) → number % 10 ≢ 0 → trimmed_digits count number ≡ digits_in count number
unfolding trimmed_digits digits_in
trimmed-other zero number end = refl
trimmed-other (suc count) number end = grind (arith, nat_tests)

pub trimmed-none : (number : ℕ) → trimmed_digits 0 number ≡ digits_in 0 number
unfolding trimmed_digits digits_in
trimmed-none number = refl

-- ---- years

pub year_digits-short : (y : ℤ) (n : ℕ) → y ≡ pos n → n ≤ 9999 → year_digits y ≡ digits_in 4 n
unfolding year_digits
year_digits-short y n e small = rw e (grind (arith, nat_tests))

pub year_digits-plus : (y : ℤ) (n : ℕ) → y ≡ pos n → 9999 < n → year_digits y ≡ 43 ∷ long_year n
unfolding year_digits
year_digits-plus y n e large = rw e (grind (arith, nat_tests))

pub year_digits-minus : (y : ℤ) (n : ℕ) → y ≡ negsuc (n - 1) → 0 < n → year_digits y ≡ 45 ∷ long_year n
unfolding year_digits
year_digits-minus y zero e some = absurd (omega arith)
year_digits-minus y (suc n) e some = let back : suc n - 1 ≡ n = omega arith in rw e (rw back refl)

-- ---- fractions

pub fraction_digits-none : (nanoseconds : ℕ) → nanoseconds ≡ 0 → fraction_digits nanoseconds ≡ []
unfolding fraction_digits
fraction_digits-none nanoseconds e = rw e refl

pub fraction_digits-some : (nanoseconds : ℕ) → nanoseconds ≢ 0 → fraction_digits nanoseconds ≡ 46 ∷ trimmed_digits 9 nanoseconds
unfolding fraction_digits
fraction_digits-some nanoseconds e = grind (arith, nat_tests)
