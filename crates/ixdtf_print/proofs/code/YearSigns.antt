-- Years by their signs.
use Rattle.std.proofs.Common.{ℕ, ◌<◌, ◌≤◌, ◌≡◌, ℤ, pos, negsuc, nat_abs, true, false, [], ◌∷◌, ◌++◌, refl, arith, nat_le}
use Rattle.std.proofs.lemmas.{Bool.Decides.nat_tests, Int.ints}
use Rattle.std.specs.Prelude.{◌≤ℤ◌, ◌<ℤ◌}
use Rattle.ixdtf.specs.language.{Letters.Letter.Plain, Digits.padded_digits}
use Rattle.ixdtf_print.specs.Canonical.{year_text}

pub negative_year : (year : ℤ) (distance : ℕ) → distance ≡ nat_abs year → year <ℤ pos 0 → year_text year ≡ (Plain 45 ∷ []) ++ padded_digits 6 distance
unfolding year_text
negative_year (pos n) distance is h = absurd (omega (arith, ints))
negative_year (negsuc n) distance is h = rw is refl

pub four_digit_year : (year : ℤ) (distance : ℕ) → distance ≡ nat_abs year → pos 0 ≤ℤ year → distance ≤ 9999 → year_text year ≡ padded_digits 4 distance
unfolding year_text
four_digit_year (pos n) distance is h few = let test : nat_le n 9999 ≡ true = grind (arith, nat_tests, few, is) in rw (is, test) refl
four_digit_year (negsuc n) distance is h few = absurd (omega (arith, ints))

pub far_year : (year : ℤ) (distance : ℕ) → distance ≡ nat_abs year → pos 0 ≤ℤ year → 9999 < distance
    → year_text year ≡ (Plain 43 ∷ []) ++ padded_digits 6 distance
unfolding year_text
far_year (pos n) distance is h many = let test : nat_le n 9999 ≡ false = grind (arith, nat_tests, many, is) in rw (is, test) refl
far_year (negsuc n) distance is h many = absurd (omega (arith, ints))

pub ruleset years = (negative_year, four_digit_year, far_year)
