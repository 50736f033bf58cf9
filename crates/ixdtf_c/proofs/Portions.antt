-- Fractions of a duration unit of `seconds` seconds, in nanoseconds.
use Rattle.std.proofs.Common.{◌≡◌, ◌≢◌, ℕ, ◌+◌, ◌-◌, ◌*◌, ◌/◌, ◌%◌, ◌^◌, ◌<◌, ◌≤◌, Option, Some, None, IfSome, IfNone, sym, ap, ◌∙◌, arith}
use Rattle.std.proofs.lemmas.Nat.{div-add-mod', mul-mod_first, pow-add}
use Rattle.std.proofs.Math.Nat.{mul-mod_left, mul-le-mul_right, one-le-pow, pow-le-pow_right}
use Rattle.ixdtf_c.specs.Computed.{AreExactly}

-- ---- The exponent of a power of ten, written in another way.

pub power_of : {power exponent digits : ℕ} → power ≡ 10 ^ exponent → exponent ≡ digits → power ≡ 10 ^ digits
power_of is same = is ∙ ap (λ k. 10 ^ k) same

pub below_power : {value power exponent digits : ℕ} → value < power → power ≡ 10 ^ exponent → exponent ≡ digits → value < 10 ^ digits
below_power less is same = rw (power_of is same) at less

-- ---- The quotient and the remainder are multiplied separately.

pub whole_part : (value divisor seconds : ℕ) → (value % divisor * seconds) % divisor ≡ 0
    → (value / divisor * seconds + value % divisor * seconds / divisor) * divisor ≡ value * seconds
whole_part value divisor seconds none =
    let parts : value / divisor * divisor + value % divisor ≡ value = div-add-mod' value divisor in
    let times : (value / divisor * divisor + value % divisor) * seconds ≡ value * seconds = ap (λ x. x * seconds) parts in
    let rest : value % divisor * seconds / divisor * divisor + (value % divisor * seconds) % divisor ≡ value % divisor * seconds
    = div-add-mod' (value % divisor * seconds) divisor in
    omega (arith, times, rest, none)

pub no_part : (value divisor seconds n : ℕ) → n * divisor ≡ value * seconds → (value % divisor * seconds) % divisor ≡ 0
no_part value divisor seconds n is =
    mul-mod_first value seconds divisor ∙ ap (λ x. x % divisor) (sym is) ∙ mul-mod_left n divisor

-- ---- Fractions of at most nine digits.

module _ (value digits seconds power : ℕ) (few : digits ≤ 9) (is : power ≡ 10 ^ (9 - digits)) (less : value < 10 ^ digits) where
  nine : 10 ^ (9 - digits) * 10 ^ digits ≡ 10 ^ 9
  nine =
      let sum : 9 - digits + digits ≡ 9 = omega (arith, few) in
      sym (pow-add 10 (9 - digits) digits) ∙ ap (λ k. 10 ^ k) sum

  pub few_exact : value * power * seconds * 10 ^ digits ≡ value * (seconds * 1_000_000_000)
  few_exact =
      let all : power * 10 ^ digits ≡ 1_000_000_000 = ap (λ p. p * 10 ^ digits) is ∙ nine in
      let times : power * 10 ^ digits * (value * seconds) ≡ 1_000_000_000 * (value * seconds) = ap (λ x. x * (value * seconds)) all in
      omega (arith, times)

  pub few_bound : seconds ≤ 3600 → value * power * seconds < 2 ^ 52
  few_bound small =
      let all : power * 10 ^ digits ≡ 1_000_000_000 = ap (λ p. p * 10 ^ digits) is ∙ nine in
      let below : value * power ≤ 10 ^ digits * power = mul-le-mul_right power (omega (arith, less)) in
      let bound : value * power ≤ 1_000_000_000 = omega (arith, all, below) in
      let first : value * power * seconds ≤ 1_000_000_000 * seconds = mul-le-mul_right seconds bound in
      omega (arith, first, small)

-- ---- Fractions of more than nine digits.

module _ (value digits seconds power : ℕ) (many : 9 < digits) (most : digits ≤ 18) (is : power ≡ 10 ^ (digits - 9)) where
  pub many_range : (1 ≤ power) × (power ≤ 1_000_000_000)
  many_range = rw is (
    one-le-pow (digits - 9) 10 (omega arith),
    pow-le-pow_right {n = 10} (omega arith) {i = digits - 9} {j = 9} (omega (arith, most)),
  )

  split : 10 ^ digits ≡ power * 1_000_000_000
  split =
      let sum : digits ≡ digits - 9 + 9 = omega (arith, many) in
      ap (λ k. 10 ^ k) sum ∙ pow-add 10 (digits - 9) 9 ∙ ap (λ p. p * 10 ^ 9) (sym is)

  pub many_below : value < 10 ^ digits → value < power * 1_000_000_000
  many_below less = omega (arith, less, split)

  many_exact : (n : ℕ) → n * power ≡ value * seconds → n * 10 ^ digits ≡ value * (seconds * 1_000_000_000)
  many_exact n whole =
      let times : n * 10 ^ digits ≡ n * (power * 1_000_000_000) = ap (λ x. n * x) split in
      omega (arith, times, whole)

  many_whole : (n : ℕ) → n * 10 ^ digits ≡ value * (seconds * 1_000_000_000) → n * power ≡ value * seconds
  many_whole n exact =
      let times : n * 10 ^ digits ≡ n * (power * 1_000_000_000) = ap (λ x. n * x) split in
      omega (arith, times, exact)

  pub many_some : value < 10 ^ digits → (found : Option ℕ) → IfSome found (λ n. n * power ≡ value * seconds)
      → IfSome found (λ n. AreExactly seconds (Some (record { count = digits; value = value })) n)
  many_some less None whole = tt
  many_some less (Some n) whole = (most, less, many_exact n whole)

  pub many_none : (found : Option ℕ) → IfNone found ((n : ℕ) → n * power ≢ value * seconds)
      → IfNone found ((n : ℕ) → ¬ (AreExactly seconds (Some (record { count = digits; value = value })) n))
  many_none None never = λ n are. never n (many_whole n are.2)
  many_none (Some n) never = tt
