-- Digits of a number that was multiplied by a power of two.
use Rattle.std.proofs.Common.{ℕ, ◌+◌, ◌-◌, ◌*◌, ◌/◌, ◌%◌, ◌<◌, ◌≤◌, ◌≡◌, ◌∙◌, sym, ap, arith, add-mul, mul_right_comm}
use Rattle.std.proofs.lemmas.Nat.{div-add-mod', div-mul-add, mod-mul-add, mul-add-lt}

-- The numbers of a scaled number of four digits are its first two digits and its last two.
pub four_pairs : (n first second : ℕ) → n < 10000 → first ≡ n * 42949673 → second ≡ first % 4294967296 * 100
    → (first / 4294967296 ≡ n / 100) × (second / 4294967296 ≡ n % 100)
four_pairs n first second small f s = (omega arith, omega arith)

-- A scaled number of two digits is at most this number, and below the next one. So its whole part is the number.
whole : (m scaled : ℕ) → m * 4294967296 ≤ scaled → scaled < m * 4294967296 + 4294967296 → scaled / 4294967296 ≡ m
whole m scaled least most = omega arith

-- The whole part of a scaled number is its first digits. What is left is a scaled number of the other digits.
step : (n scaled d : ℕ) → 0 < d → n * 4294967296 ≤ scaled * d → scaled * d < n * 4294967296 + 4294967296
    → (scaled / 4294967296 ≡ n / d) × (n % d * 4294967296 ≤ scaled % 4294967296 * d) × (scaled % 4294967296 * d < n % d * 4294967296 + 4294967296)
step n scaled d some least most =
    let q = scaled / 4294967296 in
    let r = scaled % 4294967296 in
    let products : scaled * d ≡ (q * d) * 4294967296 + r * d =
    ap (λ k. k * d) (sym (div-add-mod' scaled 4294967296)) ∙ add-mul (q * 4294967296) r d ∙ ap (λ k. k + r * d) (mul_right_comm q 4294967296 d) in
    let below : r * d + 0 < d * 4294967296 = mul-add-lt r d 0 4294967296 (omega arith) some in
    let whole : n ≡ q * d + (n - q * d) = omega (arith, products, most) in
    let small : n - q * d < d = omega (arith, products, least, below, whole) in
    let first : n / d ≡ q = ap (λ k. k / d) whole ∙ div-mul-add q d (n - q * d) small in
    let others : n % d ≡ n - q * d = ap (λ k. k % d) whole ∙ mod-mul-add q d (n - q * d) small in
    (sym first, rw others (omega (arith, products, least, whole)), rw others (omega (arith, products, most, whole)))

-- The numbers of a scaled number of eight digits are its four pairs of digits.
pub eight_pairs : (n first second third fourth : ℕ) → n < 100000000 → first ≡ n * 281474977 / 65536 + 1
    → second ≡ first % 4294967296 * 100 → third ≡ second % 4294967296 * 100 → fourth ≡ third % 4294967296 * 100
    → (first / 4294967296 ≡ n / 1000000) × (second / 4294967296 ≡ n % 1000000 / 10000)
    × (third / 4294967296 ≡ n % 1000000 % 10000 / 100) × (fourth / 4294967296 ≡ n % 1000000 % 10000 % 100)
eight_pairs n first second third fourth small f s t u =
    let least : n * 4294967296 ≤ first * 1000000 = omega arith in
    let most : first * 1000000 < n * 4294967296 + 4294967296 = omega arith in
    let one = step n first 1000000 (omega arith) least most in
    let two = step (n % 1000000) second 10000 (omega arith) (omega (arith, one.1)) (omega (arith, one.2)) in
    let three = step (n % 1000000 % 10000) third 100 (omega arith) (omega (arith, two.1)) (omega (arith, two.2)) in
    let four = whole (n % 1000000 % 10000 % 100) fourth (omega (arith, three.1)) (omega (arith, three.2)) in
    (one.0, two.0, three.0, four)
