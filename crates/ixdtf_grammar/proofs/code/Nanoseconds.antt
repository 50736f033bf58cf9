-- Lemmas about the nanoseconds of a fraction. They compute the number that its first nine digits stand for from the value of the fraction.
use Rattle.std.proofs.Common.{true, cond, nat_le, Some, None, ◌≡◌, ◌<◌, ◌≤◌, ℕ, suc, ◌+◌, ◌-◌, ◌*◌, ◌/◌, ◌^◌, min, ◌++◌, length, take, refl, sym, ap, ◌∙◌}
use Rattle.std.proofs.{Common.arith, lemmas.{Bool.Decides.nat_tests, Nat.{pow-add, div_below}, List.{length-take-le, take-append-le}}}
use Rattle.std.proofs.Math.{Nat.{pow-succ', pow-le-pow_right, mod-eq_of_lt, min-le_right, mul-lt-mul_of_pos_right}, Seq.take-append-add}
use Rattle.ixdtf_grammar.specs.language.{Letters.Text, Digits.{decimal, padded_digits}, Fractions.{FractionParts, exact_nanoseconds_of, nanoseconds_of}}
use Rattle.ixdtf_grammar.proofs.PaddedDigits.{ten_pos, length-padded, decimal-append, decimal-padded, decimal-zeros, decimal-whole}

-- If there are fewer digits than wanted, zeros fill the number on the right.
pub filled : (wanted count more number : ℕ) → wanted ≡ count + more → number < 10 ^ count
    → decimal (take wanted (padded_digits count number ++ padded_digits wanted 0)) ≡ number * 10 ^ more
filled wanted count more number e fits =
    let digits = padded_digits count number in let zeros = padded_digits wanted 0 in
    let room : wanted ≡ length digits + more = omega (arith, length-padded count number) in
    let enough : more ≤ length zeros = omega (arith, length-padded wanted 0) in
    let none : decimal (take more zeros) ≡ 0 = decimal-zeros more wanted (omega arith) in
    ap (λ k. decimal (take k (digits ++ zeros))) room ∙
    ap decimal (take-append-add digits zeros more) ∙
    decimal-append digits _ ∙
    rw (length-take-le more zeros enough, none, decimal-whole count number fits) (omega arith)

-- A number without its last `left` digits has at most `wanted` digits.
many-small : (left wanted count number : ℕ) → count ≡ wanted + left → number < 10 ^ count → number / 10 ^ left < 10 ^ wanted
many-small left wanted count number e fits =
    div_below number (10 ^ left) (10 ^ wanted) (ten_pos left) (omega (arith, ap (λ k. 10 ^ k) e, pow-add 10 wanted left))

-- If there are more digits than wanted, a division removes the last digits.
pub cut : (wanted left count number : ℕ) (after : Text) → count ≡ wanted + left → number < 10 ^ count
    → decimal (take wanted (padded_digits count number ++ after)) ≡ number / 10 ^ left
cut wanted left count number after e fits =
    let digits = padded_digits count number in
    let enough : wanted ≤ length digits = omega (arith, length-padded count number) in
    let small : number / 10 ^ left < 10 ^ wanted = many-small left wanted count number e fits in
    ap decimal (take-append-le wanted digits after enough) ∙
    decimal-padded wanted left count number e ∙
    mod-eq_of_lt small

-- A number of at most `count` digits with `more` zeros after it is less than 10 ^ `wanted`.
few-small : (count more wanted number : ℕ) → wanted ≡ count + more → number < 10 ^ count → number * 10 ^ more < 10 ^ wanted
few-small count more wanted number e fits =
    let moved : number * 10 ^ more < 10 ^ count * 10 ^ more = mul-lt-mul_of_pos_right fits (ten_pos more) in
    omega (arith, moved, pow-add 10 count more, ap (λ k. 10 ^ k) e)

-- The number is that of the nanoseconds of the fraction, and it is less than 10 ^ 9.
pub record AreNanoseconds (fraction : FractionParts) (nanoseconds : ℕ) : Type 0 where
  pub value : nanoseconds ≡ nanoseconds_of fraction
  pub small : nanoseconds < 10 ^ 9

-- For a fraction of at most nine digits, the product with the power of ten is the number of its nanoseconds.
pub nanoseconds-few : (count value power : ℕ) → count ≤ 9 → value < 10 ^ min count 18 → power ≡ 10 ^ (9 - count)
    → AreNanoseconds (record { count = count; value = value }) (value * power)
nanoseconds-few count value power few fits is_power =
    let places : min count 18 ≡ count = omega arith in
    let all : value < 10 ^ count = omega (arith, ap (λ k. 10 ^ k) places) in
    rw is_power (record {
      value =
          sym (ap (λ k. decimal (take 9 (padded_digits k value ++ padded_digits 9 0))) places ∙
          filled 9 count (9 - count) value (omega arith) all);
      small = few-small count (9 - count) 9 value (omega arith) all;
    })

-- For a fraction of more than nine digits, the quotient by the power of ten is the number of its nanoseconds.
pub nanoseconds-many : (count value power : ℕ) → 9 < count → value < 10 ^ min count 18 → power ≡ 10 ^ (min count 18 - 9)
    → AreNanoseconds (record { count = count; value = value }) (value / power)
nanoseconds-many count value power many fits is_power =
    let more : min count 18 ≡ 9 + (min count 18 - 9) = omega arith in
    rw is_power (record {
      value = sym (cut 9 (min count 18 - 9) (min count 18) value _ more fits);
      small = many-small (min count 18 - 9) 9 (min count 18) value more fits;
    })

-- The nanoseconds of a fraction of at most nine digits are exact.
pub exact_few : (fraction : FractionParts) → fraction.count ≤ 9 → fraction.value < 10 ^ min fraction.count 18
    → Some (nanoseconds_of fraction) ≡ exact_nanoseconds_of fraction
exact_few fraction few fits =
    let test : true ≡ nat_le fraction.count 9 = grind (arith, nat_tests, few) in
    let value = (nanoseconds-few fraction.count fraction.value _ few fits refl).value in
    ap Some (sym value) ∙ ap (λ b. cond b (Some (fraction.value * 10 ^ (9 - fraction.count))) None) test

-- If one more digit is added to a value of fewer than 18 digits, the new value fits its digits.
pub one_more : (count number digit : ℕ) → count < 18 → number < 10 ^ min count 18 → digit ≤ 9 → number * 10 + digit < 10 ^ min (count + 1) 18
one_more count number digit few fits small =
    let before : min count 18 ≡ count = omega arith in
    let after : min (count + 1) 18 ≡ suc count = omega arith in
    omega (arith, ap (λ k. 10 ^ k) before, ap (λ k. 10 ^ k) after, pow-succ' 10 count)

-- The value of a fraction has at most 18 digits.
pub eighteen : (count : ℕ) → 10 ^ min count 18 ≤ 10 ^ 18
eighteen count = pow-le-pow_right (omega arith) (min-le_right count 18)
