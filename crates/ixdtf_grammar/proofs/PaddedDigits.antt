-- Lemmas about the digits of a number with leading zeros: how many digits there are, and which number they stand for. Crates above use
-- this module.
use Rattle.std.proofs.Common.{◌≡◌, ◌<◌, ◌≤◌, ℕ, zero, suc, ◌+◌, ◌-◌, ◌*◌, ◌/◌, ◌%◌, ◌^◌, [], ◌∷◌, ◌++◌, length, take, take_all, refl, sym, ap, ◌∙◌, arith}
use Rattle.std.proofs.Math.{Nat.{pow-succ', one-le-pow, div-one, mod-one, zero-div, zero-mod, mod-eq_of_lt, div-div-eq-div-mul}, Arith.mod-mul}
use Rattle.std.proofs.lemmas.{Nat.pow-add, List.{length-append, length-take-le}}
use Rattle.ixdtf_grammar.specs.language.{Letters.Text, Digits.{decimal, padded_digits}}

-- A power of ten is greater than zero.
pub ten_pos : (k : ℕ) → 0 < 10 ^ k
ten_pos k = omega (arith, one-le-pow k 10 (omega arith))

-- `padded_digits` gives `count` digits.
pub length-padded : (count number : ℕ) → length (padded_digits count number) ≡ count
length-padded zero number = refl
length-padded (suc count) number = omega (arith, length-padded count number)

-- This is the number that two texts of digits stand for, one after the other.
pub decimal-append : (a b : Text) → decimal (a ++ b) ≡ decimal a * 10 ^ length b + decimal b
decimal-append [] b = omega arith
decimal-append (c ∷ a) b = rw (length-append a b, pow-add 10 _ _, decimal-append a b) (omega arith)

-- To divide by a power of ten and then by another is to divide by the power with the sum of the exponents.
divided_twice : (i j number : ℕ) → number / 10 ^ (i + j) ≡ number / 10 ^ i / 10 ^ j
divided_twice i j number = ap (λ p. number / p) (pow-add 10 i j) ∙ sym (div-div-eq-div-mul number (10 ^ i) (10 ^ j))

-- This is the number with one more digit at its beginning.
digit_in_front : (k w : ℕ) → (48 + w / 10 ^ k % 10 - 48) * 10 ^ k + w % 10 ^ k ≡ w % 10 ^ suc k
digit_in_front k w =
    let bare : 48 + w / 10 ^ k % 10 - 48 ≡ w / 10 ^ k % 10 = omega arith in
    rw (bare, pow-succ' 10 k) (sym (mod-mul w {m = 10} {c = 10 ^ k} (omega arith) (ten_pos k)))

-- The first padded digits stand for the number without its last `left` digits.
pub decimal-padded : (first left count number : ℕ) → count ≡ first + left → decimal (take first (padded_digits count number)) ≡ number / 10 ^ left % 10 ^ first
decimal-padded zero left count number e = sym (mod-one (number / 10 ^ left))
decimal-padded (suc first) left zero number e = absurd (omega arith)
decimal-padded (suc first) left (suc count) number e =
    let split : count ≡ left + first = omega arith in
    let enough : first ≤ length (padded_digits count number) = omega (arith, length-padded count number) in
    let power : number / 10 ^ count ≡ number / 10 ^ left / 10 ^ first = ap (λ k. number / 10 ^ k) split ∙ divided_twice left first number in
    let tail : decimal (take first (padded_digits count number)) ≡ number / 10 ^ left % 10 ^ first = decimal-padded first left count number (omega arith) in
    rw (length-take-le first _ enough, tail, power) (digit_in_front first (number / 10 ^ left))

-- The first padded digits of zero stand for zero.
pub decimal-zeros : (first count : ℕ) → first ≤ count → decimal (take first (padded_digits count 0)) ≡ 0
decimal-zeros first count h =
    decimal-padded first (count - first) count 0 (omega arith) ∙ rw zero-div (zero-mod (10 ^ first))

-- If a number has at most `count` digits, its padded digits stand for it.
pub decimal-whole : (count number : ℕ) → number < 10 ^ count → decimal (padded_digits count number) ≡ number
decimal-whole count number fits =
    let all : take count (padded_digits count number) ≡ padded_digits count number = take_all count _ (omega (arith, length-padded count number)) in
    sym (ap decimal all) ∙ decimal-padded count 0 count number (omega arith) ∙ rw div-one (mod-eq_of_lt fits)
