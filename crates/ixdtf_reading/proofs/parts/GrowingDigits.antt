-- The number of digits to which one more digit is appended.
use Rattle.std.proofs.Common.{◌≡◌, ℕ, suc, ◌+◌, ◌-◌, ◌*◌, ◌^◌, ◌≤◌, ◌<◌, [], ◌∷◌, ◌++◌, length, take, min, refl, ap, ◌∙◌, arith, take_all}
use Rattle.std.proofs.{Common.{inl, inr}, lemmas.{Bool.cases_lt, List.{length-append, take-append-le}}, Math.Nat.pow-succ'}
use Rattle.ixdtf_grammar.specs.language.{Letters.{Letter, Text, Letter.Plain}, Digits.{decimal, digit_value}}
use Rattle.ixdtf_grammar.specs.language.Fractions.{FractionParts, fraction_of, value_of}

longer : (ds : Text) (c : Letter) → 10 ^ length (ds ++ (c ∷ [])) ≡ 10 * 10 ^ length ds
longer ds c = let e : length (ds ++ (c ∷ [])) ≡ suc (length ds) = omega (arith, length-append ds (c ∷ [])) in rw e (pow-succ' 10 (length ds))

pub decimal_snoc : (ds : Text) (c : Letter) → decimal (ds ++ (c ∷ [])) ≡ decimal ds * 10 + digit_value c
decimal_snoc [] c = omega arith
decimal_snoc (d ∷ ds) c = rw (longer ds c, decimal_snoc ds c) (omega arith)

length_snoc : (ds : Text) (c : Letter) → length (ds ++ (c ∷ [])) ≡ length ds + 1
length_snoc ds c = omega (arith, length-append ds (c ∷ []))

value_grows : (ds : Text) (c : ℕ) → length ds < 18 → value_of (ds ++ (Plain c ∷ [])) ≡ value_of ds * 10 + (c - 48)
value_grows ds c short =
    let whole : take 18 (ds ++ (Plain c ∷ [])) ≡ ds ++ (Plain c ∷ []) = take_all 18 _ (omega (arith, length_snoc ds (Plain c))) in
    let all : take 18 ds ≡ ds = take_all 18 ds (omega arith) in
    rw (whole, all) (decimal_snoc ds (Plain c))

value_stays : (ds : Text) (c : ℕ) → 18 ≤ length ds → value_of (ds ++ (Plain c ∷ [])) ≡ value_of ds
value_stays ds c long = rw (take-append-le 18 ds _ long) refl

-- A fraction before and after one more digit.
pub record Grown (before after : FractionParts) (c : ℕ) : Type 0 where
  pub count : after.count ≡ min (before.count + 1) 255
  pub grows : before.count < 18 → after.value ≡ before.value * 10 + (c - 48)
  pub stays : 18 ≤ before.count → after.value ≡ before.value

-- One more digit of a fraction with fewer than 18 digits. The next lemma is for at least 18 digits.
pub grown_by_digit : (before after : FractionParts) (c : ℕ) → before.count < 18
    → after ≡ record { count = before.count + 1; value = before.value * 10 + (c - 48) } → Grown before after c
grown_by_digit before after c short is = record {
  count = omega (arith, ap (λ f. f.count) is);
  grows = λ _. ap (λ f. f.value) is;
  stays = λ long. absurd (omega arith);
}

pub grown_by_count : (before after : FractionParts) (c : ℕ) → 18 ≤ before.count
    → after ≡ record { count = min (before.count + 1) 255; value = before.value } → Grown before after c
grown_by_count before after c long is = record {
  count = ap (λ f. f.count) is;
  grows = λ short. absurd (omega arith);
  stays = λ _. ap (λ f. f.value) is;
}

same_fraction : (f g : FractionParts) → f.count ≡ g.count → f.value ≡ g.value → f ≡ g
same_fraction f g p q = λ i. record { count = p i; value = q i }

-- The fraction of some digits and one more.
pub fraction_grows : (ds : Text) (before after : FractionParts) (c : ℕ) → before ≡ fraction_of ds → Grown before after c
    → after ≡ fraction_of (ds ++ (Plain c ∷ []))
fraction_grows ds before after c is g =
    let count : before.count ≡ min (length ds) 255 = ap (λ f. f.count) is in
    let value : before.value ≡ value_of ds = ap (λ f. f.value) is in
    same_fraction after _ (omega (arith, length_snoc ds (Plain c), g.count, count)) (elim (cases_lt (length ds) 18) [
      | inl short ↦ g.grows (omega arith) ∙ rw (value, value_grows ds c short) refl
      | inr long ↦ g.stays (omega arith) ∙ value ∙ rw (value_stays ds c long) refl
    ])
