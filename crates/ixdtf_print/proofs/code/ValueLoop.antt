-- One byte more of a value.
use Rattle.std.proofs.Common.{ℕ, ◌+◌, ◌<◌, ◌≤◌, ◌≡◌, ◌≢◌, ◌↔◌, ◌⊎◌, inl, inr, IsTrue, IsFalse, Bool, true, false, cond, ◌&&◌, List, [], ◌∷◌, map, drop}
use Rattle.std.proofs.{Common.{get_or, length, refl, ◌∙◌, ap, arith, add-one, subst}, Math.Seq.drop-cons, lemmas.{List.drop_all, Bool.Decides.nat_tests}}
use Rattle.ixdtf.specs.language.{Letters.{Text, hyphen, value_char, Letter.Plain}, Brackets.Value}
use Rattle.ixdtf_print.proofs.code.ValueTest.{goes_as_value, value_test}

-- The bytes from index `i` on continue a value.
abbrev pub from_place : Bool → List ℕ → ℕ → Bool
from_place in_run bytes i = goes_as_value in_run (map Plain (drop i bytes))

opened : (in_run : Bool) (c : ℕ) (rest : Text) → goes_as_value in_run (Plain c ∷ rest)
    ≡ cond (value_char c) (goes_as_value true rest) (cond (hyphen c && in_run) (goes_as_value false rest) false)
unfolding goes_as_value
opened in_run c rest = refl

here : (in_run : Bool) (bytes : List ℕ) (i : ℕ) → i < length bytes → from_place in_run bytes i ≡
    cond (value_char (get_or bytes i 0)) (from_place true bytes (i + 1)) (cond (hyphen (get_or bytes i 0) && in_run) (from_place false bytes (i + 1)) false)
here in_run bytes i h =
    let e : drop i bytes ≡ get_or bytes i 0 ∷ drop (i + 1) bytes = rw add-one (drop-cons bytes i 0 h) in
    ap (λ t. goes_as_value in_run (map Plain t)) e ∙ opened in_run (get_or bytes i 0) (map Plain (drop (i + 1) bytes))

-- The loop goes on after the byte at index `i`: `next` says whether a run of letters and digits is open after this byte.
module _ (in_run next : Bool) (bytes : List ℕ) (i : ℕ) (all : from_place false bytes 0 ≡ from_place in_run bytes i) (h : i < length bytes) where
  pub over_value_byte : value_char (get_or bytes i 0) ≡ true → next ≡ true → from_place false bytes 0 ≡ from_place next bytes (i + 1)
  over_value_byte t is = all ∙ here in_run bytes i h ∙ rw (t, is) refl

  pub over_mark : value_char (get_or bytes i 0) ≡ false → get_or bytes i 0 ≡ 45 → in_run ≡ true → next ≡ false
      → from_place false bytes 0 ≡ from_place next bytes (i + 1)
  over_mark t e r is =
      let mark : hyphen (get_or bytes i 0) ≡ true = rw e refl in
      all ∙ here in_run bytes i h ∙ rw (t, mark, r, is) refl

not_both : (a b : Bool) → ((IsFalse a) ⊎ (b ≡ false)) → (a && b) ≡ false
not_both true b (inl h) = absurd cc
not_both true b (inr h) = h
not_both false b h = refl

pub value_refused : (in_run : Bool) (bytes : List ℕ) (i : ℕ) → from_place false bytes 0 ≡ from_place in_run bytes i → i < length bytes
    → value_char (get_or bytes i 0) ≡ false
    → ((get_or bytes i 0 ≢ 45) ⊎ (in_run ≡ false)) → IsTrue false ↔ Value (map Plain bytes)
value_refused in_run bytes i all h t other =
    let neither : (IsFalse (hyphen (get_or bytes i 0))) ⊎ (in_run ≡ false) = elim other [ inl ne ↦ inl (grind (arith, nat_tests, ne)) | inr r ↦ inr r ] in
    let none : (hyphen (get_or bytes i 0) && in_run) ≡ false = not_both (hyphen (get_or bytes i 0)) in_run neither in
    let refused : goes_as_value false (map Plain bytes) ≡ false = all ∙ here in_run bytes i h ∙ rw (t, none) refl in
    subst (λ b. IsTrue b ↔ Value (map Plain bytes)) refused (value_test (map Plain bytes))

at_end : (in_run : Bool) → goes_as_value in_run [] ≡ in_run
unfolding goes_as_value
at_end in_run = refl

pub value_ends : (in_run : Bool) (bytes : List ℕ) (i : ℕ) → from_place false bytes 0 ≡ from_place in_run bytes i → length bytes ≤ i
    → IsTrue in_run ↔ Value (map Plain bytes)
value_ends in_run bytes i all h =
    let none : drop i bytes ≡ [] = drop_all i bytes h in
    let ends : goes_as_value false (map Plain bytes) ≡ in_run = all ∙ ap (λ t. goes_as_value in_run (map Plain t)) none ∙ at_end in_run in
    subst (λ b. IsTrue b ↔ Value (map Plain bytes)) ends (value_test (map Plain bytes))
