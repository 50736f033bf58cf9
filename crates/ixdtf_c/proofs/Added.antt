-- Texts that are added to an array one after the other.
use Rattle.std.proofs.Common.{◌≡◌, ◌∙◌, ℕ, ◌+◌, ◌^◌, ◌<◌, List, [], ◌∷◌, ◌++◌, length, take, drop, replicate, refl, sym, ap, arith, append_assoc, append-nil}
use Rattle.std.proofs.lemmas.List.{length-append, drop-drop, replicate-append-replicate}
use Rattle.ixdtf_c.specs.Adding.{Adds}

-- Nothing was added.
pub adds_nothing : (room : List ℕ) (at : ℕ) → at < 2 ^ 64 → Adds room room at at []
adds_nothing room at small = record {
  counts = omega (arith, small);
  room = refl;
  is = λ less fits. rw (append-nil (take at room)) (ap (λ n. take n room) (omega arith));
  rest = λ less fits. refl;
}

-- The same text was added, written in another way.
pub adds_as : {a b : List ℕ} {i j : ℕ} {xs ys : List ℕ} → xs ≡ ys → Adds a b i j xs → Adds a b i j ys
adds_as same adds = rw (← same) adds

-- One text was added, and then another.
pub adds_then : {a b c : List ℕ} {i j k : ℕ} {xs ys : List ℕ} → Adds a b i j xs → Adds b c j k ys → Adds a c i k (xs ++ ys)
adds_then {a} {b} {c} {i} {j} {k} {xs} {ys} p q =
    let both = length-append xs ys in
    let one = p.counts in
    let two = q.counts in
    let room = p.room in
    record {
      counts = omega (arith, both, one, two);
      room = q.room ∙ p.room;
      is = λ less fits.
          let at : j ≡ i + length xs = omega (arith, both, one, less) in
          let whole : i + length (xs ++ ys) ≡ j + length ys = omega (arith, both, at) in
          let front : take j b ≡ take i a ++ xs = ap (λ n. take n b) at ∙ p.is (omega (arith, both, less)) (omega (arith, both, fits)) in
          ap (λ n. take n c) whole ∙ q.is (omega (arith, whole, less)) (omega (arith, whole, fits, room)) ∙ rw front (append_assoc (take i a) xs ys);
      rest = λ less fits.
          let at : j ≡ i + length xs = omega (arith, both, one, less) in
          let whole : i + length (xs ++ ys) ≡ j + length ys = omega (arith, both, at) in
          let behind : drop j b ≡ drop j a = ap (λ n. drop n b) at ∙ p.rest (omega (arith, both, less)) (omega (arith, both, fits)) ∙ ap (λ n. drop n a) (sym at) in
          ap (λ n. drop n c) whole ∙ q.rest (omega (arith, whole, less)) (omega (arith, whole, fits, room))
          ∙ sym (drop-drop (length ys) j b) ∙ ap (drop (length ys)) behind ∙ drop-drop (length ys) j a ∙ ap (λ n. drop n a) (sym whole);
    }

-- A byte was added once more.
pub once_more : {a b c : List ℕ} {i j k : ℕ} (byte count : ℕ) → Adds a b i j (replicate count byte) → Adds b c j k (byte ∷ []) → Adds a c i k (replicate (count + 1) byte)
once_more byte count p q = adds_as (replicate-append-replicate count 1 byte) (adds_then p q)
