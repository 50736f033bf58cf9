-- The bytes of a report, which are added twice: first to an empty array, only to count them, and then to the array of the caller.
use Rattle.std.proofs.Common.{◌≡◌, ◌∙◌, ℕ, ◌+◌, ◌^◌, ◌<◌, ◌≤◌, List, [], length, take, drop, refl, inl, inr, sym, ap, arith}
use Rattle.ixdtf_c.specs.{Adding.Adds, Reported.Writes}

-- The array is too short for the bytes.
pub too_short : {bytes none old : List ℕ} {count : ℕ} → Adds [] none 0 count bytes → length old < count → Writes bytes old old count 102
too_short counted short = let count = counted.counts in record {
  known = inr refl;
  counts = λ less. omega (arith, count, less);
  fits = λ is. absurd (omega (arith, is));
  text = λ is. absurd (omega (arith, is));
  rest = λ is. absurd (omega (arith, is));
  too_short = λ is. omega (arith, count, short);
  unchanged = λ is. refl;
}

-- The bytes fit into the array.
pub written : {bytes none old new : List ℕ} {count end : ℕ} → Adds [] none 0 count bytes → Adds old new 0 end bytes → count ≤ length old → length old < 2 ^ 63
    → Writes bytes old new count 0
written {bytes} {none} {old} {new} {count} {end} counted adds fits small =
    let is_count = counted.counts in
    let is : count ≡ 0 + length bytes = omega (arith, is_count, fits, small) in
    record {
      known = inl refl;
      counts = λ less. omega (arith, is);
      fits = λ zero. omega (arith, is, fits);
      text = λ zero. ap (λ n. take n new) is ∙ adds.is (omega (arith, is, fits, small)) (omega (arith, is, fits));
      rest = λ zero. ap (λ n. drop n new) is ∙ adds.rest (omega (arith, is, fits, small)) (omega (arith, is, fits)) ∙ ap (λ n. drop n old) (sym is);
      too_short = λ other. absurd (omega (arith, other));
      unchanged = λ other. absurd (omega (arith, other));
    }
