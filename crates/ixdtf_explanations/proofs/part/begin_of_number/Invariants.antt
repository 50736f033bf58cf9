use Rattle.std.proofs.Common.{◌≡◌, ◌≤◌, IsTrue, ℕ, ◌<◌, length, map, take, slice_index_or}
use Rattle.ixdtf_explanations.specs.Parts.{of_number}
use Rattle.ixdtf_explanations.proofs.part.begin_of_number.Given as goal

-- Each turn of the loop passed one code unit of the number.
abbrev pub invariant-loop-front : goal.invariant-loop-front
invariant-loop-front g l =
    (length l.front ≤ l.end) × (l.front ≡ take (length l.front) l.text)
    × ((i : ℕ) → length l.front ≤ i → i < l.end → IsTrue (of_number (slice_index_or (map g.T.EncodingType.number l.text) i 0)))

abbrev pub decreases-loop-front : goal.decreases-loop-front
decreases-loop-front g l = length l.front
