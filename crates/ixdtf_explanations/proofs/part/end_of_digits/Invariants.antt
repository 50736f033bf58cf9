use Rattle.std.proofs.Common.{IsTrue, ℕ, ◌-◌, ◌<◌, ◌≤◌, length, map, slice_index_or}
use Rattle.ixdtf_grammar.specs.language.Letters.{digit}
use Rattle.ixdtf_explanations.proofs.part.end_of_digits.Given as goal

-- Each turn of the loop passed one digit.
abbrev pub invariant-loop-end : goal.invariant-loop-end
invariant-loop-end g l =
    (l.start ≤ l.end) × (l.end ≤ length l.text)
    × ((i : ℕ) → l.start ≤ i → i < l.end → IsTrue (digit (slice_index_or (map g.T.EncodingType.number l.text) i 0)))

abbrev pub decreases-loop-end : goal.decreases-loop-end
decreases-loop-end g l = length l.text - l.end
