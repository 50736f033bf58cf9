-- One iteration of the loop reads one byte.
use Rattle.ixdtf_checks.proofs.marked_text.copy_masked.Given as goal
use Rattle.std.proofs.Common.{◌≡◌, ◌<◌, ◌≤◌, ℕ, map, take, slice_index}
use Rattle.ixdtf_checks.specs.Pointed.{mask}

-- The bytes so far are written as they are shown, and none of them is greater than the greatest one.
abbrev pub invariant-loop-index : goal.invariant-loop-index
invariant-loop-index l = record {
  shown : take l.index l.room ≡ map mask (take l.index l.bytes);
  most : (place : ℕ) → place < l.index → slice_index l.bytes place ≤ l.greatest;
}
