-- One iteration of the loop reads one byte of the first characters.
use Rattle.ixdtf_checks.proofs.marked_text.first_characters.Given as goal
use Rattle.std.proofs.Common.{◌≡◌, ◌-◌, ◌≤◌, length, take}
use Rattle.ixdtf_checks.specs.Pointed.{starts}

-- `count` is the number of characters that begin before `end`.
abbrev pub invariant-loop-end : goal.invariant-loop-end
invariant-loop-end l = (l.end ≤ length l.bytes) × (l.count ≤ 24) × (starts (take l.end l.bytes) ≡ l.count)

abbrev pub decreases-loop-end : goal.decreases-loop-end
decreases-loop-end l = length l.bytes - l.end
