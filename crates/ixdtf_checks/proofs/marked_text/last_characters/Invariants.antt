-- The loop goes back over the last characters.
use Rattle.ixdtf_checks.proofs.marked_text.last_characters.Given as goal
use Rattle.std.proofs.Common.{◌≡◌, ◌≤◌, length, drop}
use Rattle.std.specs.Str.{IsCharBoundary}
use Rattle.ixdtf_checks.specs.Pointed.{starts}

-- `count` is the number of characters that begin at `start` or later. If there are 48, a character begins at `start`.
abbrev pub invariant-loop-start : goal.invariant-loop-start
invariant-loop-start l = (l.start ≤ length l.bytes) × (l.count ≤ 48) × (starts (drop l.start l.bytes) ≡ l.count)
    × (48 ≤ l.count → IsCharBoundary l.bytes l.start)

abbrev pub decreases-loop-start : goal.decreases-loop-start
decreases-loop-start l = l.start
