-- The loop goes back to the first byte of a character.
use Rattle.ixdtf_checks.proofs.marked_text.character_at.Given as goal
use Rattle.std.proofs.Common.{◌≡◌, ◌+◌, ◌≤◌, take}
use Rattle.ixdtf_checks.specs.Pointed.{starts}

-- No character begins after the byte at `start`, up to the position.
abbrev pub invariant-loop-start : goal.invariant-loop-start
invariant-loop-start l = (l.start ≤ l.place) × (starts (take (l.start + 1) l.bytes) ≡ starts (take (l.place + 1) l.bytes))

abbrev pub decreases-loop-start : goal.decreases-loop-start
decreases-loop-start l = l.start
