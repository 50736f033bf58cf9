use Rattle.std.proofs.Common.{◌≡◌, ◌≤◌}
use Rattle.ixdtf_instants.specs.Texts.{trimmed_digits}
use Rattle.ixdtf_instants.proofs.display.trimmed.Given as goal

-- The trimmed digits of the number that is left are the trimmed digits of the nanoseconds.
abbrev pub invariant-loop-count : goal.invariant-loop-count
invariant-loop-count l = (trimmed_digits l.count l.number ≡ trimmed_digits 9 l.fn.nanoseconds) × (l.count ≤ 9)

abbrev pub decreases-loop-count : goal.decreases-loop-count
decreases-loop-count l = l.count
