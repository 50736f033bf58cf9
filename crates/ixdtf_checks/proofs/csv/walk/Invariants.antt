-- One iteration of the loop goes past one field and its separator.
use Rattle.ixdtf_checks.proofs.csv.walk.Given as goal
use Rattle.std.proofs.Common.{◌≡◌, ℕ, ◌+◌}
use Rattle.ixdtf_checks.specs.Walks.{IsBehind}

-- The line begins with some fields, and this is the index after them.
abbrev pub invariant-fields : goal.invariant-fields
invariant-fields l = (passed : ℕ) × (passed + l.left ≡ l.count) × IsBehind l.separator passed l.line l.start

abbrev pub decreases-fields : goal.decreases-fields
decreases-fields l = l.left
