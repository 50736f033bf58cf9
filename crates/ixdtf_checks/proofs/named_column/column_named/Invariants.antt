-- One iteration of the loop skips one field.
use Rattle.ixdtf_checks.proofs.named_column.column_named.Given as goal
use Rattle.std.proofs.Common.{◌≡◌, ◌-◌, ◌≤◌, length, Some}
use Rattle.ixdtf_checks.specs.{Columns.AreFound, Parts.field_start}
use Rattle.ixdtf_checks.proofs.ColumnLemmas.{IsNamedBelow}

-- The next field begins at `start`, after `before` other fields. `found` says which of these have the name.
abbrev pub invariant-fields : goal.invariant-fields
invariant-fields l = record {
  starts : field_start l.separator l.before l.line ≡ Some l.start;
  within : l.start ≤ length l.line;
  few : l.before ≤ l.start;
  are : AreFound (IsNamedBelow l.separator l.name l.line l.before) l.found;
}

abbrev pub decreases-fields : goal.decreases-fields
decreases-fields l = length l.line - l.start
