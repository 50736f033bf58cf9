-- One iteration of the loop goes past one field and its separator.
use Rattle.ixdtf_checks.proofs.named_column.found_in_record.Given as goal
use Rattle.ixdtf_checks.specs.{Columns.{AreFound, IsNamedCell}, Walks.IsBehind}

-- The line begins with some fields, and this is the index after them. `found` says which of these have the name.
abbrev pub invariant-fields : goal.invariant-fields
invariant-fields l = (behind : IsBehind l.separator l.before l.line l.start) × AreFound (IsNamedCell behind.earlier l.name) l.found
