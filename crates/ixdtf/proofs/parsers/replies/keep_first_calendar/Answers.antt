use Rattle.ixdtf.proofs.parsers.replies.keep_first_calendar.Goals as goal
use Rattle.std.proofs.Common.{refl, inl, inr, rules}
use Rattle.ixdtf_grammar.specs.table.Faults.Fault.{UnrecognizedCritical, CriticalDuplicateCalendar}

pub returns-then-found-clause-err : goal.returns-then-found-clause-err
returns-then-found-clause-err g c = (UnrecognizedCritical, inl (refl, refl), search rules)

pub returns-then-not-has_same_units-clause-err : goal.returns-then-not-has_same_units-clause-err
returns-then-not-has_same_units-clause-err g c = (CriticalDuplicateCalendar, inr (refl, refl), search rules)
