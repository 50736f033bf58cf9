use Rattle.ixdtf_c.proofs.value_texts.AsMonthDayHasText.print.Goals as goal
use Rattle.ixdtf_c.specs.Standing.{record_by}
use Rattle.ixdtf_c.proofs.Printed.{refused, not_some, no_month_day}

pub returns-in-None-clause-prints : goal.returns-in-None-clause-prints
returns-in-None-clause-prints g c = refused (not_some (record_by (g.R.RecordOf.contents c.args.self.now.record.now)) no_month_day c.in-None.ensures.digits)

pub returns-in-Some-clause-prints : goal.returns-in-Some-clause-prints
returns-in-Some-clause-prints g c = rw c.in-Some.ensures.found c.print_month_day.ensures.prints
