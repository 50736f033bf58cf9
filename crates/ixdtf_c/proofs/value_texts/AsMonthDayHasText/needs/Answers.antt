use Rattle.ixdtf_c.proofs.value_texts.AsMonthDayHasText.needs.Goals as goal
use Rattle.ixdtf_c.specs.Standing.{record_by}
use Rattle.ixdtf_c.proofs.Printed.{not_some, no_month_day}

pub returns-in-None-clause-none : goal.returns-in-None-clause-none
returns-in-None-clause-none g c = λ e both. not_some (record_by (g.R.RecordOf.contents c.args.self.now.record.now)) no_month_day c.in-None.ensures.digits both.0
