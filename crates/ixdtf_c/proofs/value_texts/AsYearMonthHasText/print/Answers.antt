use Rattle.ixdtf_c.proofs.value_texts.AsYearMonthHasText.print.Goals as goal
use Rattle.ixdtf_c.specs.Standing.{record_by}
use Rattle.ixdtf_c.proofs.Printed.{refused, not_some, no_year_month}

pub returns-in-None-clause-prints : goal.returns-in-None-clause-prints
returns-in-None-clause-prints g c = refused (not_some (record_by (g.R.RecordOf.contents c.args.self.now.record.now)) no_year_month c.in-None.ensures.digits)

pub returns-in-Some-clause-prints : goal.returns-in-Some-clause-prints
returns-in-Some-clause-prints g c = rw c.in-Some.ensures.found c.print_year_month.ensures.prints
