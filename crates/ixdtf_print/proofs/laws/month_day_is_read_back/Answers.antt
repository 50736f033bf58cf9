use Rattle.ixdtf_print.proofs.laws.month_day_is_read_back.Goals as goal
use Rattle.ixdtf_print.proofs.theorems.PrintableMonthDays.{month_day_is_read_back}

pub returns : goal.returns
returns c = month_day_is_read_back
