use Rattle.ixdtf_print.proofs.laws.month_day_fits.Goals as goal
use Rattle.ixdtf_print.proofs.theorems.PrintableMonthDays.{month_day_fits}

pub returns : goal.returns
returns c = month_day_fits
