use Rattle.ixdtf_print.proofs.laws.year_month_fits.Goals as goal
use Rattle.ixdtf_print.proofs.theorems.PrintableYearMonths.{year_month_fits}

pub returns : goal.returns
returns c = year_month_fits
