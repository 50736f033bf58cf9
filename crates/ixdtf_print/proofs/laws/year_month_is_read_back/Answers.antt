use Rattle.ixdtf_print.proofs.laws.year_month_is_read_back.Goals as goal
use Rattle.ixdtf_print.proofs.theorems.PrintableYearMonths.{year_month_is_read_back}

pub returns : goal.returns
returns c = year_month_is_read_back
