use Rattle.ixdtf_print.proofs.year_months.print_year_month_utf16.Goals as goal
use Rattle.ixdtf_print.proofs.theorems.{WideTexts.{is_printed, year_month_is_same}, PrintableYearMonths.year_month_is_read_back}

pub returns : goal.returns
returns c = is_printed (year_month_is_same _ _ c.without_names-core.ensures) (year_month_is_read_back _) c.print_bracketed.ensures.prints c.print_bracketed.ensures.printable
