use Rattle.ixdtf_print.proofs.year_months.CanonicalYearMonthCanonicalText.is_printable.Goals as goal
use Rattle.ixdtf_print.proofs.theorems.PrintableYearMonths.{tests_year_month}

pub returns : goal.returns
returns c = tests_year_month _ c.is_spelled.ensures
