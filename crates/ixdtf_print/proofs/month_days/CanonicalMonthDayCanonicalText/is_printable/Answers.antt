use Rattle.ixdtf_print.proofs.month_days.CanonicalMonthDayCanonicalText.is_printable.Goals as goal
use Rattle.ixdtf_print.proofs.theorems.PrintableMonthDays.{tests_month_day}

pub returns : goal.returns
returns c = tests_month_day _ c.is_spelled.ensures
