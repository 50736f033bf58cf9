use Rattle.ixdtf_print.proofs.month_days.print_month_day_utf16.Goals as goal
use Rattle.ixdtf_print.proofs.theorems.{WideTexts.{is_printed, month_day_is_same}, PrintableMonthDays.month_day_reads_back}

pub returns : goal.returns
returns c = is_printed (month_day_is_same _ _ c.without_names-core.ensures) (month_day_reads_back _) c.print_bracketed.ensures.prints c.print_bracketed.ensures.printable
