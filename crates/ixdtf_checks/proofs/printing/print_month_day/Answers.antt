-- Proves that the canonical text of a value that was read from a line fits into the buffer.
use Rattle.ixdtf_checks.proofs.printing.print_month_day.Goals as goal
use Rattle.std.proofs.Common.{arith}
use Rattle.ixdtf_print.{specs.MonthDays.month_day_text, proofs.theorems.PrintableMonthDays.{month_day_fits, month_day_printable}}
use Rattle.ixdtf_checks.proofs.CanonicalLemmas.{printed_text, ready, record_given, record_refused}

pub print_month_day-requires : goal.print_month_day-requires
print_month_day-requires c =
    let given = record_given c.parser.ensures.rest (rw c.parser.ensures.profile at c.in-Ok.ensures.reads) in
    let (has, fits) = ready month_day_text 4 c.args.text.now (month_day_fits c.args.profile) (omega arith) c.requires given in (omega arith, (month_day_printable c.args.profile _ has, fits))

pub returns-in-Ok : goal.returns-in-Ok
returns-in-Ok c = printed_text _ (record_given c.parser.ensures.rest (rw c.parser.ensures.profile at c.in-Ok.ensures.reads)) c.print_month_day.ensures

pub returns-in-Err : goal.returns-in-Err
returns-in-Err c = record_refused c.parser.ensures.rest (rw c.parser.ensures.profile at c.in-Err.ensures.reads)
