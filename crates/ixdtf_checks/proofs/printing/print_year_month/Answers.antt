-- Proves that the canonical text of a value that was read from a line fits into the buffer.
use Rattle.ixdtf_checks.proofs.printing.print_year_month.Goals as goal
use Rattle.std.proofs.Common.{arith}
use Rattle.ixdtf_print.{specs.YearMonths.year_month_text, proofs.theorems.PrintableYearMonths.year_month_fits}
use Rattle.ixdtf_checks.proofs.CanonicalLemmas.{printed_text, ready, record_given, record_refused}

pub print_year_month-requires : goal.print_year_month-requires
print_year_month-requires c = (omega arith, ready year_month_text 4 c.args.text.now year_month_fits (omega arith) c.requires (record_given c.from_utf8.ensures.rest c.in-Ok.ensures.reads))

pub returns-in-Ok : goal.returns-in-Ok
returns-in-Ok c = printed_text _ (record_given c.from_utf8.ensures.rest c.in-Ok.ensures.reads) c.print_year_month.ensures

pub returns-in-Err : goal.returns-in-Err
returns-in-Err c = record_refused c.from_utf8.ensures.rest c.in-Err.ensures.reads
