-- Proves that the canonical text of a record that was read from a line fits into the buffer.
use Rattle.ixdtf_checks.proofs.printing.print_date_time.Goals as goal
use Rattle.std.proofs.Common.{arith}
use Rattle.ixdtf_print.proofs.theorems.PrintableRecords.{read_fits}
use Rattle.ixdtf_checks.proofs.CanonicalLemmas.{printed_text, record_given, record_refused}

pub print-requires : goal.print-requires
print-requires c =
    let given = record_given c.from_utf8.ensures.rest c.in-Ok.ensures.reads in
    (omega arith, read_fits 65792 c.args.text.now _ given (omega (arith, c.requires)))

pub returns-in-Ok : goal.returns-in-Ok
returns-in-Ok c = printed_text _ (record_given c.from_utf8.ensures.rest c.in-Ok.ensures.reads) c.print.ensures

pub returns-in-Err : goal.returns-in-Err
returns-in-Err c = record_refused c.from_utf8.ensures.rest c.in-Err.ensures.reads
