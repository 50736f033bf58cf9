-- Proves that the canonical text of a value that was read from a line fits into the buffer.
use Rattle.ixdtf_checks.proofs.printing.print_time.Goals as goal
use Rattle.std.proofs.Common.{arith}
use Rattle.ixdtf_print.{specs.Times.lone_time_text, proofs.theorems.PrintableTimes.{time_fits, time_printable}}
use Rattle.ixdtf_checks.proofs.CanonicalLemmas.{printed_text, ready, record_given, record_refused}

pub print_time-requires : goal.print_time-requires
print_time-requires c =
    let given = record_given c.parser.ensures.rest (rw c.parser.ensures.profile at c.in-Ok.ensures.reads) in
    let (has, fits) = ready lone_time_text 12 c.args.text.now (time_fits c.args.profile) (omega arith) c.requires given in (omega arith, (time_printable c.args.profile _ has, fits))

pub returns-in-Ok : goal.returns-in-Ok
returns-in-Ok c = printed_text _ (record_given c.parser.ensures.rest (rw c.parser.ensures.profile at c.in-Ok.ensures.reads)) c.print_time.ensures

pub returns-in-Err : goal.returns-in-Err
returns-in-Err c = record_refused c.parser.ensures.rest (rw c.parser.ensures.profile at c.in-Err.ensures.reads)
