-- Proves that the canonical text of a record that was read from a line fits into the buffer.
use Rattle.ixdtf_checks.proofs.printing.print_rfc3339.Goals as goal
use Rattle.std.proofs.Common.{refl, arith}
use Rattle.ixdtf_grammar.specs.Widths.{byte_text}
use Rattle.ixdtf_reading.proofs.theorems.Rfc3339Texts.{parse_reads_the_same}
use Rattle.ixdtf_print.proofs.theorems.PrintableRecords.{read_fits}
use Rattle.ixdtf_checks.proofs.CanonicalLemmas.{printed_text, refused_text}

pub print-requires : goal.print-requires
print-requires c =
    let given = rw c.from_utf8.ensures.rest at ((c.in-Ok.ensures.reads.ok _).0 refl) in
    (omega arith, read_fits 65792 c.args.text.now _ (parse_reads_the_same (byte_text c.args.text.now) _ given) (omega (arith, c.requires)))

pub returns-in-Ok : goal.returns-in-Ok
returns-in-Ok c = printed_text _ (rw c.from_utf8.ensures.rest at ((c.in-Ok.ensures.reads.ok _).0 refl)) c.print.ensures

pub returns-in-Err : goal.returns-in-Err
returns-in-Err c = refused_text c.from_utf8.ensures.rest (c.in-Err.ensures.reads.err, c.in-Err.ensures.reads.reason)
