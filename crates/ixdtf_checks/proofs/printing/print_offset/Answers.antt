-- Proves that the canonical text of a value that was read from a line fits into the buffer.
use Rattle.ixdtf_checks.proofs.printing.print_offset.Goals as goal
use Rattle.std.proofs.Common.{refl, arith}
use Rattle.ixdtf_print.{specs.Offsets.utc_offset_text, proofs.theorems.PrintableOffsets.offset_fits}
use Rattle.ixdtf_checks.proofs.CanonicalLemmas.{printed_text, ready, refused_text}

pub print_offset-requires : goal.print_offset-requires
print_offset-requires c = (omega arith, ready utc_offset_text 3 c.args.text.now offset_fits (omega arith) c.requires (rw c.from_utf8.ensures.rest at ((c.in-Ok.ensures.reads.ok _).0 refl)))

pub returns-in-Ok : goal.returns-in-Ok
returns-in-Ok c = printed_text _ (rw c.from_utf8.ensures.rest at ((c.in-Ok.ensures.reads.ok _).0 refl)) c.print_offset.ensures

pub returns-in-Err : goal.returns-in-Err
returns-in-Err c = refused_text c.from_utf8.ensures.rest (c.in-Err.ensures.reads.err, c.in-Err.ensures.reads.reason)
