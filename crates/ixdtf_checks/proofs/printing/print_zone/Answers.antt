-- Proves that the canonical text of a value that was read from a line fits into the buffer.
use Rattle.ixdtf_checks.proofs.printing.print_zone.Goals as goal
use Rattle.std.proofs.Common.{refl, arith}
use Rattle.ixdtf_checks.proofs.CanonicalLemmas.{printed_text, refused_text, zone_ready}

pub print_zone-requires : goal.print_zone-requires
print_zone-requires c = (omega arith, zone_ready c.args.text.now c.requires (rw c.from_utf8.ensures.rest at ((c.in-Ok.ensures.reads.ok _).0 refl)))

pub returns-in-Ok : goal.returns-in-Ok
returns-in-Ok c = printed_text _ (rw c.from_utf8.ensures.rest at ((c.in-Ok.ensures.reads.ok _).0 refl)) c.print_zone.ensures

pub returns-in-Err : goal.returns-in-Err
returns-in-Err c = refused_text c.from_utf8.ensures.rest (c.in-Err.ensures.reads.err, c.in-Err.ensures.reads.reason)
