-- The handler returns each annotation.
use Rattle.ixdtf.proofs.parsers.IxdtfParser.read_unhandled.Goals as goal
use Rattle.std.proofs.Common.{rules}
use Rattle.ixdtf.proofs.code.Promised.{unhandled}

pub returns : goal.returns
returns g c = record { reads = unhandled _ _ _ _ _ _ _ _ _ _ (λ state annotation reply next stepped. search rules) c.read_into.ensures.reads }
