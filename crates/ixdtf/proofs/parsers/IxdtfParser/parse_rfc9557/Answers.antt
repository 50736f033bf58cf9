use Rattle.ixdtf.proofs.parsers.IxdtfParser.parse_rfc9557.Goals as goal
use Rattle.ixdtf.proofs.code.Promised.{reads_err}

pub returns-in-Err : goal.returns-in-Err
returns-in-Err g c = record { reads = reads_err _ _ _ _ _ _ _ _ _ c.error.ensures c.in-Err.ensures.reads }
