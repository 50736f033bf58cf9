use Rattle.ixdtf.proofs.parsers.IxdtfParser.parse_time_located.Goals as goal
use Rattle.std.proofs.Common.{refl}
use Rattle.ixdtf.proofs.code.Promised.{reads_err_at}

pub returns-in-Err : goal.returns-in-Err
returns-in-Err g c = record { reads = reads_err_at _ _ _ _ _ _ _ _ c.error.ensures refl refl c.in-Err.ensures.reads }
