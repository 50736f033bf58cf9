use Rattle.ixdtf.proofs.parsers.IxdtfParser.read_lending_handler.Goals as goal
use Rattle.ixdtf.proofs.code.Promised.{handles_by_to}

pub returns : goal.returns
returns g c = record { handles = handles_by_to _ _ _ _ _ _ _ _ _ _ _ c.read_handled.ensures.reads }
