use Rattle.ixdtf.proofs.parsers.IxdtfParser.read_as.Goals as goal
use Rattle.ixdtf.proofs.code.Promised.{handles_by, handles_by_at}

pub returns : goal.returns
returns g c = record {
  handles = handles_by _ _ _ _ _ _ _ _ _ _ _ c.read_handled.ensures.reads;
  places = handles_by_at _ _ _ _ _ _ _ _ _ _ _ c.read_handled.ensures.reads;
}
