use Rattle.ixdtf_print.proofs.laws.offset_is_read_back.Goals as goal
use Rattle.ixdtf_print.proofs.theorems.PrintableOffsets.{offset_is_read_back}

pub returns : goal.returns
returns c = offset_is_read_back
