use Rattle.ixdtf.proofs.laws.offsets_agree.Goals as goal
use Rattle.ixdtf_reading.proofs.theorems.Offsets.{offsets_agree}

pub returns : goal.returns
returns c = offsets_agree
