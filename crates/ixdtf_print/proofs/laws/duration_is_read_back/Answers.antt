use Rattle.ixdtf_print.proofs.laws.duration_is_read_back.Goals as goal
use Rattle.ixdtf_print.proofs.theorems.PrintableDurations.{duration_is_read_back}

pub returns : goal.returns
returns c = duration_is_read_back
