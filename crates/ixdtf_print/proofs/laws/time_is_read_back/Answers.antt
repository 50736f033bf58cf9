use Rattle.ixdtf_print.proofs.laws.time_is_read_back.Goals as goal
use Rattle.ixdtf_print.proofs.theorems.PrintableTimes.{time_is_read_back}

pub returns : goal.returns
returns c = time_is_read_back
