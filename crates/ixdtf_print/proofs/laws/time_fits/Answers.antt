use Rattle.ixdtf_print.proofs.laws.time_fits.Goals as goal
use Rattle.ixdtf_print.proofs.theorems.PrintableTimes.{time_fits}

pub returns : goal.returns
returns c = time_fits
