use Rattle.ixdtf_print.proofs.laws.duration_fits.Goals as goal
use Rattle.ixdtf_print.proofs.theorems.PrintableDurations.{duration_fits}

pub returns : goal.returns
returns c = duration_fits
