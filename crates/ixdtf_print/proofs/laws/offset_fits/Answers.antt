use Rattle.ixdtf_print.proofs.laws.offset_fits.Goals as goal
use Rattle.ixdtf_print.proofs.theorems.PrintableOffsets.{offset_fits}

pub returns : goal.returns
returns c = offset_fits
