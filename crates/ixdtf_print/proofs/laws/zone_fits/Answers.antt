use Rattle.ixdtf_print.proofs.laws.zone_fits.Goals as goal
use Rattle.ixdtf_print.proofs.theorems.PrintableZones.{zone_fits}

pub returns : goal.returns
returns c = zone_fits
