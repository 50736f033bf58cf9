use Rattle.ixdtf_print.proofs.laws.zone_is_read_back.Goals as goal
use Rattle.ixdtf_print.proofs.theorems.PrintableZones.{zone_is_read_back}

pub returns : goal.returns
returns c = zone_is_read_back
