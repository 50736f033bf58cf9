use Rattle.ixdtf_print.proofs.zones.CanonicalZoneCanonicalText.is_printable.Goals as goal
use Rattle.ixdtf_print.proofs.theorems.PrintableZones.{tests_zone}

pub returns : goal.returns
returns c = tests_zone _ c.is_zone.ensures
