use Rattle.ixdtf_print.proofs.zones.print_zone_utf16.Goals as goal
use Rattle.ixdtf_print.proofs.theorems.{WideTexts.{is_printed, zone_is_same}, PrintableZones.zone_is_read_back}

pub returns : goal.returns
returns c = is_printed (zone_is_same _) (zone_is_read_back _) c.print_zone.ensures.prints c.print_zone.ensures.printable
