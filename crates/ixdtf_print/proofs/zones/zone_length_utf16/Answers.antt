use Rattle.ixdtf_print.proofs.zones.zone_length_utf16.Goals as goal
use Rattle.ixdtf_print.proofs.theorems.PrintableZones.{printable_zone}

pub returns-clause-none : goal.returns-clause-none
returns-clause-none c =
    let both = printable_zone _ in
    (λ e p. c.zone_length.ensures.none.0 e (both.0 p), λ h. c.zone_length.ensures.none.1 (λ s. h (both.1 s)))
