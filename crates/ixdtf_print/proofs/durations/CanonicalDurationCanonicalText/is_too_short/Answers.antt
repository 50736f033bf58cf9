use Rattle.ixdtf_print.proofs.durations.CanonicalDurationCanonicalText.is_too_short.Goals as goal
use Rattle.std.proofs.Common.{arith}
use Rattle.ixdtf_print.proofs.theorems.ShortDurations.{duration_short}

pub returns-then-room-from : goal.returns-then-room-from
returns-then-room-from c =
    let counted = rw c.last_fraction.ensures at c.fraction_length-fraction.ensures.length in
    (λ yes. absurd cc, λ short. absurd (omega (arith, duration_short c.args.self.duration.now c.requires, counted, c.from.ensures, c.if-room-from.true)))
