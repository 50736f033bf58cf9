use Rattle.ixdtf_print.proofs.durations.length_of_duration.Goals as goal
use Rattle.std.proofs.Common.{arith}
use Rattle.ixdtf_print.proofs.parts.DerivedDurations.{duration_long}

pub returns-clause-length : goal.returns-clause-length
returns-clause-length c = omega (arith, duration_long c.args.duration.now)
