use Rattle.ixdtf_print.proofs.durations.last_length.Goals as goal
use Rattle.std.proofs.Common.{arith}
use Rattle.ixdtf_print.proofs.parts.DerivedDurations.{last_long}

pub returns-clause-length : goal.returns-clause-length
returns-clause-length c = omega (arith, last_long c.args.number c.args.fraction c.args.letter)
