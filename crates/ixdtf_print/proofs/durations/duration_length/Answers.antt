use Rattle.ixdtf_print.proofs.durations.duration_length.Goals as goal
use Rattle.std.proofs.Common.{arith}
use Rattle.ixdtf_print.proofs.{code.CanonicalLengths.always_counted, theorems.ShortDurations.duration_most}

pub returns-clause-none : goal.returns-clause-none
returns-clause-none c = always_counted c.printed_length.ensures.none (λ is. omega (arith, duration_most c.args.duration.now is))
