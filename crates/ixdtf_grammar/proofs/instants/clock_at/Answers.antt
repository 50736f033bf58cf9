use Rattle.std.proofs.Common.{arith, rules, FitsSigned, w32, to_z-of_z}
use Rattle.ixdtf_instants.proofs.SignedLemmas.{signed_casts}
use Rattle.ixdtf_grammar.proofs.instants.clock_at.Goals as goal

pub returns-clause-value : goal.returns-clause-value
returns-clause-value c =
    let fits : FitsSigned w32 c.args.date.now.year = search rules in
    let days = simp to_z-of_z at c.in_ok-days.ensures.value in
    omega (arith, signed_casts, days, c.in_ok-days.ensures.low, c.in_ok-days.ensures.high, c.from.ensures, c.seconds_in-seconds.ensures.value, c.seconds_in-seconds.ensures.bound, c.nanoseconds_in.ensures.value, c.min.ensures)

pub returns-clause-near : goal.returns-clause-near
returns-clause-near c =
    omega (arith, signed_casts, c.in_ok-days.ensures.low, c.in_ok-days.ensures.high, c.from.ensures, c.seconds_in-seconds.ensures.bound)
