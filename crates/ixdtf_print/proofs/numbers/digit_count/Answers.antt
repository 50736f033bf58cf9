use Rattle.ixdtf_print.proofs.numbers.digit_count.Goals as goal
use Rattle.std.proofs.Common.{length, ap, sym, arith}
use Rattle.ixdtf_print.proofs.code.PlainNumbers.{one_digit_is, counted}

pub returns-then-number-lt10-clause-length : goal.returns-then-number-lt10-clause-length
returns-then-number-lt10-clause-length c = sym (ap length (one_digit_is c.args.number c.if-number-lt10.true))

pub returns-clause-length : goal.returns-clause-length
returns-clause-length c =
    let power = c.ilog10.ensures in
    sym (counted c.args.number c.ilog10.result power.power_le power.next_power_gt (omega arith))
