use Rattle.ixdtf_c.proofs.duration_fractions.exact_nanoseconds.Goals as goal
use Rattle.std.proofs.Common.{rules, ◌<◌, ◌^◌, ◌*◌}
use Rattle.ixdtf_c.proofs.Portions.{power_of, below_power, few_exact, few_bound, many_range, many_below, many_some, many_none}

pub overflow_mul-result-then-digits-le9 : goal.overflow_mul-result-then-digits-le9
overflow_mul-result-then-digits-le9 c =
    let bound : c.args.value * c.pow-then-digits-le9.result * c.args.seconds < 2 ^ 52
    = few_bound c.args.value c.args.digits c.args.seconds _ c.if-digits-le9.true (power_of c.pow-then-digits-le9.ensures c.from-then-digits-le9.ensures)
    (below_power c.if-value-pow.false c.pow.ensures c.from.ensures) c.requires.seconds in
    search (rules, bound)

pub returns-then-digits-le9-clause-some : goal.returns-then-digits-le9-clause-some
returns-then-digits-le9-clause-some c =
    let less = below_power c.if-value-pow.false c.pow.ensures c.from.ensures in
    (c.if-digits-gt18.false, less, few_exact c.args.value c.args.digits c.args.seconds _ c.if-digits-le9.true (power_of c.pow-then-digits-le9.ensures c.from-then-digits-le9.ensures) less)

pub returns-then-digits-le9-clause-small : goal.returns-then-digits-le9-clause-small
returns-then-digits-le9-clause-small c =
    few_bound c.args.value c.args.digits c.args.seconds _ c.if-digits-le9.true (power_of c.pow-then-digits-le9.ensures c.from-then-digits-le9.ensures)
    (below_power c.if-value-pow.false c.pow.ensures c.from.ensures) c.requires.seconds

pub quotient-requires-clause-divisor : goal.quotient-requires-clause-divisor
quotient-requires-clause-divisor c =
    many_range c.args.value c.args.digits c.args.seconds _ c.if-digits-le9.false c.if-digits-gt18.false (power_of c.pow-2.ensures c.from-2.ensures)

pub quotient-requires-clause-value : goal.quotient-requires-clause-value
quotient-requires-clause-value c =
    many_below c.args.value c.args.digits c.args.seconds _ c.if-digits-le9.false c.if-digits-gt18.false (power_of c.pow-2.ensures c.from-2.ensures)
    (below_power c.if-value-pow.false c.pow.ensures c.from.ensures)

pub returns-clause-some : goal.returns-clause-some
returns-clause-some c =
    many_some c.args.value c.args.digits c.args.seconds _ c.if-digits-le9.false c.if-digits-gt18.false (power_of c.pow-2.ensures c.from-2.ensures)
    (below_power c.if-value-pow.false c.pow.ensures c.from.ensures) c.quotient.result c.quotient.ensures.some

pub returns-clause-none : goal.returns-clause-none
returns-clause-none c =
    many_none c.args.value c.args.digits c.args.seconds _ c.if-digits-le9.false c.if-digits-gt18.false (power_of c.pow-2.ensures c.from-2.ensures)
    c.quotient.result c.quotient.ensures.none
