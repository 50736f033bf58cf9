use Rattle.ixdtf_c.proofs.duration_fractions.quotient.Goals as goal
use Rattle.ixdtf_c.proofs.Portions.{whole_part, no_part}

pub returns-then-rest-divisor-ne0-clause-none : goal.returns-then-rest-divisor-ne0-clause-none
returns-then-rest-divisor-ne0-clause-none c = λ n is. c.if-rest-divisor-ne0.true (no_part c.args.value c.args.divisor c.args.seconds n is)

pub returns-clause-some : goal.returns-clause-some
returns-clause-some c = whole_part c.args.value c.args.divisor c.args.seconds c.if-rest-divisor-ne0.false
