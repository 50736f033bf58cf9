use Rattle.ixdtf_c.proofs.reason_numbers.reason_by_number.Goals as goal
use Rattle.std.proofs.Common.{arith}
use Rattle.ixdtf_c.proofs.Reasoned.{reason_at}

pub returns-clause-some : goal.returns-clause-some
returns-clause-some c = reason_at _ _ (omega (arith, c.if-number-lt1.false)) (omega (arith, c.if-number-gt126.false))
