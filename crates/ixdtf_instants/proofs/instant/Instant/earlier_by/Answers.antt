use Rattle.std.proofs.Common.{arith}
use Rattle.ixdtf_instants.proofs.SignedLemmas.{signed_casts}
use Rattle.ixdtf_instants.proofs.instant.Instant.earlier_by.Goals as goal

pub returns-clause-value : goal.returns-clause-value
returns-clause-value c = omega (arith, signed_casts)
