use Rattle.ixdtf_c.proofs.error_constants.name_and_zero.Goals as goal
use Rattle.std.proofs.Common.{Bor, List, ℕ}
use Rattle.std.proofs.Math.ListN.{get_or-map}
use Rattle.ixdtf_c.proofs.Named.{named}

pub returns-then-number-le46 : goal.returns-then-number-le46
returns-then-number-le46 c = rw (← get_or-map (λ (it : Bor (List ℕ)). it.now)) (named _ _ c.if-number-le46.true)
