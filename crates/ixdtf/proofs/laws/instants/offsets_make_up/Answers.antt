use Rattle.std.proofs.Common.{arith}
use Rattle.ixdtf_instants.proofs.SignedLemmas.{signed_arith}
use Rattle.ixdtf_grammar.specs.Instants.{instant_count}
use Rattle.ixdtf.proofs.laws.instants.offsets_make_up.Goals as goal

pub returns : goal.returns
unfolding instant_count
returns c date other_date time other_time offset other_offset =
    ((λ h. omega (arith, signed_arith)), (λ h. omega (arith, signed_arith)))
