use Rattle.std.proofs.Common.{◌<◌, ◌^◌, arith, inl, inr}
use Rattle.std.proofs.lemmas.Int.{by_lt_z}
use Rattle.ixdtf_instants.proofs.SignedLemmas.{signed_arith}
use Rattle.ixdtf_grammar.specs.Instants.{instant_count}
use Rattle.ixdtf_grammar.proofs.theorems.Instants.{clocks_in_order, counts_in_order}
use Rattle.ixdtf.proofs.laws.instants.instants_are_in_order.Goals as goal

pub returns-clause-counts : goal.returns-clause-counts
unfolding instant_count
returns-clause-counts c = λ date later_date time later_time offset h k shown shown₂.
    let order = clocks_in_order date later_date time later_time h k shown shown₂ in
    ((λ first. omega (arith, signed_arith, order.0 first)), (λ lt. order.1 (omega (arith, signed_arith))))

pub returns-clause-instants : goal.returns-clause-instants
returns-clause-instants c = counts_in_order
