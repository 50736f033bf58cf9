use Rattle.std.proofs.Common.{arith}
use Rattle.ixdtf_instants.proofs.{SignedLemmas.{signed_arith}, LawLemmas.{day_number-epoch}}
use Rattle.ixdtf_grammar.specs.Instants.{instant_count}
use Rattle.ixdtf_grammar.proofs.theorems.Instants.{next_number}
use Rattle.ixdtf.proofs.laws.instants.next_day_is_a_day_later.Goals as goal

pub returns : goal.returns
unfolding instant_count
returns c = record {
  first = day_number-epoch;
  next = λ date next time offset h after. omega (arith, signed_arith, next_number date next h after);
}
