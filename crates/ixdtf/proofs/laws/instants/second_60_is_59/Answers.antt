use Rattle.ixdtf_grammar.specs.Instants.{instant_count}
use Rattle.ixdtf.proofs.laws.instants.second_60_is_59.Goals as goal

pub returns : goal.returns
unfolding instant_count
returns c date time offset h = rw h
