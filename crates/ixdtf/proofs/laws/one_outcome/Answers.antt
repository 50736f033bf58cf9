use Rattle.ixdtf.proofs.laws.one_outcome.Goals as goal
use Rattle.ixdtf_reading.proofs.theorems.{OneChain.{one_result, one_chain}, OneOutcome.{one_outcome, fronts_begin}, OnePlace.one_place}

pub returns : goal.returns
returns c = record { outcome = one_outcome; begins = fronts_begin; chain = one_result; place = one_place; replied = one_chain }
