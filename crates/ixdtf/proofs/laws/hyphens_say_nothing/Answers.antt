use Rattle.ixdtf.proofs.laws.hyphens_say_nothing.Goals as goal
use Rattle.ixdtf_reading.proofs.theorems.Hyphens.{hyphens_say_nothing, one_hyphen_is_refused}

pub returns : goal.returns
returns c = record { same = hyphens_say_nothing; one = one_hyphen_is_refused }
