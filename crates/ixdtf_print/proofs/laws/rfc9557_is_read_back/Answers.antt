use Rattle.ixdtf_print.proofs.laws.rfc9557_is_read_back.Goals as goal
use Rattle.ixdtf_print.proofs.theorems.ExactTexts.{rfc9557_is_read_back}

pub returns : goal.returns
returns c = rfc9557_is_read_back
