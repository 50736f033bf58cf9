use Rattle.ixdtf_print.proofs.times.CanonicalTimeCanonicalText.is_printable.Goals as goal
use Rattle.ixdtf_print.proofs.theorems.PrintableTimes.{tests_time}

pub returns : goal.returns
returns c = tests_time _ c.is_spelled.ensures
