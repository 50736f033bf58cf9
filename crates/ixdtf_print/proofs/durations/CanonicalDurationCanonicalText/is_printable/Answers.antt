use Rattle.ixdtf_print.proofs.durations.CanonicalDurationCanonicalText.is_printable.Goals as goal
use Rattle.ixdtf_print.proofs.theorems.PrintableDurations.{tests_duration}

pub returns : goal.returns
returns c = tests_duration _ c.has_part.ensures
