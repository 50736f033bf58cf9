use Rattle.ixdtf_print.proofs.durations.print_duration_utf16.Goals as goal
use Rattle.ixdtf_print.proofs.theorems.SharedTexts.{wide_duration}

pub returns-clause-wide : goal.returns-clause-wide
returns-clause-wide c = wide_duration _ c.args.duration.now _ c.print_utf16.ensures.read_back c.print_utf16.ensures.prints.text
