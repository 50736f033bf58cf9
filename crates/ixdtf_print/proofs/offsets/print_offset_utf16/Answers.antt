use Rattle.ixdtf_print.proofs.offsets.print_offset_utf16.Goals as goal
use Rattle.ixdtf_print.proofs.theorems.SharedTexts.{wide_offset}

pub returns-clause-wide : goal.returns-clause-wide
returns-clause-wide c = wide_offset _ c.args.offset.now _ c.print_utf16.ensures.read_back c.print_utf16.ensures.prints.text
