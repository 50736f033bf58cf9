use Rattle.ixdtf_print.proofs.offsets.CanonicalOffsetCanonicalText.is_printable.Goals as goal
use Rattle.ixdtf_print.proofs.theorems.PrintableOffsets.{tests_offset}

pub returns : goal.returns
returns c = tests_offset _ c.is_shift.ensures
