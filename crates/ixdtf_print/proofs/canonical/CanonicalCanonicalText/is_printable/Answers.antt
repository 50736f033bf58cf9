use Rattle.ixdtf_print.proofs.canonical.CanonicalCanonicalText.is_printable.Goals as goal
use Rattle.ixdtf_print.proofs.theorems.PrintableRecords.{tests_printable}

pub returns : goal.returns
returns c = tests_printable _ c.is_spelled.ensures
