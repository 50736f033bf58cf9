use Rattle.ixdtf_print.proofs.laws.canonical_is_read_back.Goals as goal
use Rattle.ixdtf_print.proofs.theorems.PrintableRecords.{is_read_back}

pub returns : goal.returns
returns c = is_read_back
