use Rattle.ixdtf_print.proofs.canonical.print_utf16.Goals as goal
use Rattle.ixdtf_print.proofs.theorems.{WideTexts.{is_printed, record_is_same}, PrintableRecords.is_read_back}

pub returns : goal.returns
returns c = is_printed (record_is_same _ _ c.without_names-core.ensures) (is_read_back _) c.print_bracketed.ensures.prints c.print_bracketed.ensures.printable
