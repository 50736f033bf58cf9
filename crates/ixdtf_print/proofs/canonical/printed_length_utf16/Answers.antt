use Rattle.ixdtf_print.proofs.canonical.printed_length_utf16.Goals as goal
use Rattle.ixdtf_print.proofs.theorems.WideTexts.{is_counted, record_is_same}

pub returns : goal.returns
returns c = is_counted (record_is_same _ _ c.without_names-core.ensures) c.printed_length.ensures.length c.printed_length.ensures.printable c.printed_length.ensures.none
