use Rattle.ixdtf_print.proofs.times.print_time_utf16.Goals as goal
use Rattle.ixdtf_grammar.specs.declared.profile.Profile.TheVariants.{Crate}
use Rattle.ixdtf_print.proofs.theorems.{WideTexts.{is_printed, time_is_same}, PrintableTimes.time_is_read_back}

pub returns : goal.returns
returns c = is_printed (time_is_same _ _ c.without_names-core.ensures) (time_is_read_back Crate _) c.print_bracketed.ensures.prints c.print_bracketed.ensures.printable
