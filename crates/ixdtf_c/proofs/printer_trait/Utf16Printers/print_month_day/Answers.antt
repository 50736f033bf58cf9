use Rattle.ixdtf_c.proofs.printer_trait.Utf16Printers.print_month_day.Goals as goal
use Rattle.ixdtf_c.proofs.Printed.{prints_wide}

pub returns-clause-prints : goal.returns-clause-prints
returns-clause-prints c = prints_wide c.print_month_day_utf16.ensures.prints c.print_month_day_utf16.ensures.wide
