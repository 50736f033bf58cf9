use Rattle.ixdtf_c.proofs.printer_trait.Utf8Printers.print_duration.Goals as goal
use Rattle.ixdtf_c.proofs.Printed.{prints_bytes}

pub returns-clause-prints : goal.returns-clause-prints
returns-clause-prints c = prints_bytes c.print_duration.ensures.prints
