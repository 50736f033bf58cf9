use Rattle.ixdtf_c.proofs.value_texts.DurationHasText.print.Goals as goal
use Rattle.ixdtf_c.proofs.Printed.{read_is_duration}

pub returns-in-Some-clause-printable : goal.returns-in-Some-clause-printable
returns-in-Some-clause-printable g c =
    rw c.in-Some.ensures.found (read_is_duration c.in-Some.found c.print_duration.result c.print_duration.ensures.read_back)
