use Rattle.ixdtf_c.proofs.value_texts.AsDateTimeHasText.print.Goals as goal
use Rattle.ixdtf_c.proofs.Printed.{refused}

pub returns-in-None-clause-prints : goal.returns-in-None-clause-prints
returns-in-None-clause-prints g c = refused c.in-None.ensures.none

pub returns-in-Some-clause-prints : goal.returns-in-Some-clause-prints
returns-in-Some-clause-prints g c = rw c.in-Some.ensures.found c.print_date_time.ensures.prints
