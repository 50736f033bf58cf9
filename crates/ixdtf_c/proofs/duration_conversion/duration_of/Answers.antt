use Rattle.ixdtf_c.proofs.duration_conversion.duration_of.Goals as goal
use Rattle.ixdtf_c.specs.Lasting.{contents}
use Rattle.ixdtf_c.proofs.Printed.{printed_units}

pub returns-in_default-clause-none : goal.returns-in_default-clause-none
returns-in_default-clause-none c = λ is. c.in_default.ensures.none (printed_units (contents c.args.given.now) _ is)
