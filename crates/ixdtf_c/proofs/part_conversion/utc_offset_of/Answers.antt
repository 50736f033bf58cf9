use Rattle.ixdtf_c.proofs.part_conversion.utc_offset_of.Goals as goal
use Rattle.ixdtf_c.specs.Standing.{offset_by}
use Rattle.ixdtf_c.proofs.Printed.{printed_shift}

pub returns-in_default-clause-none : goal.returns-in_default-clause-none
returns-in_default-clause-none c = λ is. c.in_default.ensures.none (printed_shift (offset_by c.args.given.now) is)
