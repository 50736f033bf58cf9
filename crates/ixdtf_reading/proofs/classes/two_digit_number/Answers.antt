use Rattle.ixdtf_reading.proofs.classes.two_digit_number.Goals as goal
use Rattle.std.proofs.Common.{arith}
use Rattle.ixdtf_reading.proofs.code.Tables.{are_digits, ones_is_none}

pub returns-clause-digits : goal.returns-clause-digits
returns-clause-digits g small = are_digits g.args.tens g.args.ones (omega (arith, g.tens_of.ensures.value, g.ones_of.ensures.value))

pub returns-clause-other : goal.returns-clause-other
returns-clause-other g great = ones_is_none g.args.tens g.args.ones (omega (arith, g.tens_of.ensures.value, g.ones_of.ensures.value))
