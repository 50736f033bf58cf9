use Rattle.ixdtf_print.proofs.digits.put_two.Goals as goal
use Rattle.ixdtf_print.proofs.parts.PaddedDigits.{two_written}

pub put-requires : goal.put-requires
put-requires c =
    let number = two_written c.args.number _ _ c.tens_digit.ensures c.ones_digit.ensures in
    rw number at c.requires

pub returns : goal.returns
returns c =
    let number = two_written c.args.number _ _ c.tens_digit.ensures c.ones_digit.ensures in
    rw number c.put.ensures
