use Rattle.ixdtf_print.proofs.fields.put_days.Goals as goal
use Rattle.ixdtf_print.proofs.parts.PaddedDigits.{two_written}

pub put-requires : goal.put-requires
put-requires c =
    let month = two_written c.args.month _ _ c.tens_digit.ensures c.ones_digit.ensures in
    let day = two_written c.args.day _ _ c.tens_digit-2.ensures c.ones_digit-2.ensures in
    rw (month, day) at c.requires

pub returns : goal.returns
returns c =
    let month = two_written c.args.month _ _ c.tens_digit.ensures c.ones_digit.ensures in
    let day = two_written c.args.day _ _ c.tens_digit-2.ensures c.ones_digit-2.ensures in
    rw (month, day) c.put.ensures
