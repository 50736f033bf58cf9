use Rattle.ixdtf_print.proofs.fields.put_seconds.Goals as goal
use Rattle.ixdtf_print.proofs.parts.PaddedDigits.{seconds_written}

pub put-requires : goal.put-requires
put-requires c =
    rw (seconds_written c.args.hour c.args.minute c.tens_digit.ensures c.ones_digit.ensures c.tens_digit-2.ensures c.ones_digit-2.ensures c.args.second
    c.tens_digit-3.ensures c.ones_digit-3.ensures) at c.requires

pub returns : goal.returns
returns c =
    rw (seconds_written c.args.hour c.args.minute c.tens_digit.ensures c.ones_digit.ensures c.tens_digit-2.ensures c.ones_digit-2.ensures c.args.second
    c.tens_digit-3.ensures c.ones_digit-3.ensures) c.put.ensures
