use Rattle.ixdtf_print.proofs.digits.tens_digit.Goals as goal
use Rattle.std.proofs.Common.{◌+◌, ◌/◌, ◌%◌, refl, arith}
use Rattle.ixdtf_print.proofs.code.DigitTable.{rows_from, in_rows}
use Rattle.ixdtf_reading.proofs.code.Tables.{agree_below}

pub returns : goal.returns
unfolding agree_below rows_from
returns c = in_rows 0 (λ c. 48 + c / 10 % 10) refl c.args.number (omega arith)
