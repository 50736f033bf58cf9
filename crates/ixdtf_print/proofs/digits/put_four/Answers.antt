use Rattle.ixdtf_print.proofs.digits.put_four.Goals as goal
use Rattle.std.proofs.Common.{◌*◌, ◌∙◌, refl, arith}
use Rattle.ixdtf_print.proofs.code.{PlainNumbers.{four_written}, ScaledNumbers.{four_pairs}}

pub put-requires : goal.put-requires
put-requires c =
    let pairs = four_pairs c.args.number (c.args.number * 42949673) _ (omega arith) refl c.next_pair-hundreds.ensures.rest in
    let is = four_written c.args.number _ _ _ _ _ _ (c.next_pair-hundreds.ensures.pair ∙ pairs.0) (c.next_pair-ones.ensures.pair ∙ pairs.1)
    c.tens_digit.ensures c.ones_digit.ensures c.tens_digit-2.ensures c.ones_digit-2.ensures in
    rw is at c.requires.room

pub returns : goal.returns
returns c =
    let pairs = four_pairs c.args.number (c.args.number * 42949673) _ (omega arith) refl c.next_pair-hundreds.ensures.rest in
    let is = four_written c.args.number _ _ _ _ _ _ (c.next_pair-hundreds.ensures.pair ∙ pairs.0) (c.next_pair-ones.ensures.pair ∙ pairs.1)
    c.tens_digit.ensures c.ones_digit.ensures c.tens_digit-2.ensures c.ones_digit-2.ensures in
    rw is c.put.ensures
