use Rattle.ixdtf_print.proofs.numbers.put_eight.Goals as goal
use Rattle.std.proofs.Common.{◌+◌, ◌*◌, ◌/◌, ◌∙◌, refl}
use Rattle.ixdtf_print.proofs.code.{PlainNumbers.{eight_written}, ScaledNumbers.{eight_pairs}}

pub put-requires : goal.put-requires
put-requires c =
    let pairs = eight_pairs c.args.number (c.args.number * 281474977 / 65536 + 1) _ _ _ c.requires.small refl c.next_pair-first.ensures.rest
    c.next_pair-second.ensures.rest c.next_pair-third.ensures.rest in
    let is = eight_written c.args.number _ _ _ _ _ _ _ _ _ _ _ _ (c.next_pair-first.ensures.pair ∙ pairs.0) (c.next_pair-second.ensures.pair ∙ pairs.1)
    (c.next_pair-third.ensures.pair ∙ pairs.2) (c.next_pair-fourth.ensures.pair ∙ pairs.3) c.tens_digit.ensures c.ones_digit.ensures
    c.tens_digit-2.ensures c.ones_digit-2.ensures c.tens_digit-3.ensures c.ones_digit-3.ensures c.tens_digit-4.ensures c.ones_digit-4.ensures in
    rw is at c.requires.room

pub returns : goal.returns
returns c =
    let pairs = eight_pairs c.args.number (c.args.number * 281474977 / 65536 + 1) _ _ _ c.requires.small refl c.next_pair-first.ensures.rest
    c.next_pair-second.ensures.rest c.next_pair-third.ensures.rest in
    let is = eight_written c.args.number _ _ _ _ _ _ _ _ _ _ _ _ (c.next_pair-first.ensures.pair ∙ pairs.0) (c.next_pair-second.ensures.pair ∙ pairs.1)
    (c.next_pair-third.ensures.pair ∙ pairs.2) (c.next_pair-fourth.ensures.pair ∙ pairs.3) c.tens_digit.ensures c.ones_digit.ensures
    c.tens_digit-2.ensures c.ones_digit-2.ensures c.tens_digit-3.ensures c.ones_digit-3.ensures c.tens_digit-4.ensures c.ones_digit-4.ensures in
    rw is c.put.ensures
