use Rattle.ixdtf_print.proofs.numbers.put_below_10_000.Goals as goal
use Rattle.std.proofs.Common.{◌%◌, refl}
use Rattle.ixdtf_print.proofs.code.{PlainNumbers.{three_digits_are, four_digits_are}, PutBytes.{puts_then, room_first, room_then}}

pub put_four-requires-clause-room : goal.put_four-requires-clause-room
put_four-requires-clause-room c = rw (four_digits_are c.args.number c.if-number-ge1000.true c.requires.small) at c.requires.room

pub returns-then-number-ge1000 : goal.returns-then-number-ge1000
returns-then-number-ge1000 c = rw (four_digits_are c.args.number c.if-number-ge1000.true c.requires.small) c.put_four.ensures

pub put_byte-last-requires : goal.put_byte-last-requires
put_byte-last-requires c =
    let is = three_digits_are c.args.number (c.args.number % 100) _ _ _ c.if-number-lt100.false c.if-number-ge1000.false c.ones_digit.ensures refl refl refl in
    room_first _ (rw is at c.requires.room)

pub put-requires : goal.put-requires
put-requires c =
    let is = three_digits_are c.args.number (c.args.number % 100) _ _ _ c.if-number-lt100.false c.if-number-ge1000.false c.ones_digit.ensures refl
    c.tens_digit.ensures c.ones_digit-2.ensures in
    room_then c.put_byte-last.ensures (rw is at c.requires.room)

pub returns : goal.returns
returns c =
    let is = three_digits_are c.args.number (c.args.number % 100) _ _ _ c.if-number-lt100.false c.if-number-ge1000.false c.ones_digit.ensures refl
    c.tens_digit.ensures c.ones_digit-2.ensures in
    rw is (puts_then (rw is at c.requires.room) c.put_byte-last.ensures c.put.ensures)
