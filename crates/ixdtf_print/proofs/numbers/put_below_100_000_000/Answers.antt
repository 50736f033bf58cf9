use Rattle.ixdtf_print.proofs.numbers.put_below_100_000_000.Goals as goal
use Rattle.std.proofs.Common.{arith}
use Rattle.ixdtf_print.proofs.code.{PlainNumbers.{last_four}, PutBytes.{puts_then, room_first, room_then}}

pub put_below_10_000-last-requires-clause-room : goal.put_below_10_000-last-requires-clause-room
put_below_10_000-last-requires-clause-room c = room_first _ (rw (last_four c.args.number c.if-number-lt10000.false (omega arith)) at c.requires.room)

pub put_four-requires-clause-room : goal.put_four-requires-clause-room
put_four-requires-clause-room c = room_then c.put_below_10_000-last.ensures (rw (last_four c.args.number c.if-number-lt10000.false (omega arith)) at c.requires.room)

pub returns : goal.returns
returns c =
    let is = last_four c.args.number c.if-number-lt10000.false (omega arith) in
    rw is (puts_then (rw is at c.requires.room) c.put_below_10_000-last.ensures c.put_four.ensures)
