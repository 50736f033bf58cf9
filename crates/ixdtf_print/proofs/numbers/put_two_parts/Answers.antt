use Rattle.ixdtf_print.proofs.numbers.put_two_parts.Goals as goal
use Rattle.std.proofs.Common.{arith}
use Rattle.ixdtf_print.proofs.code.{PlainNumbers.{last_eight}, PutBytes.{puts_then, room_first, room_then}}

pub put_below_100_000_000-last-requires-clause-room : goal.put_below_100_000_000-last-requires-clause-room
put_below_100_000_000-last-requires-clause-room c = room_first _ (rw (last_eight c.args.number c.requires.great (omega arith)) at c.requires.room)

pub put_eight-requires-clause-room : goal.put_eight-requires-clause-room
put_eight-requires-clause-room c = room_then c.put_below_100_000_000-last.ensures (rw (last_eight c.args.number c.requires.great (omega arith)) at c.requires.room)

pub returns : goal.returns
returns c =
    let is = last_eight c.args.number c.requires.great (omega arith) in
    rw is (puts_then (rw is at c.requires.room) c.put_below_100_000_000-last.ensures c.put_eight.ensures)
