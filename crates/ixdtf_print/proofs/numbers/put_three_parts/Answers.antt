use Rattle.ixdtf_print.proofs.numbers.put_three_parts.Goals as goal
use Rattle.std.proofs.Common.{arith}
use Rattle.ixdtf_print.proofs.code.{PlainNumbers.{last_sixteen}, PutBytes.{puts_then, room_first, room_then}}

pub put_below_10_000-middle-requires-clause-room : goal.put_below_10_000-middle-requires-clause-room
put_below_10_000-middle-requires-clause-room c = room_first _ (rw (last_sixteen c.args.number c.requires.great (omega arith)) at c.requires.room)

pub put_eight-last-requires-clause-room : goal.put_eight-last-requires-clause-room
put_eight-last-requires-clause-room c =
    let room = rw (last_sixteen c.args.number c.requires.great (omega arith)) at c.requires.room in
    room_first _ (room_then c.put_below_10_000-middle.ensures room)

pub put_eight-requires-clause-room : goal.put_eight-requires-clause-room
put_eight-requires-clause-room c =
    let room = rw (last_sixteen c.args.number c.requires.great (omega arith)) at c.requires.room in
    room_then c.put_eight-last.ensures (room_then c.put_below_10_000-middle.ensures room)

pub returns : goal.returns
returns c =
    let is = last_sixteen c.args.number c.requires.great (omega arith) in
    let room = rw is at c.requires.room in
    rw is (puts_then room c.put_below_10_000-middle.ensures
    (puts_then (room_then c.put_below_10_000-middle.ensures room) c.put_eight-last.ensures c.put_eight.ensures))
