use Rattle.ixdtf_print.proofs.wide.put_wide.Goals as goal
use Rattle.ixdtf_print.proofs.code.WideUnits.{room_for_next, next_put}

pub put_unit-place-requires : goal.put_unit-place-requires
put_unit-place-requires c =
    rw c.from.ensures (room_for_next c.args.bytes.now c.loop-byte.byte-index _ c.loop-byte-test.true c.requires c.loop-byte.invariant)

pub loop-byte-preserved : goal.loop-byte-preserved
loop-byte-preserved c =
    next_put c.args.bytes.now c.loop-byte.byte-index _ c.loop-byte-test.true c.requires c.loop-byte.invariant
    (rw c.from.ensures at c.put_unit-place.ensures)
