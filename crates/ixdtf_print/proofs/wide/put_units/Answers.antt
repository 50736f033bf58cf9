use Rattle.ixdtf_print.proofs.wide.put_units.Goals as goal
use Rattle.ixdtf_print.proofs.code.WideUnits.{room_for_next, next_put}

pub put_unit-place-requires : goal.put_unit-place-requires
put_unit-place-requires c = room_for_next c.args.units.now c.loop-unit.unit-index _ c.loop-unit-test.true c.requires c.loop-unit.invariant

pub loop-unit-preserved : goal.loop-unit-preserved
loop-unit-preserved c =
    next_put c.args.units.now c.loop-unit.unit-index _ c.loop-unit-test.true c.requires c.loop-unit.invariant c.put_unit-place.ensures
