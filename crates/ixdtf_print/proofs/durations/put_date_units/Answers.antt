use Rattle.ixdtf_print.proofs.durations.put_date_units.Goals as goal
use Rattle.ixdtf_print.specs.Durations.{date_units_text}
use Rattle.ixdtf_print.proofs.code.PutBytes.{puts_then, room_then}

pub returns : goal.returns
unfolding date_units_text
returns c =
    let years = rw c.from.ensures at c.put_unit-months.ensures in
    let months = rw c.from-2.ensures at c.put_unit-weeks.ensures in
    let weeks = rw c.from-3.ensures at c.put_unit-days.ensures in
    let after_years = room_then years c.requires in
    puts_then c.requires years (puts_then after_years months (puts_then (room_then months after_years) weeks c.put_unit.ensures))
