use Rattle.ixdtf_print.proofs.wide_names.put_calendar.Goals as goal
use Rattle.std.proofs.lemmas.List.{map-id}
use Rattle.ixdtf_print.proofs.code.PutBytes.{puts_then, room_then}

pub returns-in-Some : goal.returns-in-Some
returns-in-Some c =
    let room = rw (c.in-Some.is, map-id) at c.requires in
    rw (c.in-Some.is, map-id)
    (puts_then room c.put_wide-inside.ensures (puts_then (room_then c.put_wide-inside.ensures room) c.put_units-end.ensures c.put_unit.ensures))
