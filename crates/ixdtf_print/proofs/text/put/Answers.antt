use Rattle.ixdtf_print.proofs.text.put.Goals as goal
use Rattle.ixdtf_print.proofs.code.PutBytes.{puts_then, room_first, room_then}

pub put_core-after_core-requires : goal.put_core-after_core-requires
put_core-after_core-requires g c = room_first _ (rw c.tail-rest.ensures at c.requires)

pub put_tail-requires : goal.put_tail-requires
put_tail-requires g c = room_then c.put_core-after_core.ensures (rw c.tail-rest.ensures at c.requires)

pub returns : goal.returns
returns g c = rw c.tail-rest.ensures (puts_then (rw c.tail-rest.ensures at c.requires) c.put_core-after_core.ensures c.put_tail.ensures)
