use Rattle.ixdtf_print.proofs.times.put_unmarked_time.Goals as goal
use Rattle.ixdtf_print.specs.Canonical.{clock_text}
use Rattle.ixdtf_print.proofs.code.PutBytes.{puts_then, room_first, room_then}

pub put_unmarked_seconds-point-requires : goal.put_unmarked_seconds-point-requires
unfolding clock_text
put_unmarked_seconds-point-requires c = room_first _ (rw c.in-Some.is at c.requires)

pub put_fraction-requires : goal.put_fraction-requires
unfolding clock_text
put_fraction-requires c = room_then c.put_unmarked_seconds-point.ensures (rw c.in-Some.is at c.requires)

pub returns : goal.returns
unfolding clock_text
returns c = rw c.in-Some.is (puts_then (rw c.in-Some.is at c.requires) c.put_unmarked_seconds-point.ensures c.put_fraction.ensures)
