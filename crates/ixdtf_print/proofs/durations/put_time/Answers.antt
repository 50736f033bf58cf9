use Rattle.ixdtf_print.proofs.durations.put_time.Goals as goal
use Rattle.ixdtf_print.proofs.code.PutBytes.{puts_then}

pub returns : goal.returns
returns c = rw c.in-Some.is (puts_then (rw c.in-Some.is at c.requires) c.put_byte-units.ensures c.put_time_units.ensures)
