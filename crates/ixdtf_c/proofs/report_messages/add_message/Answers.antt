use Rattle.ixdtf_c.proofs.report_messages.add_message.Goals as goal
use Rattle.ixdtf_c.proofs.Added.{adds_then}

pub returns : goal.returns
returns c = rw (← c.as_bytes.ensures.value, ← c.as_bytes-2.ensures.value) (adds_then c.add-shown.ensures (adds_then c.add_shown-after.ensures c.add.ensures))
