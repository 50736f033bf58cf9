use Rattle.ixdtf_c.proofs.report_messages.add_number.Goals as goal
use Rattle.ixdtf_c.proofs.Added.{adds_then}

pub returns : goal.returns
returns c =
    rw (← c.character_digits.ensures.digits, ← c.look_alike.ensures.name, ← c.as_bytes.ensures.value)
    (adds_then c.add-number.ensures (adds_then c.add-name.ensures c.add.ensures))
