use Rattle.ixdtf_c.proofs.report_messages.add_byte.Goals as goal
use Rattle.ixdtf_c.proofs.Added.{adds_then}

pub returns : goal.returns
returns c = rw (← c.byte_digits.ensures) (adds_then c.add-number.ensures c.add.ensures)
