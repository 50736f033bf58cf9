use Rattle.ixdtf_c.proofs.error_numbers.error_by_number.Goals as goal
use Rattle.std.proofs.Math.ListN.{get_or-map}
use Rattle.ixdtf.specs.table.Faults.{fault_of}
use Rattle.ixdtf_c.proofs.Numbers.{numbered}

pub returns : goal.returns
returns c = rw (← get_or-map fault_of) (numbered _ _ c.requires.from c.requires.to)
