use Rattle.ixdtf_print.proofs.put.put_each.Given as goal
use Rattle.std.proofs.Common.{length}
use Rattle.ixdtf_print.specs.Prints.{PrintsFront}

-- The bytes before `rest` were written.
abbrev pub invariant-loop-front : goal.invariant-loop-front
invariant-loop-front l = PrintsFront l.fn.out l.out l.at l.place l.bytes l.rest

abbrev pub decreases-loop-front : goal.decreases-loop-front
decreases-loop-front l = length l.rest
