use Rattle.ixdtf_print.proofs.digits.put_digits.Given as goal
use Rattle.ixdtf_print.proofs.code.DigitLoop.{LastDigits}

abbrev pub invariant-loop-place : goal.invariant-loop-place
invariant-loop-place l = LastDigits l.fn.out l.out l.at l.place l.end l.left l.count l.number

abbrev pub decreases-loop-place : goal.decreases-loop-place
decreases-loop-place l = l.place
