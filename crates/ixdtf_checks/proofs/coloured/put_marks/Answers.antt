-- Proves that the spaces are written, and then the marks.
use Rattle.ixdtf_checks.proofs.coloured.put_marks.Goals as goal
use Rattle.ixdtf_buffers.proofs.OutputLemmas.{Puts-after, Puts-exit}

pub returns-in_err-put-in-Some : goal.returns-in_err-put-in-Some
returns-in_err-put-in-Some g c = rw (← c.in-Some.ensures.place) (Puts-exit _ (rw c.split_at.ensures.front at c.in_err-put-in-Some.ensures) c.from_residual.ensures.1)

pub returns-in_ok-put-in-Some : goal.returns-in_ok-put-in-Some
returns-in_ok-put-in-Some g c = rw (← c.in-Some.ensures.place) (Puts-after (rw c.split_at.ensures.front at c.in_ok-put-in-Some.ensures) ((rw c.split_at.ensures.back at c.put_last.ensures)))
