-- Proves that the marks are written, and then the newline.
use Rattle.ixdtf_checks.proofs.coloured.put_last.Goals as goal
use Rattle.ixdtf_buffers.proofs.OutputLemmas.{Puts-after, Puts-exit}

pub returns-in_err-put_red : goal.returns-in_err-put_red
returns-in_err-put_red g c = Puts-exit _ (rw c.split_at.ensures.front at c.in_err-put_red.ensures) c.from_residual.ensures.1

pub returns : goal.returns
returns g c = Puts-after (rw c.split_at.ensures.front at c.in_ok-put_red.ensures) ((rw c.split_at.ensures.back at c.put.ensures))
