-- Proves that the three parts of the message are written.
use Rattle.ixdtf_checks.proofs.shown.put_message.Goals as goal
use Rattle.ixdtf_buffers.proofs.OutputLemmas.{Puts-after, Puts-exit}

pub returns-in_err-put : goal.returns-in_err-put
returns-in_err-put g c = Puts-exit _ (rw c.as_bytes.ensures.value at c.in_err-put.ensures) c.from_residual.ensures.1

pub returns-in_err-put-2 : goal.returns-in_err-put-2
returns-in_err-put-2 g c =
    Puts-after (rw c.as_bytes.ensures.value at c.in_ok-put.ensures)
    (Puts-exit _ (rw c.shown_bytes-shown.ensures at c.in_err-put-2.ensures) c.from_residual-in_err-put-2.ensures.1)

pub returns : goal.returns
returns g c =
    Puts-after (rw c.as_bytes.ensures.value at c.in_ok-put.ensures)
    (Puts-after (rw c.shown_bytes-shown.ensures at c.in_ok-put-2.ensures) (rw c.as_bytes-2.ensures.value at c.put-3.ensures))
