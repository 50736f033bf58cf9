-- Proves that the word before the hint, the hint and a newline are written.
use Rattle.ixdtf_checks.proofs.coloured.put_hint.Goals as goal
use Rattle.ixdtf_buffers.proofs.OutputLemmas.{Puts-after, Puts-exit}

pub returns-in_err-put-in-Some : goal.returns-in_err-put-in-Some
returns-in_err-put-in-Some g c = rw c.in-Some.is (Puts-exit _ c.in_err-put-in-Some.ensures c.from_residual.ensures.1)

pub returns-in_err-put_message-in-Some : goal.returns-in_err-put_message-in-Some
returns-in_err-put_message-in-Some g c =
    rw c.in-Some.is (Puts-after c.in_ok-put-in-Some.ensures (Puts-exit _ c.in_err-put_message-in-Some.ensures c.from_residual-in_err-put_message-in-Some.ensures.1))

pub returns-in_ok-put_message-in-Some : goal.returns-in_ok-put_message-in-Some
returns-in_ok-put_message-in-Some g c =
    rw c.in-Some.is (Puts-after c.in_ok-put-in-Some.ensures (Puts-after c.in_ok-put_message-in-Some.ensures c.put-in-Some.ensures))
