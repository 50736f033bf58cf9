-- Proves that the name of the member is written, and then the hint.
use Rattle.ixdtf_checks.proofs.json.put_hint.Goals as goal
use Rattle.ixdtf_buffers.proofs.OutputLemmas.{Puts-after, Puts-exit}

pub returns-in_err-put-in-Some : goal.returns-in_err-put-in-Some
returns-in_err-put-in-Some g c = rw c.in-Some.is (Puts-exit _ c.in_err-put-in-Some.ensures c.from_residual.ensures.1)

pub returns-in_ok-put-in-Some : goal.returns-in_ok-put-in-Some
returns-in_ok-put-in-Some g c = rw c.in-Some.is (Puts-after c.in_ok-put-in-Some.ensures c.put_message.ensures)
