-- Proves that what is before the value is written, and then the value.
use Rattle.ixdtf_checks.proofs.json.put_member.Goals as goal
use Rattle.ixdtf_buffers.proofs.OutputLemmas.{Puts-after, Puts-exit}

pub returns-in_err-put : goal.returns-in_err-put
returns-in_err-put g c = Puts-exit _ c.in_err-put.ensures c.from_residual.ensures.1

pub returns : goal.returns
returns g c = Puts-after c.in_ok-put.ensures c.put_string.ensures
