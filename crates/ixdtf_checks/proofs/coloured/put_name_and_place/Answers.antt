-- Proves that the name is written, and then the number and the column.
use Rattle.ixdtf_checks.proofs.coloured.put_name_and_place.Goals as goal
use Rattle.ixdtf_buffers.proofs.OutputLemmas.{Puts-after, Puts-exit}

pub returns-in_err-put : goal.returns-in_err-put
returns-in_err-put g c = Puts-exit _ (rw c.as_bytes.ensures.value at c.in_err-put.ensures) c.from_residual.ensures.1

pub returns : goal.returns
returns g c = Puts-after (rw c.as_bytes.ensures.value at c.in_ok-put.ensures) c.put_place.ensures
