-- Proves that the text is written between two escape sequences.
use Rattle.ixdtf_checks.proofs.coloured.put_red.Goals as goal
use Rattle.ixdtf_buffers.proofs.OutputLemmas.{Puts-after, Puts-exit}

pub returns-in_err-put : goal.returns-in_err-put
returns-in_err-put g c = Puts-exit _ c.in_err-put.ensures c.from_residual.ensures.1

pub returns-in_err-put-2 : goal.returns-in_err-put-2
returns-in_err-put-2 g c = Puts-after c.in_ok-put.ensures (Puts-exit _ c.in_err-put-2.ensures c.from_residual-in_err-put-2.ensures.1)

pub returns : goal.returns
returns g c = Puts-after c.in_ok-put.ensures (Puts-after c.in_ok-put-2.ensures c.put-3.ensures)
