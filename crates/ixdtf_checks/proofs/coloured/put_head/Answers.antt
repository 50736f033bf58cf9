-- Proves that the name, the number and the column are written between two escape sequences.
use Rattle.ixdtf_checks.proofs.coloured.put_head.Goals as goal
use Rattle.ixdtf_buffers.proofs.OutputLemmas.{Puts-after, Puts-exit}

pub returns-in_err-put : goal.returns-in_err-put
returns-in_err-put g c = Puts-exit _ c.in_err-put.ensures c.from_residual.ensures.1

pub returns-in_err-put_name_and_place : goal.returns-in_err-put_name_and_place
returns-in_err-put_name_and_place g c = Puts-after c.in_ok-put.ensures (Puts-exit _ c.in_err-put_name_and_place.ensures c.from_residual-in_err-put_name_and_place.ensures.1)

pub returns : goal.returns
returns g c = Puts-after c.in_ok-put.ensures (Puts-after c.in_ok-put_name_and_place.ensures c.put-2.ensures)
