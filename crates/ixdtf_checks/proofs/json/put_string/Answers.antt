-- Proves that the quotes and what is between them are written.
use Rattle.ixdtf_checks.proofs.json.put_string.Goals as goal
use Rattle.ixdtf_buffers.proofs.OutputLemmas.{Puts-after, Puts-exit}

pub returns-in_err-put : goal.returns-in_err-put
returns-in_err-put g c = Puts-exit _ c.in_err-put.ensures c.from_residual.ensures.1

pub returns-in_err-put_escaped : goal.returns-in_err-put_escaped
returns-in_err-put_escaped g c =
    Puts-after c.in_ok-put.ensures (Puts-exit _ c.in_err-put_escaped.ensures c.from_residual-in_err-put_escaped.ensures.1)

pub returns : goal.returns
returns g c = Puts-after c.in_ok-put.ensures (Puts-after c.in_ok-put_escaped.ensures c.put-2.ensures)
