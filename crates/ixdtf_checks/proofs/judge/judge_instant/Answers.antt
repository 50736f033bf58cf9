-- Proves the verdict on a refused text.
use Rattle.ixdtf_checks.proofs.judge.judge_instant.Goals as goal
use Rattle.std.proofs.Common.{refl, inr}
use Rattle.ixdtf_checks.specs.Kinds.{instant_reader_of}
use Rattle.ixdtf_checks.proofs.VerdictLemmas.{at_within, order_refused}

pub refuse-requires-clause-within : goal.refuse-requires-clause-within
refuse-requires-clause-within c =
    at_within (instant_reader_of c.args.kind) c.args.part.text.now c.in-Err.error c.in-Err.ensures.err

pub returns-in-Err : goal.returns-in-Err
returns-in-Err c = λ printed.
    order_refused (instant_reader_of c.args.kind) c.args.last _ _ (c.refuse.ensures.verdict (instant_reader_of c.args.kind) c.in-Err.ensures.err printed)

pub returns-in-Ok-Some : goal.returns-in-Ok-Some
returns-in-Ok-Some c =
    c.order.ensures (instant_reader_of c.args.kind) (rw c.in-Ok-Some.field-0-is at c.in-Ok-Some.ensures.ok)

pub returns-in-Ok-None : goal.returns-in-Ok-None
returns-in-Ok-None c = λ printed.
    inr (rw c.in-Ok-None.field-0-is at c.in-Ok-None.ensures.ok, rw (c.whole_text.ensures.column, c.whole_text.ensures.text) refl)
