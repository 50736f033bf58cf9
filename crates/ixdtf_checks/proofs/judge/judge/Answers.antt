-- A line that is not too long.
use Rattle.ixdtf_checks.proofs.judge.judge.Goals as goal
use Rattle.ixdtf_checks.proofs.VerdictLemmas.{short_verdict}

pub returns-in-Some-clause-verdict : goal.returns-in-Some-clause-verdict
returns-in-Some-clause-verdict c = λ text is.
    short_verdict c.args.request.now c.args.is_first c.args.last.now c.in-Some.bytes.now text _ (rw c.in-Some.is at c.requires.short) (rw c.in-Some.is at is)
    c.judge_short.ensures.verdict
