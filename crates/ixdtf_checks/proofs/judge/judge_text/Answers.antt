-- Proves the verdict on a text that is checked, and on a text whose canonical text is asked for.
use Rattle.ixdtf_checks.proofs.judge.judge_text.Goals as goal

pub returns-in-Check-clause-verdict : goal.returns-in-Check-clause-verdict
returns-in-Check-clause-verdict c = rw c.in-Check.is (c.judge_check.ensures.verdict c.args.last.now c.args.printed.now)

pub returns-in-Print-clause-verdict : goal.returns-in-Print-clause-verdict
returns-in-Print-clause-verdict c = rw c.in-Print.is (c.judge_print.ensures.verdict c.args.last.now)
