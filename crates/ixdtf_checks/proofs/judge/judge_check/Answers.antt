-- Proves the verdict on a date-time.
use Rattle.ixdtf_checks.proofs.judge.judge_check.Goals as goal
use Rattle.ixdtf_grammar.specs.language.Readers.{parse}
use Rattle.ixdtf_checks.specs.declared.kind.Kind.TheVariants.{DateTime}
use Rattle.ixdtf_checks.proofs.VerdictLemmas.{at_within, check_refused}

pub returns-in-Ok-clause-verdict : goal.returns-in-Ok-clause-verdict
returns-in-Ok-clause-verdict c = λ last printed. rw (c.is_date_time.ensures.yes c.if-not-is_date_time.false, c.requires.fresh) c.in-Ok.ensures.ok

pub refuse-requires-clause-within : goal.refuse-requires-clause-within
refuse-requires-clause-within c = at_within parse c.args.part.text.now c.in-Err.error c.in-Err.ensures.err

pub returns-in-Err-clause-verdict : goal.returns-in-Err-clause-verdict
returns-in-Err-clause-verdict c = λ last printed.
    rw (c.is_date_time.ensures.yes c.if-not-is_date_time.false) (check_refused DateTime c.args.profile last _ _ (c.refuse.ensures.verdict parse c.in-Err.ensures.err printed))
