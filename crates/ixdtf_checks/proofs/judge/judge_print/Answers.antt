-- Proves the verdict on a date-time that is refused when its canonical text is asked for.
use Rattle.ixdtf_checks.proofs.judge.judge_print.Goals as goal
use Rattle.ixdtf_grammar.specs.language.Readers.{parse}
use Rattle.ixdtf_checks.specs.declared.kind.Kind.TheVariants.{DateTime}
use Rattle.ixdtf_checks.proofs.VerdictLemmas.{print_refused}

pub returns-in-Err-clause-verdict : goal.returns-in-Err-clause-verdict
returns-in-Err-clause-verdict c = λ last.
    rw (c.is_date_time.ensures.yes c.if-not-is_date_time.false) (print_refused DateTime c.args.profile last _ _ (c.refuse.ensures.verdict parse c.in-Err.ensures.err c.print_date_time.new.printed))
