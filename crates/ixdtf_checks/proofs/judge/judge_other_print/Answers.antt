-- Proves the verdict on a text that is refused when its canonical text is asked for.
use Rattle.ixdtf_checks.proofs.judge.judge_other_print.Goals as goal
use Rattle.ixdtf_checks.specs.Kinds.{reader_of}
use Rattle.ixdtf_checks.proofs.VerdictLemmas.{at_within, print_refused}

pub refuse-requires-clause-within : goal.refuse-requires-clause-within
refuse-requires-clause-within c =
    at_within (reader_of c.args.kind c.args.profile) c.args.part.text.now c.in-Err.error c.in-Err.ensures.err

pub returns-in-Err-clause-verdict : goal.returns-in-Err-clause-verdict
returns-in-Err-clause-verdict c = λ last.
    print_refused c.args.kind c.args.profile last _ _
    (rw c.has_offset.ensures at (c.refuse.ensures.verdict (reader_of c.args.kind c.args.profile) c.in-Err.ensures.err c.read_to_print.new.printed))
