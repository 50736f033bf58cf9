-- Proves that the field after many others is found.
use Rattle.ixdtf_checks.proofs.line_part.field_start.Goals as goal
use Rattle.std.proofs.Common.{None, Some, arith}
use Rattle.ixdtf_checks.proofs.PartsLemmas.{start_behind}

pub returns-in-None-clause-start : goal.returns-in-None-clause-start
returns-in-None-clause-start c =
    let passed = c.pass_many-passed.ensures in
    start_behind c.args.separator c.args.before _ c.pass_many-passed.result.place c.args.line.now None (passed.left (omega (arith, c.if-before-lt-MANY_FIELDS.false)))
    passed.within passed.passed c.in-None.ensures.start

pub returns-in-Some-clause-start : goal.returns-in-Some-clause-start
returns-in-Some-clause-start c =
    let passed = c.pass_many-passed.ensures in
    start_behind c.args.separator c.args.before _ c.pass_many-passed.result.place c.args.line.now (Some c.in-Some.start) (passed.left (omega (arith, c.if-before-lt-MANY_FIELDS.false)))
    passed.within passed.passed c.in-Some.ensures.start
