-- One iteration of the loop goes past one field and its separator.
use Rattle.ixdtf_checks.proofs.csv.walk.Goals as goal
use Rattle.std.proofs.Common.{◌+◌, refl, arith}
use Rattle.ixdtf_checks.proofs.CsvLemmas.{bad_here, behind_bad, behind_last, behind_more, behind_none, rest_of}

pub fields-init : goal.fields-init
fields-init c = (0, omega arith, behind_none c.args.separator c.args.line.now)

pub fields-preserved : goal.fields-preserved
fields-preserved c =
    let (passed, sum, behind) = c.fields.invariant in (
      passed + 1,
      omega (arith, sum, c.fields-test.true),
      behind_more c.args.separator passed c.args.line.now c.fields.start behind c.in-At.place (rw (rest_of c.fields.start c.args.line.now) at c.in-At.ensures.ending),
    )

pub returns-in-Last-clause-walk : goal.returns-in-Last-clause-walk
returns-in-Last-clause-walk c =
    let (passed, sum, behind) = c.fields.invariant in
    behind_last c.args.separator passed c.args.line.now c.fields.start behind c.args.count (omega (arith, sum, c.fields-test.true))
    (rw (rest_of c.fields.start c.args.line.now) at c.in-Last.ensures.ending)

pub returns-in-Bad-clause-walk : goal.returns-in-Bad-clause-walk
returns-in-Bad-clause-walk c =
    let (passed, sum, behind) = c.fields.invariant in
    behind_bad c.args.separator passed c.args.line.now c.fields.start behind c.in-Bad.broken _
    (bad_here c.args.separator _ c.in-Bad.broken (rw (rest_of c.fields.start c.args.line.now) at c.in-Bad.ensures.ending)) refl refl
