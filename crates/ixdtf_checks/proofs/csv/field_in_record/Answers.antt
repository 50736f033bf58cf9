-- The field begins after the fields before it.
use Rattle.ixdtf_checks.proofs.csv.field_in_record.Goals as goal
use Rattle.std.proofs.Common.{take, drop, refl, ap, ◌∙◌, arith}
use Rattle.ixdtf_checks.proofs.CsvLemmas.{behind_bad, behind_field, rest_of}

pub returns-in-Err-clause-err : goal.returns-in-Err-clause-err
returns-in-Err-clause-err c =
    let start = c.in-Behind.start in
    behind_bad c.args.separator c.args.before c.args.line.now start c.in-Behind.ensures.walk c.in-Err.broken _
    (rw (rest_of start c.args.line.now) at c.in-Err.ensures.err) refl refl

pub returns-in-Ok-clause-ok : goal.returns-in-Ok-clause-ok
returns-in-Ok-clause-ok c =
    let start = c.in-Behind.start in
    let line = c.args.line.now in
    let (cell, is, field, same) =
    behind_field c.args.separator c.args.before line start c.in-Behind.ensures.walk c.in-Ok.count (rw (rest_of start line) at c.in-Ok.ensures.ok) in
    (start, cell, field, c.part_in.ensures.part c.args.separator cell is (ap (λ n. take n (drop start line)) (omega arith) ∙ same))
