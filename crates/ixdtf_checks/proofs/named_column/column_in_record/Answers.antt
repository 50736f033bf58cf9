-- The record says which of its fields have the name.
use Rattle.ixdtf_checks.proofs.named_column.column_in_record.Goals as goal
use Rattle.std.proofs.Common.{◌≤◌, length, subst, arith}
use Rattle.ixdtf_checks.specs.{Columns.{AreFound, HasNoRecordColumn, IsNamedIn, IsRecordColumn}, declared.named_column.ColumnError.TheVariants.Twice}
use Rattle.ixdtf_checks.proofs.ColumnLemmas.{no_record_column}

pub returns-in-Some-Nothing-clause-err : goal.returns-in-Some-Nothing-clause-err
returns-in-Some-Nothing-clause-err c =
    let line = c.line_in-line.result.now in
    let short : length line ≤ 65536 = omega arith in
    let (is, are) = c.in-Some-Nothing.ensures in
    let found = subst (λ f. AreFound (IsNamedIn is c.args.name.now) f) c.in-Some-Nothing.field-0-is are in
    subst (λ t. HasNoRecordColumn c.missing_in.result c.args.separator c.args.name.now t) c.line_in-line.ensures.text
    (no_record_column c.args.separator c.args.name.now line c.missing_in.result c.missing_in.ensures short is found)

pub returns-in-Some-One-clause-ok : goal.returns-in-Some-One-clause-ok
returns-in-Some-One-clause-ok c =
    let line = c.line_in-line.result.now in
    let short : length line ≤ 65536 = omega arith in
    let (is, are) = c.in-Some-One.ensures in
    let found = subst (λ f. AreFound (IsNamedIn is c.args.name.now) f) c.in-Some-One.field-0-is are in
    subst (λ t. IsRecordColumn c.args.separator c.args.name.now t c.in-Some-One.column) c.line_in-line.ensures.text
    (record { short = short; is = is; named = found.0; only = found.1 })

pub returns-in-Some-Several-clause-err : goal.returns-in-Some-Several-clause-err
returns-in-Some-Several-clause-err c =
    let line = c.line_in-line.result.now in
    let short : length line ≤ 65536 = omega arith in
    let (is, are) = c.in-Some-Several.ensures in
    let found = subst (λ f. AreFound (IsNamedIn is c.args.name.now) f) c.in-Some-Several.field-0-is are in
    subst (λ t. HasNoRecordColumn Twice c.args.separator c.args.name.now t) c.line_in-line.ensures.text (short, is, found)
