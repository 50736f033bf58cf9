-- One iteration of the loop skips one field.
use Rattle.ixdtf_checks.proofs.named_column.column_named.Goals as goal
use Rattle.std.proofs.{Common.{◌≡◌, ◌+◌, ◌∙◌, suc, ap, length, subst, sym, arith}, lemmas.List.length-drop}
use Rattle.ixdtf_checks.specs.Columns.{AreFound, IsNamed}
use Rattle.ixdtf_checks.proofs.{ColumnLemmas.{IsNamedBelow, found_here, found_last, next_start, no_column, place_in_rest}, CsvLemmas.rest_of}

pub fields-preserved : goal.fields-preserved
fields-preserved c =
    let l = c.fields in
    let line = c.line_in-line.result.now in
    let at = place_in_rest c.args.separator l.start line c.in-Some.ensures.place in
    let next : l.before + 1 ≡ suc l.before = omega arith in
    let are = found_here c.args.separator c.args.name.now c.line_in-line.result.now l.before l.start l.found l.invariant.starts l.invariant.are c.front_field.result.now c.front_field.ensures.text
    c.is_named-is_named.result c.is_named-is_named.ensures.yes c.is_named-is_named.ensures.no in
    record {
      starts = rw next (next_start c.args.separator l.before c.in-Some.place l.start line l.invariant.starts at);
      within = omega (arith, l.invariant.within, c.in-Some.ensures.within, length-drop l.start line, ap length (rest_of l.start line));
      few = omega (arith, l.invariant.few);
      are = rw next (subst (λ f. AreFound (IsNamedBelow c.args.separator c.args.name.now line (suc l.before)) f) (sym c.found_with-found.ensures) are);
    }

pub returns-in-Nothing-clause-err : goal.returns-in-Nothing-clause-err
returns-in-Nothing-clause-err c =
    let l = c.fields in
    let line = c.line_in-line.result.now in
    let are = found_last c.args.separator c.args.name.now c.line_in-line.result.now l.before l.start l.found l.invariant.starts l.invariant.are c.front_field-2.result.now c.front_field-2.ensures.text
    c.in_default.ensures.place c.is_named-is_named-2.result c.is_named-is_named-2.ensures.yes c.is_named-is_named-2.ensures.no in
    let found = subst (λ f. AreFound (IsNamed c.args.separator c.args.name.now line) f) (sym c.found_with.ensures ∙ c.in-Nothing.is) are in
    rw (← c.line_in-line.ensures.text) (no_column c.args.separator c.args.name.now line c.missing_in.result c.missing_in.ensures found)

pub returns-in-One-clause-ok : goal.returns-in-One-clause-ok
returns-in-One-clause-ok c =
    let l = c.fields in
    let line = c.line_in-line.result.now in
    let are = found_last c.args.separator c.args.name.now c.line_in-line.result.now l.before l.start l.found l.invariant.starts l.invariant.are c.front_field-2.result.now c.front_field-2.ensures.text
    c.in_default.ensures.place c.is_named-is_named-2.result c.is_named-is_named-2.ensures.yes c.is_named-is_named-2.ensures.no in
    let found = subst (λ f. AreFound (IsNamed c.args.separator c.args.name.now line) f) (sym c.found_with.ensures ∙ c.in-One.is) are in
    rw (← c.line_in-line.ensures.text) (record { named = found.0; only = found.1 })

pub returns-in-Several-clause-err : goal.returns-in-Several-clause-err
returns-in-Several-clause-err c =
    let l = c.fields in
    let line = c.line_in-line.result.now in
    let are = found_last c.args.separator c.args.name.now c.line_in-line.result.now l.before l.start l.found l.invariant.starts l.invariant.are c.front_field-2.result.now c.front_field-2.ensures.text
    c.in_default.ensures.place c.is_named-is_named-2.result c.is_named-is_named-2.ensures.yes c.is_named-is_named-2.ensures.no in
    let found = subst (λ f. AreFound (IsNamed c.args.separator c.args.name.now line) f) (sym c.found_with.ensures ∙ c.in-Several.is) are in
    rw (← c.line_in-line.ensures.text) found
