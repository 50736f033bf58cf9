-- One iteration of the loop goes past one field and its separator.
use Rattle.ixdtf_checks.proofs.named_column.found_in_record.Goals as goal
use Rattle.std.proofs.Common.{◌≡◌, ◌+◌, ◌-◌, ◌∙◌, ◌∷◌, length, take, drop, refl, ap, subst, sym, arith, take_at}
use Rattle.ixdtf_checks.specs.{Columns.{AreFound, IsNamedCell, IsNamedIn}, Csv.spelled, Walks.IsBehind}
use Rattle.ixdtf_checks.proofs.{ColumnLemmas.{record_last, record_more, record_none}, CsvLemmas.{bad_here, behind_bad, behind_more, behind_most, rest_of}}

pub fields-init : goal.fields-init
fields-init c = record_none c.args.separator c.args.name.now c.args.line.now

pub returns-in-Bad : goal.returns-in-Bad
returns-in-Bad c =
    let (behind, are) = c.fields.invariant in
    let line = c.args.line.now in
    let start = c.fields.start in
    let broken = c.in-Bad.field-0 in
    let bad = bad_here c.args.separator (drop start line) broken (rw (rest_of start line) at c.in-Bad.ensures.ending) in
    (record { at = start + broken.at; quoting = broken.quoting }, behind_bad c.args.separator c.fields.before line start behind broken _ bad refl refl)

pub returns-in-Last : goal.returns-in-Last
returns-in-Last c =
    let (behind, are) = c.fields.invariant in
    let line = c.args.line.now in
    let start = c.fields.start in
    let ending = rw (rest_of start line) at c.in-Last.ensures.ending in
    let bytes = rest_of start line ∙ ending.2 in
    let told = c.is_cell_named-is_named.ensures in
    let both = record_last c.args.separator c.fields.before c.args.name.now line start behind c.fields.found are c.is_cell_named-is_named.result ending
    (told.yes c.args.separator ending.0 ending.1 bytes) (told.no c.args.separator ending.0 ending.1 bytes) in
    (both.0, subst (λ f. AreFound (IsNamedIn both.0 c.args.name.now) f) (sym c.found_with.ensures) both.1)

pub fields-preserved : goal.fields-preserved
fields-preserved c =
    let (behind, are) = c.fields.invariant in
    let line = c.args.line.now in
    let start = c.fields.start in
    let place = c.in-At.place in
    let ending = rw (rest_of start line) at c.in-At.ensures.ending in
    let sum : start + place - start ≡ place = omega arith in
    let bytes = ap (λ n. take n (drop start line)) sum ∙ ap (λ t. take place t) ending.4 ∙ take_at (spelled ending.0) (c.args.separator ∷ drop (place + 1) (drop start line)) place (sym ending.2) in
    let told = c.is_cell_named-is_named-in-At.ensures in
    let both = record_more c.args.separator c.fields.before c.args.name.now line start behind c.fields.found are c.is_cell_named-is_named-in-At.result place ending
    (told.yes c.args.separator ending.0 ending.1 bytes) (told.no c.args.separator ending.0 ending.1 bytes) in
    (both.0, subst (λ f. AreFound (IsNamedCell both.0.earlier c.args.name.now) f) (sym c.found_with-found.ensures) both.1)

-- A line does not begin with more fields than it has bytes.
pub returns-in-At : goal.returns-in-At
returns-in-At c =
    let (behind, are) = c.fields.invariant in
    let line = c.args.line.now in
    let start = c.fields.start in
    let place = c.in-At.place in
    let ending = rw (rest_of start line) at c.in-At.ensures.ending in
    let all : c.fields.before + 1 ≡ length line + 1 = omega arith in
    absurd (behind_most c.args.separator line (start + (place + 1))
    (subst (λ n. IsBehind c.args.separator n line (start + (place + 1))) all (behind_more c.args.separator c.fields.before line start behind place ending)))
