-- Proves that the name and the other bytes of the report are written.
use Rattle.ixdtf_checks.proofs.report.put_refusal.Goals as goal
use Rattle.std.proofs.Common.{refl, false, ◌++◌, []}
use Rattle.ixdtf_checks.specs.{Seen.seen_cause, Texts.text_of}
use Rattle.ixdtf_checks.proofs.ReportLemmas.{named, unhinted}

pub returns-then-bytes-gt-MOST_NAME : goal.returns-then-bytes-gt-MOST_NAME
returns-then-bytes-gt-MOST_NAME g c = rw c.as_bytes-bytes.ensures.value at c.put_long_named.ensures

pub returns-then-has_hint : goal.returns-then-has_hint
returns-then-has_hint g c =
    let name = c.args.name.now in
    let (report, is, puts) = c.put_any.ensures in
    (name ++ report, named name _ _ _ _ is, rw (c.add_bytes-end.ensures.text.is, c.as_bytes-bytes.ensures.value) at puts)

pub returns-in-Some : goal.returns-in-Some
returns-in-Some g c =
    let name = c.args.name.now in
    let number = c.args.number in
    let (told, tells, adds) = c.in-Some.ensures.text in (
      name ++ text_of [] number told.column told.message told.lines,
      rw c.if-has_hint.false (named name _ false _ _ (unhinted number (seen_cause c.args.cause.now) told tells)),
      rw (adds.is, c.add_bytes-end.ensures.text.is, c.as_bytes-bytes.ensures.value) at c.put.ensures,
    )

pub returns-in-None : goal.returns-in-None
returns-in-None g c =
    let name = c.args.name.now in
    let (report, is, puts) = c.put_any-in-None.ensures in
    (name ++ report, named name _ _ _ _ is, rw (c.in-None.ensures.none refl, c.add_bytes-end.ensures.text.is, c.as_bytes-bytes.ensures.value) at puts)
