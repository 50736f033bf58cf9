-- A field in quotes ends.
use Rattle.ixdtf_checks.proofs.csv.quoted_ending.Goals as goal
use Rattle.std.proofs.Common.{length, ap, ne_eqb, arith, length-drop}
use Rattle.ixdtf_checks.proofs.CsvLemmas.{quoted_after, quoted_at, quoted_last, rest_of}

pub returns-then-after-bytes-clause-ending : goal.returns-then-after-bytes-clause-ending
returns-then-after-bytes-clause-ending c =
    let bytes = c.args.bytes.now in
    quoted_last bytes c.in-Some.place c.requires (rw (rest_of 1 bytes) at c.in-Some.ensures.closed) c.args.separator c.if-after-bytes.true

pub returns-then-bytes-after-clause-ending : goal.returns-then-bytes-after-clause-ending
returns-then-bytes-after-clause-ending c =
    let bytes = c.args.bytes.now in
    quoted_at bytes c.in-Some.place c.requires (rw (rest_of 1 bytes) at c.in-Some.ensures.closed) c.args.separator
    (omega (arith, c.in-Some.ensures.within, c.if-after-bytes.false, ap length (rest_of 1 bytes), length-drop 1 bytes)) c.if-bytes-after.true

pub returns-clause-ending : goal.returns-clause-ending
returns-clause-ending c =
    let bytes = c.args.bytes.now in
    quoted_after bytes c.in-Some.place c.requires (rw (rest_of 1 bytes) at c.in-Some.ensures.closed) c.args.separator
    (omega (arith, c.in-Some.ensures.within, c.if-after-bytes.false, ap length (rest_of 1 bytes), length-drop 1 bytes)) (ne_eqb _ _ c.if-bytes-after.false)
