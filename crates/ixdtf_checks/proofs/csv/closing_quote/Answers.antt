-- One iteration of the loop goes past one doubled quote.
use Rattle.ixdtf_checks.proofs.csv.closing_quote.Goals as goal
use Rattle.std.proofs.Common.{◌≡◌, ◌+◌, true, false, drop, sym, ◌∙◌, arith}
use Rattle.ixdtf_checks.specs.Csv.{begins_quoted}
use Rattle.ixdtf_checks.proofs.CsvLemmas.{nonempty, opened_end, opened_more, opened_none, opened_some, rest_of}

pub quotes-init : goal.quotes-init
quotes-init c = record { within = omega arith; opened = opened_none c.args.bytes.now }

pub returns-then-not-begins_quoted-clause-closed : goal.returns-then-not-begins_quoted-clause-closed
returns-then-not-begins_quoted-clause-closed c =
    let bytes = c.args.bytes.now in
    let start = c.quotes.start in
    let place = c.in-Some.place in
    let told : begins_quoted (drop (start + place + 1) bytes) ≡ false =
    rw (rest_of (start + place + 1) bytes) at (sym c.begins_quoted.ensures ∙ c.if-not-begins_quoted.true) in
    opened_some bytes start c.quotes.invariant.opened place (rw (rest_of start bytes) at c.in-Some.ensures.place) told

pub quotes-preserved : goal.quotes-preserved
quotes-preserved c =
    let bytes = c.args.bytes.now in
    let start = c.quotes.start in
    let place = c.in-Some.place in
    let told : begins_quoted (drop (start + place + 1) bytes) ≡ true =
    rw (rest_of (start + place + 1) bytes) at (sym c.begins_quoted.ensures ∙ c.if-not-begins_quoted.false) in
    record {
      within = omega (arith, nonempty (start + place + 1) bytes told);
      opened = opened_more bytes start c.quotes.invariant.opened place (rw (rest_of start bytes) at c.in-Some.ensures.place) told;
    }

pub returns-clause-closed : goal.returns-clause-closed
returns-clause-closed c =
    let start = c.quotes.start in
    opened_end c.args.bytes.now start c.quotes.invariant.opened (rw (rest_of start c.args.bytes.now) at c.in_default.ensures.place)
