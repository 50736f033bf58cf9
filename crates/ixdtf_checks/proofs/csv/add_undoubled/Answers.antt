-- One iteration of the loop adds the bytes before one quote, and the quote.
use Rattle.ixdtf_checks.proofs.csv.add_undoubled.Goals as goal
use Rattle.std.proofs.Common.{◌≡◌, ◌-◌, ◌++◌, length, take, drop, sym, ap, ◌∙◌, arith, length-drop, take_all}
use Rattle.ixdtf_buffers.proofs.AddingLemmas.{adds_then}
use Rattle.ixdtf_checks.proofs.{CsvLemmas.{goes_on, undoubled_free}, PointedLemmas.adds_same}

pub quotes-preserved : goal.quotes-preserved
quotes-preserved c =
    let (few, (part, whole, added)) = c.quotes.invariant in
    let rest = c.quotes.rest.now in
    let m = c.min.result in
    let all : take (length rest - m) (drop m rest) ≡ drop m rest = take_all (length rest - m) (drop m rest) (omega (arith, length-drop m rest)) in
    goes_on _ _ _ rest _ part _ _ c.in-Some.place m all c.min.ensures c.in-Some.ensures.place few (omega (arith, c.add_bytes-middle.ensures.place, c.add_byte-end.ensures.place)) whole
    (adds_then (adds_then added c.add_bytes-middle.ensures.text) c.add_byte-end.ensures.text)

pub returns-clause-text : goal.returns-clause-text
returns-clause-text c =
    let (few, (part, whole, added)) = c.quotes.invariant in
    adds_same (ap (λ t. part ++ t) (sym (undoubled_free c.quotes.rest.now c.in_default.ensures.place)) ∙ whole) (adds_then added c.add_bytes.ensures.text)
