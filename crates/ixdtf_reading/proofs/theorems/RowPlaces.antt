-- Lemmas about the rest of a text at the position of a row that fits.
use Rattle.std.proofs.{Common.{◌≡◌, ◌≤◌, List, length, ap, arith}, lemmas.List.length-append}
use Rattle.ixdtf_grammar.specs.language.{Letters.Text, Readers.Reader}
use Rattle.ixdtf_grammar.specs.table.{Faults.Fault, Lines.{Line, Line.{line, scanned, whole}}, Rows.{Row, Place, Stops, Fits, left_at, Place.{end, other, bad, anywhere}}}

-- If a row fits at a text, the place of the row has this text.
pub left_is : (l : Line) (place : Place) (e : Fault) (rest : Text) → Stops l place e rest → left_at place ≡ rest
left_is (line front goes_on at_end at_other) (end left) e rest h = h.2
left_is (line front goes_on at_end at_other) (other left) e rest h = h.5
left_is (line front goes_on at_end at_other) (bad left) e rest h = h.3
left_is (line front goes_on at_end at_other) (anywhere left) e rest h = absurd h
left_is (scanned front d) (end left) e rest h = h.2
left_is (scanned front d) (bad left) e rest h = h.3
left_is (scanned front d) place e rest h = absurd h
left_is (whole front d) (anywhere left) e rest h = h.1
left_is (whole front d) place e rest h = absurd h

-- The text from the position of a row on is not longer than the complete text.
pub left_fits : (reader : Reader) (row : Row) (pairs : List _) (text : Text) → Fits reader row pairs text → length (left_at row.place) ≤ length text
left_fits reader row pairs text f =
    let left = left_is _ row.place row.error f.4.1 f.4.4 in
    omega (arith, ap (λ t. length t) left, ap (λ t. length t) f.2, ap (λ t. length t) f.4.2, length-append f.0 f.1, length-append f.4.0 f.4.1)
