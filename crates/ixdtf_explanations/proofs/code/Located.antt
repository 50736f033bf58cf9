-- The clauses of a reader without annotations that returns the positions of its errors. They follow from its reading function.
use Rattle.ixdtf_grammar.specs.declared.reason.Reason.{Reason}
use Rattle.std.proofs.{Common.{◌≡◌, ℕ, ◌-◌, ◌≤◌, List, [], length, map, Result, Ok, Err, IfErr, sym, ap, ◌∙◌, arith}, lemmas.List.{length-map, length-append}}
use Rattle.ixdtf_grammar.specs.{Views.Unread, language.{Languages.Found, Letters.{Letter, Text}, Readers.{Reader, has_brackets}}}
use Rattle.ixdtf_explanations.specs.declared.located.LocatedError.{LocatedError}
use Rattle.ixdtf_grammar.specs.table.{Faults.{Fault}, Lines.{Line, Line.{line, scanned, whole}}}
use Rattle.ixdtf_explanations.specs.LocatedFaults.{fault_of_located, stands_behind}
use Rattle.ixdtf_grammar.specs.table.{Outcomes.{HasFaultAt, HasReason, OnlyReason, OnlyPlace}, Rows.{Row, Place, Stops, Fits, left_at, Place.{end, other, bad, anywhere}}}
use Rattle.ixdtf_reading.specs.{reading.{Looks.{Read, Placed, error_of}, Clauses.{Reads, Settles, StandsAt}, Stops.fault_at}}
use Rattle.ixdtf_reading.proofs.theorems.{StopFaults.fault_of_row, RowPlaces.{left_is, left_fits}}
use Rattle.ixdtf_reading.specs.reading.Wholes.{finding, read_at}
use Rattle.ixdtf_reading.proofs.{code.ReadersWithoutPairs.{ReadsNoPairs, error_after, Exact, exact}, parts.Looks.OnRead, theorems.{OneOutcome.place_once, OneReason.reason_once}}

-- The result of a public reader, if the private function returned this result and the cursor was settled with it.
module _ {U A : Type 0} (letter : ℕ → Letter) (view : U → A) (reader : Reader) (found : A → Found) (same : (x y : A) → found x ≡ found y → x ≡ y)
    (none : ReadsNoPairs reader) (reading : Text → Read Placed A) (old new : Unread)
    (reads : read_at error_after reader (map letter old.rest) ≡ finding found (reading (map letter old.rest)))
    (met : A → Text → Type 0) (gives : OnRead error_of (reading (map letter old.rest)) met (λ row. Fits reader row [] (map letter old.rest))) where
  -- The clauses of the reader: those of a reader without positions, and the position and the reason of the fault.
  pub record Located (result : Result U LocatedError) : Type 0 where
    pub plain : Exact letter view reader found same none reading old new reads fault_of_located result
    pub err : IfErr result (λ e. HasFaultAt reader (map letter old.rest) [] (fault_of_located e) e.at)
    pub place : IfErr result (λ e. OnlyPlace reader (map letter old.rest) (fault_of_located e) e.at)
    pub reason : IfErr result (λ e. HasReason reader (map letter old.rest) [] e.reason)
    pub one_reason : IfErr result (λ e. OnlyReason reader (map letter old.rest) e.reason)

  -- The row of the fault fits, and `at` is the number of code units before its position.
  row_at : (start : List ℕ) → start ≡ old.rest → (stop : Reason) (e : LocatedError) → reading (map letter old.rest) ≡ Err (stop, map letter new.rest)
      → fault_of_located e ≡ fault_at (has_brackets reader) stop (map letter new.rest) → stands_behind stop (length start - length new.rest) e
      → HasFaultAt reader (map letter old.rest) [] (fault_of_located e) e.at
  row_at start is stop e h named at =
      let row = rw h at gives in
      let left : map letter new.rest ≡ left_at row.0.place = ap (λ p. p.1) row.1 in
      let short = left_fits reader row.0 [] (map letter old.rest) row.2 in (
        row.0,
        row.2,
        sym (fault_of_row reader row.0 [] _ row.2) ∙ ap (λ (p : Placed). fault_at (has_brackets reader) p.0 p.1) (sym row.1) ∙ sym named,
        omega (arith, at.1, short, ap (λ t. length t) is, ap (λ t. length t) left, length-map new.rest letter, length-map old.rest letter),
      )

  stands : (start : List ℕ) → start ≡ old.rest → (read : Result U Reason) (result : Result U LocatedError) → Reads letter view old read new reading
      → Settles fault_of_located (has_brackets reader) (map letter new.rest) read result → StandsAt stands_behind (length start - length new.rest) read result
      → IfErr result (λ e. HasFaultAt reader (map letter old.rest) [] (fault_of_located e) e.at)
  stands start is read (Ok y) h s at = tt
  stands start is (Ok x) (Err e) h s at = absurd s
  stands start is (Err stop) (Err e) h s at = row_at start is stop e h s at

  -- The row of the fault is one of a line with the reason.
  reason_at : (stop : Reason) (e : LocatedError) → reading (map letter old.rest) ≡ Err (stop, map letter new.rest) → e.reason ≡ stop
      → HasReason reader (map letter old.rest) [] e.reason
  reason_at stop e h told =
      let row = rw h at gives in
      (row.0, row.2, sym (ap (λ (p : Placed). p.0) row.1) ∙ sym told)

  reasons : (start : List ℕ) (read : Result U Reason) (result : Result U LocatedError) → Reads letter view old read new reading
      → Settles fault_of_located (has_brackets reader) (map letter new.rest) read result → StandsAt stands_behind (length start - length new.rest) read result
      → IfErr result (λ e. HasReason reader (map letter old.rest) [] e.reason)
  reasons start read (Ok y) h s at = tt
  reasons start (Ok x) (Err e) h s at = absurd s
  reasons start (Err stop) (Err e) h s at = reason_at stop e h at.0

  once_reason : (result : Result U LocatedError) → IfErr result (λ e. HasReason reader (map letter old.rest) [] e.reason)
      → IfErr result (λ e. OnlyReason reader (map letter old.rest) e.reason)
  once_reason (Ok y) h = tt
  once_reason (Err e) h = reason_once reader (map letter old.rest) [] e.reason h

  once : (result : Result U LocatedError) → IfErr result (λ e. HasFaultAt reader (map letter old.rest) [] (fault_of_located e) e.at)
      → IfErr result (λ e. OnlyPlace reader (map letter old.rest) (fault_of_located e) e.at)
  once (Ok y) h = tt
  once (Err e) h = place_once reader (map letter old.rest) [] (fault_of_located e) e.at h

  pub located : (start : List ℕ) → start ≡ old.rest → (read : Result U Reason) (result : Result U LocatedError) → Reads letter view old read new reading
      → Settles fault_of_located (has_brackets reader) (map letter new.rest) read result → StandsAt stands_behind (length start - length new.rest) read result → Located result
  located start is read result h s at = let there = stands start is read result h s at in let because = reasons start read result h s at in record {
    plain = exact letter view reader found same none reading old new reads fault_of_located read result h s;
    err = there;
    place = once result there;
    reason = because;
    one_reason = once_reason result because;
  }
