-- The clauses of a reader that reads no annotations. They follow from its reading function.
use Rattle.ixdtf_grammar.specs.declared.reason.Reason.{Reason}
use Rattle.std.proofs.Common.{refl, ◌≡◌, ℕ, List, [], map, Result, Ok, Err, sym, ap, ◌∙◌, IfErr, OnOk, IsFalse}
use Rattle.ixdtf_grammar.specs.{declared.profile.Profile.Profile, language.{Letters.{Letter, Text}, Brackets.Pair, Readers.{Reader, has_brackets}}}
use Rattle.ixdtf_grammar.specs.language.Readers.Reader.{bracketed, parse_rfc3339, parse_offset, parse_identifier, parse_iana_identifier, parse_duration}
use Rattle.ixdtf_grammar.specs.{language.Languages.{Found, Derives}, table.{Faults.{Fault, never_comes}, Rows.{Row, Fits}}}
use Rattle.ixdtf_grammar.specs.{table.Outcomes.{HasFault, NoRowFits, OnlyFault}, Views.{Unread, returned_by}, Laws.InNoOther}
use Rattle.ixdtf_grammar.proofs.theorems.NoRow.{fault_comes}
use Rattle.ixdtf_reading.specs.{reading.{Clauses.{Reads, Settles}, Looks.{Read, Placed, error_of}, Stops.fault_at}}
use Rattle.ixdtf_reading.proofs.theorems.StopFaults.{fault_of_row}
use Rattle.ixdtf_reading.specs.reading.Wholes.{finding, read_at}
use Rattle.ixdtf_reading.proofs.{to_grammar.Wholes.{OnWhole, whole_read}, to_reading.Wholes.takes, theorems.OnlyOutcome.{Accepted, accepted, only_fault}}
use Rattle.ixdtf_reading.proofs.code.Units.{no_units}

abbrev done : {E A : Type 0} → A → Result A E
done x = Ok x

done_is : {E A : Type 0} (x y : A) → done {E = E} x ≡ done y → x ≡ y
done_is x y e = cc

failed_is : {E A : Type 0} (x : A) (fault : E) → Err fault ≡ done x → ⊥
failed_is x fault e = cc

-- The fault is the error of a row. The annotations before it do not matter.
abbrev pub error_after : List Pair → Row → Placed
error_after pairs row = error_of row

-- The reader reads no annotations.
abbrev pub ReadsNoPairs : Reader → Type 0
ReadsNoPairs (bracketed kind) = ⊥
ReadsNoPairs parse_rfc3339 = Unit {0}
ReadsNoPairs parse_offset = Unit {0}
ReadsNoPairs parse_identifier = Unit {0}
ReadsNoPairs parse_iana_identifier = Unit {0}
ReadsNoPairs (parse_duration profile) = Unit {0}

-- There are no annotations before its rows.
no_pairs : (reader : Reader) (row : Row) (pairs : List Pair) (text : Text) → ReadsNoPairs reader → Fits reader row pairs text → Fits reader row [] text
no_pairs (bracketed kind) row pairs text none f = absurd none
no_pairs reader row pairs text none f = rw f.3.1 at f

-- The result of a reader for a text. `found` makes a `Found` of a value, and different values give different ones.
module _ {A : Type 0} (reader : Reader) (found : A → Found) (same : (x y : A) → found x ≡ found y → x ≡ y) (text : Text) (reading : Read Placed A)
    (reads : read_at error_after reader text ≡ finding found reading) where
  abbrev Returned : Read Placed (Found × List Pair) → Type 0
  Returned read = OnWhole error_after reader text read

  returned_here : (read : Read Placed A) → reading ≡ read → Returned (finding found read)
  returned_here read is = rw (← (reads ∙ ap (finding found) is)) (whole_read error_after reader text)

  -- The complete text was read.
  nothing_left : (x : A) (rest : Text) → reading ≡ Ok (x, rest) → rest ≡ []
  nothing_left x rest is = (returned_here (Ok (x, rest)) is).0

  -- A value is returned exactly if the grammar derives it.
  ok_where_derived : (x : A) (rest : Text) → reading ≡ Ok (x, rest) → (y : A)
      → (done {E = Fault} x ≡ done y → Derives reader text (found y) []) × (Derives reader text (found y) [] → done {E = Fault} x ≡ done y)
  ok_where_derived x rest is y = (
    λ e. rw (← (done_is {E = Fault} x y e)) (returned_here (Ok (x, rest)) is).1,
    λ d.
        let read = done_is {E = Placed} ((found x, []), rest) ((found y, []), []) (sym (reads ∙ ap (finding found) is) ∙ takes error_after reader text (found y) [] d) in
        ap done (same x y (ap (λ p. p.0.0) read)),
  )

  -- If a value is returned, the text is accepted.
  accepted_where_read : (x : A) (rest : Text) → reading ≡ Ok (x, rest) → Accepted reader text
  accepted_where_read x rest is = accepted reader text (found x, [], (returned_here (Ok (x, rest)) is).1)

  -- If reading returned a fault, the grammar derives nothing.
  err_where_refused : (fault : Fault) (stop : Reason) (left : Text) → reading ≡ Err (stop, left) → (y : A)
      → (Err fault ≡ done y → Derives reader text (found y) []) × (Derives reader text (found y) [] → Err fault ≡ done y)
  err_where_refused fault stop left is y = (
    λ e. absurd (failed_is y fault e),
    λ d. absurd (failed_is ((found y, []), []) (stop, left) (sym (reads ∙ ap (finding found) is) ∙ takes error_after reader text (found y) [] d)),
  )

  -- A fault is the error of a row that fits.
  err_where_fits : (stop : Reason) (left : Text) → reading ≡ Err (stop, left) → ReadsNoPairs reader → HasFault reader text [] (fault_at (has_brackets reader) stop left)
  err_where_fits stop left is none =
      let row = returned_here _ is in
      let fits = no_pairs reader row.1 row.0 text none row.3 in
      (row.1, fits, sym (fault_of_row reader row.1 [] text fits) ∙ ap (λ (p : Placed). fault_at (has_brackets reader) p.0 p.1) (sym row.2))

-- The result of a public reader, if the private function returned this result and the cursor was settled with it.
module _ {U A : Type 0} (letter : ℕ → Letter) (view : U → A) (reader : Reader) (found : A → Found) (same : (x y : A) → found x ≡ found y → x ≡ y)
    (none : ReadsNoPairs reader) (reading : Text → Read Placed A) (old new : Unread)
    (reads : read_at error_after reader (map letter old.rest) ≡ finding found (reading (map letter old.rest))) where
  -- The clauses of the reader. `named` gives the fault of an error.
  pub record Exact {E : Type 0} (named : E → Fault) (result : Result U E) : Type 0 where
    pub ok : (y : A) → (returned_by named view result ≡ Ok y → Derives reader (map letter old.rest) (found y) [])
        × (Derives reader (map letter old.rest) (found y) [] → returned_by named view result ≡ Ok y)
    pub err : IfErr result (λ e. HasFault reader (map letter old.rest) [] (named e))
    pub comes : IfErr result (λ e. IsFalse (never_comes (named e)))
    pub no_row : OnOk result (NoRowFits reader (map letter old.rest))
    pub no_other_reader : (profile : Profile) → OnOk result (InNoOther profile reader (map letter old.rest))
    pub only : IfErr result (λ e. OnlyFault reader (map letter old.rest) [] (named e))
    pub empty : (left : List ℕ) → OnOk result (left ≡ new.rest) → OnOk result (left ≡ [])

  pub exact : {E : Type 0} (named : E → Fault) (read : Result U Reason) (result : Result U E) → Reads letter view old read new reading
      → Settles named (has_brackets reader) (map letter new.rest) read result → Exact named result
  exact named (Ok x) (Ok y) h s = let read = accepted_where_read reader found same _ _ reads (view x) _ h in record {
    ok = rw s (ok_where_derived reader found same (map letter old.rest) _ reads (view x) (map letter new.rest) h);
    err = tt;
    comes = tt;
    no_row = read.no_row;
    no_other_reader = read.no_other_reader;
    only = tt;
    empty = λ left is. is ∙ no_units letter new.rest (nothing_left reader found same (map letter old.rest) _ reads (view x) (map letter new.rest) h);
  }
  exact named (Ok x) (Err e) h s = absurd s
  exact named (Err stop) (Ok y) h s = absurd s
  exact named (Err stop) (Err e) h s = let fits : HasFault reader (map letter old.rest) [] (named e) =
      rw s (err_where_fits reader found same (map letter old.rest) _ reads stop (map letter new.rest) h none) in record {
        ok = rw s (err_where_refused reader found same (map letter old.rest) _ reads (fault_at (has_brackets reader) stop (map letter new.rest)) stop (map letter new.rest) h);
        err = fits;
        comes = fault_comes reader _ [] (named e) fits;
        no_row = tt;
        no_other_reader = λ profile. tt;
        only = only_fault reader _ [] (named e) fits;
        empty = λ left is. tt;
      }

-- What is true for each fault is true for the fault that was returned.
pub each_err : {X Y E : Type 0} (named : E → Fault) (view : X → Y) (holds : Fault → Type 0) (r : Result X E)
    → ((fault : Fault) → returned_by named view r ≡ Err fault → holds fault) → IfErr r (λ e. holds (named e))
each_err named view holds (Ok x) h = tt
each_err named view holds (Err e) h = h (named e) refl
