-- The contract of a reader of complete texts follows from the contract of the function that reads into a record.
use Rattle.std.proofs.Common.{◌≡◌, ℕ, ◌+◌, ◌≤◌, map, Result, Ok, Err, refl, arith}
use Rattle.ixdtf_grammar.specs.{declared.records.IxdtfParseRecord.IxdtfParseRecord, language.{Letters.{Letter, Text}, Languages.{Parsed, Found}}}
use Rattle.ixdtf_explanations.specs.declared.located.LocatedError.{LocatedError}
use Rattle.ixdtf_grammar.specs.{language.Readers.{Reader, CoreKind, Reader.bracketed}, table.Faults.{Fault}, Handlers.{Step, replies_of}}
use Rattle.ixdtf_explanations.specs.LocatedFaults.{fault_of_located}
use Rattle.ixdtf_grammar.specs.Promises.{ReadsText, HandlesText, HandlesTextAt, most_looks_beside}
use Rattle.ixdtf_explanations.specs.LocatedPromises.{ReadsTextAt, ReadsPartAt}
use Rattle.ixdtf_grammar.specs.Views.{Unread, UnreadUnder, parsed_of, most_looks, LeavesBehind}
use Rattle.ixdtf_reading.specs.{declared.stop.StopAt.StopAt, reading.{Chains.{Counting, TextRead}, Looks.{Read, Placed}}}
use Rattle.ixdtf_reading.proofs.theorems.Handled.{OwnReplies, handled, handled_of, gives_result, handled_accepted, unhandled_form}
use Rattle.ixdtf_explanations.proofs.code.Located.{Located}
use Rattle.ixdtf_reading.proofs.theorems.HandledAt.{handled_at_ok, handled_at_err, handled_to_at_ok, handled_to_at_err, unhandled_at, unhandled_reason}
use Rattle.ixdtf_reading.proofs.theorems.{OnePlace.one_unhandled_place, OneReason.one_unhandled_reason}
use Rattle.ixdtf_grammar.specs.declared.reason.Reason.{Reason}
use Rattle.ixdtf.proofs.code.Counted.{cost_of, own_costs_nothing, text_of}
use Rattle.ixdtf.specs.Readings.{ReadsInto, ReadsHandled, ReadsUnhandled, HandlesTextTo, fault_of_stop_at}

-- The results of reading into a record: success, and an error.
abbrev ended : Result Unit StopAt
ended = Ok tt

abbrev stopped : StopAt → Result Unit StopAt
stopped why = Err why

-- What the function leaves is also true with another value, with another error that has the same fault, and with a greater bound.
module _ {X E : Type 0} (fault : E → Fault) {most more : ℕ} (fits : most ≤ more) {old new : Unread} where
  leaves_ok : (found : X) → LeavesBehind fault_of_stop_at most old ended new → LeavesBehind fault more old (Ok found) new
  leaves_ok found leaves = record { empty = leaves.empty; unchanged = tt; comes = tt; looks = omega (arith, fits, leaves.looks); counted = leaves.counted }

  leaves_err : (e : E) (why : StopAt) → fault e ≡ fault_of_stop_at why → LeavesBehind fault_of_stop_at most old (stopped why) new
      → LeavesBehind {X = X} fault more old (Err e) new
  leaves_err e why same leaves = record {
    empty = tt;
    unchanged = leaves.unchanged;
    comes = rw same leaves.comes;
    looks = omega (arith, fits, leaves.looks);
    counted = leaves.counted;
  }

-- A bound is at most itself.
at_most : {n : ℕ} → n ≤ n
at_most = omega arith

-- ---- without a handler

-- The handler returns each annotation.
pub unhandled : {T U F : Type 0} (letter : ℕ → Letter) (number : U → ℕ) (step : Step T U F) (handler last : F) (found : Parsed) (kind : CoreKind)
    (old new : UnreadUnder) (result : Result Unit StopAt) → OwnReplies step → ReadsInto letter number step handler last found (bracketed kind) old result new
    → ReadsUnhandled letter found (bracketed kind) old result new
unhandled letter number step handler last found kind old new (Ok x) own read =
    let nothing = own_costs_nothing number step own read.replied.calls _ _ read.replied.chain in record {
      form = unhandled_form (handled number step handler (bracketed kind) (map letter old.rest) _ last (text_of number step read.replied)) own;
      err = tt;
      place = tt;
      reason = tt;
      one_reason = tt;
      leaves = leaves_ok fault_of_stop_at (omega (arith, nothing)) x read.leaves;
      profile = read.profile;
    }
unhandled letter number step handler last found kind old new (Err why) own read =
    let text = map letter old.rest in
    let (left, lengths, counted, code) = read.replied in
    let alone = text_of number step counted in
    let stands = unhandled_at number step handler last (bracketed kind) text own why (left, lengths, alone, code) in
    let because = unhandled_reason number step handler last (bracketed kind) text own why (left, lengths, alone, code) in
    let nothing = own_costs_nothing number step own counted.calls _ _ counted.chain in record {
      form = rw code (unhandled_form (handled number step handler (bracketed kind) text _ last alone) own);
      err = stands;
      place = one_unhandled_place kind text (fault_of_stop_at why) why.at stands;
      reason = because;
      one_reason = one_unhandled_reason kind text why.reason because;
      leaves = leaves_err fault_of_stop_at (omega (arith, nothing)) why why refl read.leaves;
      profile = read.profile;
    }

module _ {X : Type 0} (letter : ℕ → Letter) (view : X → Parsed) (reader : Reader) (old new : UnreadUnder) where
  pub reads_ok : {E : Type 0} (fault : E → Fault) (given found : X) → given ≡ found
      → ReadsUnhandled letter (view found) reader old ended new → ReadsText letter fault view reader old (Ok given) new
  reads_ok fault given found same read = rw same (record {
    ok = read.form.ok;
    err = tt;
    no_row = read.form.no_row;
    no_other_reader = read.form.no_other_reader old.profile;
    only = tt;
    leaves = leaves_ok fault at_most found read.leaves;
    profile = read.profile;
  })

  pub reads_err : {E : Type 0} (fault : E → Fault) (found : Parsed) (e : E) (why : StopAt) → fault e ≡ fault_of_stop_at why
      → ReadsUnhandled letter found reader old (stopped why) new → ReadsText letter fault view reader old (Err e) new
  reads_err fault found e why same read = let gives = rw (← same) at read.form in record {
    ok = gives.ok;
    err = gives.err;
    no_row = tt;
    no_other_reader = tt;
    only = gives.only;
    leaves = leaves_err fault at_most e why same read.leaves;
    profile = read.profile;
  }

  pub reads_err_at : (found : Parsed) (e : LocatedError) (why : StopAt) → fault_of_located e ≡ fault_of_stop_at why → e.at ≡ why.at → e.reason ≡ why.reason
      → ReadsUnhandled letter found reader old (stopped why) new → ReadsTextAt letter view reader old (Err e) new
  reads_err_at found e why same stands told read = let plain = reads_err fault_of_located found e why same read in record {
    ok = plain.ok;
    err = rw (same, stands) read.err;
    place = rw (same, stands) read.place;
    reason = rw told read.reason;
    one_reason = rw told read.one_reason;
    no_row = tt;
    no_other_reader = tt;
    only = plain.only;
    leaves = plain.leaves;
    profile = plain.profile;
  }

-- ---- with a handler

module _ {T U F X E : Type 0} (letter : ℕ → Letter) (number : U → ℕ) (step : Step T U F) (handler last : F) (view : X → Parsed) (reader : Reader)
    (old new : UnreadUnder) (fault : E → Fault) where
  -- The accesses that the replies take are within the bound.
  within : {spent : ℕ} {text : Text} {result : Result Parsed Placed} (read : TextRead number (Counting step) (handler, 0) (last, spent) reader text result)
      → most_looks old.rest + spent ≤ most_looks_beside old.rest (replies_of number read.calls)
  within read = omega (arith, cost_of number step read.calls _ _ read.chain)

  pub handles_ok : (found : X) → ReadsInto letter number step handler last (view found) reader old ended new
      → HandlesText letter number step handler fault view reader old (Ok found) new
  handles_ok found read =
      let gives = handled number step handler reader (map letter old.rest) (Ok (view found)) last (text_of number step read.replied) in
      let whole = handled_accepted number step handler reader (map letter old.rest) _ gives (view found) refl in record {
        handled = gives;
        no_row = whole.no_row;
        no_other_reader = whole.no_other_reader old.profile;
        leaves = leaves_ok fault (within read.replied) found read.leaves;
        profile = read.profile;
      }

  pub handles_err : (found : Parsed) (e : E) (why : StopAt) → fault e ≡ fault_of_stop_at why
      → ReadsInto letter number step handler last found reader old (stopped why) new → HandlesText letter number step handler fault view reader old (Err e) new
  handles_err found e why same read =
      let text = map letter old.rest in
      let alone = text_of number step read.replied.2 in
      let gives = gives_result reader text _ _ (Err (why.reason, read.replied.0)) alone.gives in record {
        handled = handled_of number step handler reader text (Err (fault e)) alone.calls last alone.chain (rw (same, read.replied.3) gives);
        no_row = tt;
        no_other_reader = tt;
        leaves = leaves_err fault (within read.replied.2) e why same read.leaves;
        profile = read.profile;
      }

  -- The contract also states the position of an error, and then the state in which the handler is left.
  module _ (stands : Reason → ℕ → E → Type 0) where
    pub handles_ok_at : (found : X) → ReadsInto letter number step handler last (view found) reader old ended new
        → HandlesTextAt letter number step handler fault stands view reader old (Ok found) new
    unfolding handled_to_at_ok handles_ok
    handles_ok_at found read = let plain = handles_ok found read in record {
      handled = handled_at_ok number step handler last reader (map letter old.rest) fault stands view found (text_of number step read.replied);
      no_row = plain.no_row;
      no_other_reader = plain.no_other_reader;
      leaves = plain.leaves;
      profile = plain.profile;
    }

    pub handles_err_at : (found : Parsed) (e : E) (why : StopAt) → fault e ≡ fault_of_stop_at why → stands why.reason why.at e
        → ReadsInto letter number step handler last found reader old (stopped why) new
        → HandlesTextAt letter number step handler fault stands view reader old (Err e) new
    unfolding handled_to_at_err
    handles_err_at found e why same there read =
        let (left, lengths, counted, code) = read.replied in record {
          handled = handled_at_err number step handler last reader (map letter old.rest) fault stands view why e same there
              (left, lengths, text_of number step counted, code);
          no_row = tt;
          no_other_reader = tt;
          leaves = leaves_err fault (within counted) e why same read.leaves;
          profile = read.profile;
        }

    pub handles_ok_to : (found : X) → ReadsInto letter number step handler last (view found) reader old ended new
        → HandlesTextTo letter number step handler last fault stands view reader old (Ok found) new
    unfolding handled_to_at_ok handles_ok
    handles_ok_to found read =
        let plain = handles_ok found read in
        let to = handled_to_at_ok number step handler last reader (map letter old.rest) fault stands view found (text_of number step read.replied) in
        record { handled = to; no_row = plain.no_row; no_other_reader = plain.no_other_reader; leaves = plain.leaves; profile = plain.profile }

    pub handles_err_to : (found : Parsed) (e : E) (why : StopAt) → fault e ≡ fault_of_stop_at why → stands why.reason why.at e
        → ReadsInto letter number step handler last found reader old (stopped why) new
        → HandlesTextTo letter number step handler last fault stands view reader old (Err e) new
    unfolding handled_to_at_err
    handles_err_to found e why same there read =
        let (left, lengths, counted, code) = read.replied in
        let alone = text_of number step counted in
        let to = handled_to_at_err number step handler last reader (map letter old.rest) fault stands view why e same there (left, lengths, alone, code) in
        record { handled = to; no_row = tt; no_other_reader = tt; leaves = leaves_err fault (within counted) e why same read.leaves; profile = read.profile }

-- The contracts of the two functions that only call `read_handled`.
module _ {T U F E : Type 0} (letter : ℕ → Letter) (number : U → ℕ) (step : Step T U F) (handler last : F) (reader : Reader) (old new : UnreadUnder)
    (fault : E → Fault) (stands : Reason → ℕ → E → Type 0) where
  pub handles_by : (result : Result (IxdtfParseRecord T U) E) → ReadsHandled letter number step handler last fault stands reader old result new
      → HandlesText letter number step handler fault (parsed_of number) reader old result new
  handles_by (Ok found) read = handles_ok letter number step handler last (parsed_of number) reader old new fault found read
  handles_by (Err e) (found, why, read, same, there) = handles_err letter number step handler last (parsed_of number) reader old new fault found e why same read

  pub handles_by_at : (result : Result (IxdtfParseRecord T U) E) → ReadsHandled letter number step handler last fault stands reader old result new
      → HandlesTextAt letter number step handler fault stands (parsed_of number) reader old result new
  handles_by_at (Ok found) read = handles_ok_at letter number step handler last (parsed_of number) reader old new fault stands found read
  handles_by_at (Err e) (found, why, read, same, there) =
      handles_err_at letter number step handler last (parsed_of number) reader old new fault stands found e why same there read

  pub handles_by_to : (result : Result (IxdtfParseRecord T U) E) → ReadsHandled letter number step handler last fault stands reader old result new
      → HandlesTextTo letter number step handler last fault stands (parsed_of number) reader old result new
  handles_by_to (Ok found) read = handles_ok_to letter number step handler last (parsed_of number) reader old new fault stands found read
  handles_by_to (Err e) (found, why, read, same, there) =
      handles_err_to letter number step handler last (parsed_of number) reader old new fault stands found e why same there read

-- ---- a part on its own

-- The contract of a reader of one part follows from what it read and what it leaves.
pub part_at : {U A : Type 0} {letter : ℕ → Letter} {view : U → A} {reader : Reader} {found : A → Found} {same : _} {none : _} {reading : Text → Read Placed A}
    {old new left : Unread} {reads : _} {met : A → Text → Type 0} {gives : _} {result : Result U LocatedError}
    → Located letter view reader found same none reading old new reads met gives result → LeavesBehind fault_of_located (most_looks old.rest) old result left
    → ReadsPartAt letter view found reader old result left
part_at gives leaves = let plain = gives.plain in record {
  ok = plain.ok;
  err = gives.err;
  place = gives.place;
  reason = gives.reason;
  one_reason = gives.one_reason;
  no_row = plain.no_row;
  only = plain.only;
  leaves = leaves;
}
