-- The promises of the public readers. Each record here is one clause of a contract. It says what the reader returned, and what it
-- left in the parser. The value and the error that the reader returned are each seen through a view.
use Rattle.std.specs.Prelude.{◌≡◌, ◌↔◌, ℕ, ◌+◌, ◌*◌, List, [], map, Result, Ok, OnOk, IfErr}
use Rattle.ixdtf_grammar.specs.language.{Letters.Letter, Readers.Reader, Languages.{Parsed, Found, Derives}}
use Rattle.ixdtf_grammar.specs.table.{Faults.{Fault}, Outcomes.{HasFault, NoRowFits, OnlyFault}}
use Rattle.ixdtf_grammar.specs.declared.reason.Reason.{Reason}
use Rattle.ixdtf_grammar.specs.Handlers.{Reply, replies_of, value_units, Step, Handled, UnhandledRecord, UnhandledFault, UnhandledOnlyFault}
use Rattle.ixdtf_grammar.specs.{Places.HandledAt, Laws.InNoOther}
use Rattle.ixdtf_grammar.specs.Views.{Unread, UnreadUnder, unread_of, most_looks, LeavesBehind, returned_by}

-- This is the clause of a reader without a handler.
pub record ReadsText {X E : Type 0} (letter : ℕ → Letter) (fault : E → Fault) (view : X → Parsed) (reader : Reader)
    (old : UnreadUnder) (result : Result X E) (new : UnreadUnder) : Type 0 where
  -- The result is `Ok` with a record exactly if the text gives this record without a handler.
  pub ok : (found : Parsed) → (returned_by fault view result ≡ Ok found) ↔ UnhandledRecord reader (map letter old.rest) found
  -- The result is `Err` only with an error that the text gives without a handler.
  pub err : IfErr result (λ e. UnhandledFault reader (map letter old.rest) (fault e))
  -- The result is `Ok` only if no row of the fault table fits, and the text is in the language of no other text reader.
  pub no_row : OnOk result (NoRowFits reader (map letter old.rest))
  pub no_other_reader : OnOk result (InNoOther old.profile reader (map letter old.rest))
  -- The result is `Err` only with the one error that the text gives: that of the last reply, or that of the only row that fits.
  pub only : IfErr result (λ e. UnhandledOnlyFault reader (map letter old.rest) (fault e))
  -- After `Ok` there is no remaining input. After an error, the remaining input is unchanged.
  pub leaves : LeavesBehind fault (most_looks old.rest) (unread_of old) result (unread_of new)
  pub profile : new.profile ≡ old.profile

-- For a text and these replies of a handler, a reader accesses a code unit at most this number of times. Each code unit in the values
-- of the replies adds two accesses.
abbrev pub most_looks_beside : List ℕ → List Reply → ℕ
most_looks_beside rest replies = most_looks rest + 2 * value_units replies

-- This is the clause of a reader with a handler. It is about the one chain of calls of the handler.
pub record HandlesText {T U F X E : Type 0} (letter : ℕ → Letter) (number : U → ℕ) (step : Step T U F) (handler : F)
    (fault : E → Fault) (view : X → Parsed) (reader : Reader) (old : UnreadUnder) (result : Result X E) (new : UnreadUnder) : Type 0 where
  -- The result is `Ok` exactly with the record that the text and the replies give, and `Err` only with the one error that they give.
  pub handled : Handled number step handler reader (map letter old.rest) (returned_by fault view result)
  pub no_row : OnOk result (NoRowFits reader (map letter old.rest))
  pub no_other_reader : OnOk result (InNoOther old.profile reader (map letter old.rest))
  pub leaves : LeavesBehind fault (most_looks_beside old.rest (replies_of number handled.calls)) (unread_of old) result (unread_of new)
  pub profile : new.profile ≡ old.profile

-- This is the clause of a reader with a handler whose error has a position.
pub record HandlesTextAt {T U F X E : Type 0} (letter : ℕ → Letter) (number : U → ℕ) (step : Step T U F) (handler : F)
    (fault : E → Fault) (stands : Reason → ℕ → E → Type 0) (view : X → Parsed) (reader : Reader) (old : UnreadUnder)
    (result : Result X E) (new : UnreadUnder) : Type 0 where
  pub handled : HandledAt number step handler reader (map letter old.rest) fault stands view result
  pub no_row : OnOk result (NoRowFits reader (map letter old.rest))
  pub no_other_reader : OnOk result (InNoOther old.profile reader (map letter old.rest))
  pub leaves : LeavesBehind fault (most_looks_beside old.rest (replies_of number handled.calls)) (unread_of old) result (unread_of new)
  pub profile : new.profile ≡ old.profile

-- ---- readers of a text without brackets

-- This is the clause of a reader of texts without brackets. `view` says how the clause sees the value that the reader returned, and
-- `found` says which value of the grammar this is.
pub record ReadsPart {X A E : Type 0} (letter : ℕ → Letter) (fault : E → Fault) (view : X → A) (found : A → Found) (reader : Reader)
    (old : Unread) (result : Result X E) (new : Unread) : Type 0 where
  -- The result is `Ok` with a value exactly if the grammar derives this value from the text.
  pub ok : (value : A) → (returned_by fault view result ≡ Ok value) ↔ Derives reader (map letter old.rest) (found value) []
  -- The result is `Err` only if a row of the fault table with this error fits.
  pub err : IfErr result (λ e. HasFault reader (map letter old.rest) [] (fault e))
  -- The result is `Ok` only if no row fits.
  pub no_row : OnOk result (NoRowFits reader (map letter old.rest))
  -- The result is `Err` only if no other row fits, and the grammar derives nothing from the text.
  pub only : IfErr result (λ e. OnlyFault reader (map letter old.rest) [] (fault e))
  pub leaves : LeavesBehind fault (most_looks old.rest) old result new
