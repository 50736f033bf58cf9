-- The promises of the public readers whose errors have a position. Each record here is one clause of a contract, as in `Promises` of
-- `ixdtf_grammar`. It also says which position and which reason the error has.
use Rattle.std.specs.Prelude.{◌≡◌, ◌↔◌, ℕ, List, [], map, Result, Ok, OnOk, IfErr}
use Rattle.ixdtf_grammar.specs.language.{Letters.Letter, Readers.Reader, Languages.{Parsed, Found, Derives}}
use Rattle.ixdtf_grammar.specs.table.Outcomes.{HasFaultAt, HasReason, OnlyReason, OnlyPlace, NoRowFits, OnlyFault}
use Rattle.ixdtf_grammar.specs.{Handlers.{UnhandledRecord, UnhandledOnlyFault}, Laws.InNoOther}
use Rattle.ixdtf_grammar.specs.Places.{UnhandledFaultAt, UnhandledOnlyPlace, UnhandledReason, UnhandledOnlyReason}
use Rattle.ixdtf_grammar.specs.Views.{Unread, UnreadUnder, unread_of, most_looks, LeavesBehind, returned_by}
use Rattle.ixdtf_explanations.specs.{declared.located.LocatedError.LocatedError, LocatedFaults.fault_of_located}

-- This is the clause of a reader without a handler whose error has a position.
pub record ReadsTextAt {X : Type 0} (letter : ℕ → Letter) (view : X → Parsed) (reader : Reader)
    (old : UnreadUnder) (result : Result X LocatedError) (new : UnreadUnder) : Type 0 where
  pub ok : (found : Parsed) → (returned_by fault_of_located view result ≡ Ok found) ↔ UnhandledRecord reader (map letter old.rest) found
  -- The result is `Err` only with an error and a position that the text gives without a handler.
  pub err : IfErr result (λ e. UnhandledFaultAt reader (map letter old.rest) (fault_of_located e) e.at)
  -- The text gives no other error, and no error at another position.
  pub place : IfErr result (λ e. UnhandledOnlyPlace reader (map letter old.rest) (fault_of_located e) e.at)
  -- The error has the reason that the text gives without a handler, and the text gives no other reason.
  pub reason : IfErr result (λ e. UnhandledReason reader (map letter old.rest) e.reason)
  pub one_reason : IfErr result (λ e. UnhandledOnlyReason reader (map letter old.rest) e.reason)
  pub no_row : OnOk result (NoRowFits reader (map letter old.rest))
  pub no_other_reader : OnOk result (InNoOther old.profile reader (map letter old.rest))
  pub only : IfErr result (λ e. UnhandledOnlyFault reader (map letter old.rest) (fault_of_located e))
  pub leaves : LeavesBehind fault_of_located (most_looks old.rest) (unread_of old) result (unread_of new)
  pub profile : new.profile ≡ old.profile

-- This is the clause of a reader of texts without brackets whose error has a position.
pub record ReadsPartAt {X A : Type 0} (letter : ℕ → Letter) (view : X → A) (found : A → Found) (reader : Reader)
    (old : Unread) (result : Result X LocatedError) (new : Unread) : Type 0 where
  pub ok : (value : A) → (returned_by fault_of_located view result ≡ Ok value) ↔ Derives reader (map letter old.rest) (found value) []
  -- The result is `Err` only if a row with this error fits at this position.
  pub err : IfErr result (λ e. HasFaultAt reader (map letter old.rest) [] (fault_of_located e) e.at)
  -- No row with another error fits, and no row fits at another position.
  pub place : IfErr result (λ e. OnlyPlace reader (map letter old.rest) (fault_of_located e) e.at)
  -- The result is `Err` only if a row fits whose line has the reason, and no row fits whose line has another reason.
  pub reason : IfErr result (λ e. HasReason reader (map letter old.rest) [] e.reason)
  pub one_reason : IfErr result (λ e. OnlyReason reader (map letter old.rest) e.reason)
  pub no_row : OnOk result (NoRowFits reader (map letter old.rest))
  pub only : IfErr result (λ e. OnlyFault reader (map letter old.rest) [] (fault_of_located e))
  pub leaves : LeavesBehind fault_of_located (most_looks old.rest) old result new
