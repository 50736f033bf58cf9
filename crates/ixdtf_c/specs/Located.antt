-- Errors with their positions.
use Rattle.std.specs.Prelude.{◌≡◌, ℕ, Result, Ok, Err}
use Rattle.ixdtf_grammar.specs.declared.reason.Reason.{Reason}
use Rattle.ixdtf_explanations.specs.declared.located.LocatedError.{LocatedError}
use Rattle.ixdtf.specs.table.Faults.{Fault}
use Rattle.ixdtf.specs.LocatedFaults.{fault_of_located}

-- An error, and its position: the number of code units before it.
pub record FaultAt : Type 0 where
  pub fault : Fault
  pub at : ℕ

-- The error and the position of a `LocatedError` of the library.
abbrev pub fault_at : LocatedError → FaultAt
fault_at e = record { fault = fault_of_located e; at = e.at }

-- What a function returned. `view` is applied to a value, and an error is given with its position.
abbrev pub returned_at : {X Y : Type 0} → (X → Y) → Result X LocatedError → Result Y FaultAt
returned_at view (Ok x) = Ok (view x)
returned_at view (Err e) = Err (fault_at e)

-- The outcome without the position of its error.
abbrev pub unplaced : {A : Type 0} → Result A FaultAt → Result A Fault
unplaced (Ok found) = Ok found
unplaced (Err e) = Err e.fault

-- This is the outcome of what a function returned. Its error has any type for which `named` gives the error of the fault table, and
-- `stands` says which reason and which position it has.
abbrev pub HasOutcome : {X Y E : Type 0} → (E → Fault) → (Reason → ℕ → E → Type 0) → (X → Y) → Result X E → Result Y FaultAt → Type 0
HasOutcome named stands view (Ok x) outcome = outcome ≡ Ok (view x)
HasOutcome named stands view (Err e) outcome = (reason : Reason) × (at : ℕ) × stands reason at e × (outcome ≡ Err (record { fault = named e; at = at }))
