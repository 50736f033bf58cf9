-- The fault, the position and the reason of an error with a position.
use Rattle.std.specs.Prelude.{◌≡◌, ℕ}
use Rattle.ixdtf_grammar.specs.{declared.reason.Reason.Reason, table.Faults.{Fault, fault_of}}
use Rattle.ixdtf_explanations.specs.declared.located.LocatedError.{LocatedError}

-- This is the `Fault` of an error with a position.
abbrev pub fault_of_located : LocatedError → Fault
fault_of_located e = fault_of e.error

-- The error has the reason, and is at the position `at`.
abbrev pub stands_behind : Reason → ℕ → LocatedError → Type 0
stands_behind reason at e = (e.reason ≡ reason) × (e.at ≡ at)
