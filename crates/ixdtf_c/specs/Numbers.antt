-- The numbers that readers return.
use Rattle.std.specs.Prelude.{ℕ, ◌+◌, Result, Ok, Err}
use Rattle.ixdtf.specs.table.{ErrorEquality.variant_index_of, Faults.Fault}
use Rattle.ixdtf_c.specs.Located.{FaultAt}

-- The number of an error. The numbers begin at 1 and follow the order of the errors in `Fault`.
abbrev pub number_for : Fault → ℕ
number_for fault = variant_index_of fault + 1

-- The number is 0 if the text is accepted. Otherwise it is the number of the error.
abbrev pub outcome_number : {A : Type 0} → Result A FaultAt → ℕ
outcome_number (Ok found) = 0
outcome_number (Err e) = number_for e.fault
