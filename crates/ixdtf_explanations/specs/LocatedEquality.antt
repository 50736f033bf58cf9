-- Equality of errors with positions: two of them are equal if their positions and their reasons are the same and the errors are equal.
use Rattle.std.specs.{Prelude.{ℕ, Bool, List, ◌∷◌}, Ordering.on, Str.bytes_eq, Cmp.{IsPartialEquivalence, partial_equiv_from_equiv}}
use Rattle.std.specs.Cmp.Lexicographic.{on_texts_equal}
use Rattle.ixdtf_grammar.specs.contracts.reason.Reason as reasons
use denote.Enum.Declared.{tag_of}
use Rattle.ixdtf_grammar.specs.table.{ErrorEquality.spelled, Faults.fault_of}
use Rattle.ixdtf_explanations.specs.declared.located.LocatedError.{LocatedError}

-- This list has the position, the number of the reason, and then the numbers that identify the error.
abbrev pub spelled_at : LocatedError → List ℕ
spelled_at e = e.at ∷ tag_of reasons.the_type e.reason ∷ spelled (fault_of e.error)

-- This says whether two errors with their positions are equal.
abbrev pub same_located : LocatedError → LocatedError → Bool
same_located = on spelled_at bytes_eq

pub same_located-laws : IsPartialEquivalence same_located
same_located-laws = partial_equiv_from_equiv (on_texts_equal spelled_at)
