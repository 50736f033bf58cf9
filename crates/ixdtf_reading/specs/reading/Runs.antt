-- Runs: code units that are consumed one by one, with a state.
use Rattle.std.specs.Prelude.{◌≡◌, ℕ, Bool, false, List, [], ◌∷◌, ◌++◌, map, Option, Some, None, Result, Ok, Err, if◌then◌else◌}
use Rattle.ixdtf_grammar.specs.declared.reason.Reason.{Reason}
use Rattle.ixdtf_reading.specs.reading.Looks.{Read, Placed}
use Rattle.ixdtf_grammar.specs.language.Letters.{Letter, Text, Class, key_char, value_char, Letter.{Plain, Bad}}
use Rattle.ixdtf_grammar.specs.Views.{Unread}

-- The code units that were consumed, the state after them, and the next code unit, which does not continue the run.
pub record Taken (S : Type 0) : Type 0 where
  pub letters : List ℕ
  pub state : S
  pub next : Option ℕ

abbrev pub nothing_taken : {S : Type 0} → S → Option ℕ → Taken S
nothing_taken state next = record { letters = []; state = state; next = next }

-- Puts one more code unit before those that were consumed.
abbrev pub one_more : {S : Type 0} → ℕ → Read Placed (Taken S) → Read Placed (Taken S)
one_more c (Ok x) = Ok (record { letters = c ∷ x.0.letters; state = x.0.state; next = x.0.next }, x.1)
one_more c (Err e) = Err e

-- Continues with `go` if the code unit has a next state, and otherwise with `stay`.
abbrev pub on_letter : {S A : Type 0} → Option S → (S → A) → A → A
on_letter None go stay = stay
on_letter (Some next) go stay = go next

-- Consumes code units as long as `after` gives a next state. `stop` gives the `Reason` at a bad code unit after a state.
unfoldable pub letters_by : {S : Type 0} → (S → Reason) → (S → ℕ → Option S) → S → Text → Read Placed (Taken S)
letters_by stop after state [] = Ok (nothing_taken state None, [])
letters_by stop after state (Bad ∷ rest) = Err (stop state, Bad ∷ rest)
letters_by stop after state (Plain c ∷ rest) =
    on_letter (after state c) (λ next. one_more c (letters_by stop after next rest)) (Ok (nothing_taken state (Some c), Plain c ∷ rest))

-- The `Reason` is the same after each state.
abbrev pub always : {S : Type 0} → Reason → S → Reason
always stop state = stop

-- The state after one code unit of a class. A run of one class has only one state.
-- `key_after` is for keys, and `component_after` for components of values.
abbrev pub within : Class → Unit {0} → ℕ → Option (Unit {0})
within class state c = if class c then Some state else None

abbrev pub key_after : Unit {0} → ℕ → Option (Unit {0})
key_after = within key_char

abbrev pub component_after : Unit {0} → ℕ → Option (Unit {0})
component_after = within value_char

-- Whether a look found a code unit of the class.
abbrev pub found_in : Class → Result (Option ℕ) Reason → Bool
found_in class (Ok (Some c)) = class c
found_in class (Ok None) = false
found_in class (Err stop) = false

-- A function consumed the run of code units of the class, and returned what follows the run, or the error of the run.
abbrev pub PassesOver : (ℕ → Letter) → Reason → Unread → Result (Option ℕ) Reason → Unread → Class → Type 0
PassesOver letter stop old (Ok next) new class = (letters : List ℕ) × (old.rest ≡ letters ++ new.rest)
    × (letters_by (always stop) (within class) tt (map letter old.rest) ≡ Ok (record { letters = letters; state = tt; next = next }, map letter new.rest))
PassesOver letter stop old (Err e) new class = letters_by (always stop) (within class) tt (map letter old.rest) ≡ Err (e, map letter new.rest)
