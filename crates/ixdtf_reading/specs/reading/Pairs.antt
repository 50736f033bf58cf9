-- The reading functions of annotations. In the definitions, an annotation is a `Pair` of a key and a value.
use Rattle.ixdtf_grammar.specs.declared.reason.Reason.{Reason}
use Rattle.std.specs.Prelude.{ℕ, zero, suc, Bool, true, false, List, [], ◌∷◌, ◌++◌, Option, Some, None, Ok, Err, if◌then◌else◌, IsTrue}
use Rattle.ixdtf_grammar.specs.language.{Letters.{Text, hyphen, equals, closing, exclamation, key_lead, key_char, value_char, Letter.{Plain, Bad}}, Brackets.Pair}
use Rattle.ixdtf_grammar.specs.table.Faults.{Fault, Fault.{NonAsciiCodePoint, AnnotationKeyValueSeparator, AnnotationKeyChar, AnnotationValueChar}}
use Rattle.ixdtf_grammar.specs.table.{Faults.Fault.{AnnotationClose, AnnotationValueCharPostHyphen}, LineNames.{PairLine, LineName.{of_bracket, of_pair}}}
use Rattle.ixdtf_grammar.specs.table.LineNames.BracketLine.{after_bracket}
use Rattle.ixdtf_grammar.specs.table.{LineNames.PairLine.{key_start, critical_key_start, in_key, value_start, in_value, after_value_hyphen}, Rows.Row}
use Rattle.ixdtf_grammar.specs.table.Rows.Place.{end, other, bad}
use Rattle.ixdtf_reading.specs.reading.Looks.{Read, Look, Placed, look_for, ◌>>=◌, row_of, look_at_line, letter_at, peek_by, look_readings}
use Rattle.ixdtf_reading.specs.{reading.Zones.with_letter}

-- Reads the code units of a key and the `=` after them.
unfoldable pub key_run : {E : Type 0} → (Row → E) → Text → Read E (List ℕ)
key_run fault [] = Err (fault (row_of (of_pair in_key) (end []) AnnotationKeyValueSeparator))
key_run fault (Bad ∷ rest) = Err (fault (row_of (of_pair in_key) (bad (Bad ∷ rest)) NonAsciiCodePoint))
key_run fault (Plain c ∷ rest) =
    if key_char c then with_letter c (key_run fault rest)
    else (if equals c then Ok ([], rest) else Err (fault (row_of (of_pair in_key) (other (Plain c ∷ rest)) AnnotationKeyChar)))

-- The text begins with a code unit with which a key can begin.
abbrev pub BeginsKey : Text → Type 0
BeginsKey [] = ⊥
BeginsKey (Bad ∷ rest) = ⊥
BeginsKey (Plain c ∷ rest) = IsTrue (key_lead c)

-- The state while a value is read: before its first code unit, after a code unit of a component, or after a hyphen.
pub data ValueState : Type 0 where
  AtStart : ValueState
  Inside : ValueState
  AfterHyphen : ValueState

-- What a code unit does in a value: it belongs to the value, it closes the bracket, or it is an error.
pub data ValueStep : Type 0 where
  GoesOn : ValueState → ValueStep
  Ends : ValueStep
  Stops : ValueStep

-- The look for the first code unit of a component.
abbrev pub component_look : Reason → Look Placed
component_look stop = look_for value_char stop

-- The table line of a value in this state.
abbrev pub value_line : ValueState → PairLine
value_line AtStart = value_start
value_line Inside = in_value
value_line AfterHyphen = after_value_hyphen

-- The error at the end of the text. The next definition has the error at any other code unit.
abbrev pub value_end : ValueState → Fault
value_end AtStart = AnnotationValueChar
value_end Inside = AnnotationClose
value_end AfterHyphen = AnnotationValueCharPostHyphen

abbrev pub value_other : ValueState → Fault
value_other AtStart = AnnotationValueChar
value_other Inside = AnnotationValueChar
value_other AfterHyphen = AnnotationValueCharPostHyphen

-- The step of a code unit that is not one of a component.
abbrev pub value_mark : ValueState → ℕ → ValueStep
value_mark Inside c = if hyphen c then GoesOn AfterHyphen else (if closing c then Ends else Stops)
value_mark AtStart c = Stops
value_mark AfterHyphen c = Stops

abbrev pub value_step : ValueState → ℕ → ValueStep
value_step state c = if value_char c then GoesOn Inside else value_mark state c

-- Reads the code units of a value and the `]` after them.
unfoldable pub value_run : {E : Type 0} → (Row → E) → ValueState → Text → Read E (List ℕ)
value_run fault state [] = Err (fault (row_of (of_pair (value_line state)) (end []) (value_end state)))
value_run fault state (Bad ∷ rest) = Err (fault (row_of (of_pair (value_line state)) (bad (Bad ∷ rest)) NonAsciiCodePoint))
value_run fault state (Plain c ∷ rest) =
    elim (value_step state c) [
      | GoesOn next ↦ with_letter c (value_run fault next rest)
      | Ends ↦ Ok ([], rest)
      | Stops ↦ Err (fault (row_of (of_pair (value_line state)) (other (Plain c ∷ rest)) (value_other state)))
    ]

-- Reads a key, `=`, a value and `]`. Returns them as an annotation, which is critical or not.
unfoldable pub pair_at : {E : Type 0} → (Row → E) → Bool → Text → Read E Pair
pair_at fault critical text = do
  key ← key_run fault text
  value ← value_run fault AtStart key.1
  Ok (record { critical = critical; key = key.0; value = value.0 }, value.1)

-- Reads an annotation after its `[!`.
unfoldable pub critical_pair_at : {E : Type 0} → (Row → E) → Text → Read E Pair
critical_pair_at fault text = do
  lead ← letter_at fault (of_pair critical_key_start) text
  pair_at fault true text

-- Reads an annotation after its `[`, in a bracket that is not the first one.
unfoldable pub later_pair_at : {E : Type 0} → (Row → E) → Text → Read E Pair
later_pair_at fault text = do
  lead ← letter_at fault (of_pair key_start) text
  if exclamation lead.0 then critical_pair_at fault lead.1 else pair_at fault false text

-- Reads the next annotation after complete brackets. It is `None` at the end of the text.
unfoldable pub next_pair_at : {E : Type 0} → (Row → E) → Text → Read E (Option Pair)
next_pair_at fault text =
    peek_by (look_at_line fault (of_bracket after_bracket)) text >>= λ next.
    elim next.0 [
      | None ↦ Ok (None, next.1)
      | Some c ↦ later_pair_at fault next.1 >>= λ pair. Ok (Some pair.0, pair.1)
    ]

-- Reads at most `n` annotations up to the end of the text, after complete brackets with the annotations `pairs`.
unfoldable pub pairs_at : {E : Type 0} → (List Pair → Row → E) → ℕ → List Pair → Text → Read E (List Pair)
pairs_at fault zero pairs text = Ok (pairs, text)
pairs_at fault (suc n) pairs text =
    next_pair_at (fault pairs) text >>= λ next.
    elim next.0 [
      | None ↦ Ok (pairs, next.1)
      | Some pair ↦ pairs_at fault n (pairs ++ (pair ∷ [])) next.1
    ]

-- To unfold this unfolds the reading functions of annotations, except those with loops.
unfoldable pub pair_readings : ℕ
unfolding look_readings pair_at critical_pair_at later_pair_at next_pair_at
pair_readings = 0
