-- The meaning of the types of the code for brackets.
use Rattle.ixdtf_brackets.specs.declared.brackets.Bracket.TheVariants as brackets
use Rattle.ixdtf_brackets.specs.declared.{brackets.Bracket.{Bracket as CodeBracket}, zone.{NameState.NameState, PassedName.PassedName}}
use Rattle.ixdtf_grammar.specs.{Views.{Unread, note_of}, Handlers.pair_of, language.{Letters.{Letter, Text, zone_char}, Brackets.skipped}}
use Rattle.ixdtf_reading.specs.reading.{Brackets.{Bracket, zoned, paired}, Looks.{Read, Placed}, Runs.{Taken, within}, Zones.name_step}
use Rattle.ixdtf_grammar.specs.declared.reason.Reason.{Reason}
use Rattle.ixdtf_brackets.specs.declared.exact_zones.PartForm.TheVariants as forms
use Rattle.ixdtf_brackets.specs.declared.exact_zones.PartForm.{PartForm as CodePartForm}
use Rattle.ixdtf_reading.specs.reading.ExactZones.{PartForm, PartForm.{part_start, one_dot, two_dots, in_part}}
use Rattle.std.specs.Prelude.{◌≡◌, ℕ, Bool, true, false, ◌+◌, List, ◌++◌, map, Option, Result, Ok, Err, option_map, if◌then◌else◌}

abbrev pub bracket_of : {T U : Type 0} → (U → ℕ) → CodeBracket T U → Bracket
bracket_of number (brackets.Zone annotation) = zoned (note_of number annotation)
bracket_of number (brackets.Pair annotation) = paired (pair_of number annotation)

-- The state of a part of a name after a code unit. `name_after` has the state of a name.
abbrev pub part_after : Unit {0} → ℕ → Option (Unit {0})
part_after = within zone_char

abbrev pub name_after : NameState → ℕ → Option NameState
name_after state c = option_map (λ may_end. record { may_end = may_end }) (name_step c state.may_end)

-- The `Reason` at a bad code unit after a state of a name.
abbrev pub stop_by : Reason → Reason → NameState → Reason
stop_by in_name after_slash state = if state.may_end then in_name else after_slash

-- The state of a first bracket after a code unit other than `=` and `]`.
abbrev pub bracket_after : Unit {0} → ℕ → Option (Unit {0})
bracket_after = within skipped

-- A function consumed the code units that the reading function consumes, and returned its state and what follows, or its error.
abbrev pub Passes : (ℕ → Letter) → Unread → Result PassedName Reason → Unread → (Text → Read Placed (Taken NameState)) → Type 0
Passes letter old (Ok passed) new reading = (letters : List ℕ) × (old.rest ≡ letters ++ new.rest)
    × (reading (map letter old.rest) ≡ Ok (record { letters = letters; state = passed.state; next = passed.next }, map letter new.rest))
Passes letter old (Err stop) new reading = reading (map letter old.rest) ≡ Err (stop, map letter new.rest)

-- What was read of a part of a name.
abbrev pub part_form_of : CodePartForm → PartForm
part_form_of forms.Start = part_start
part_form_of forms.OneDot = one_dot
part_form_of forms.TwoDots = two_dots
part_form_of forms.Whole = in_part

-- The number of additional accesses for a zone that must be exact.
abbrev pub exact_looks : Bool → ℕ → ℕ
exact_looks true count = count + 1
exact_looks false count = 0
