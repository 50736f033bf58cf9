-- The reading functions of durations: a state machine that reads code unit by code unit.
use Rattle.std.specs.Prelude.{ℕ, List, [], ◌∷◌, ◌++◌, Option, Result, Ok, Err, Some, None, nat_le, if◌then◌else◌}
use Rattle.ixdtf_grammar.specs.declared.{profile.Profile.Profile, records.{Sign.{Sign, TheVariants.Positive}, DurationParseRecord.DurationParseRecord}}
use Rattle.ixdtf_grammar.specs.language.{Letters.{Text, digit, sign, Letter.{Plain, Bad}}, Digits.decimal, Fractions.fraction_of, Offsets.sign_of}
use Rattle.ixdtf_grammar.specs.language.Durations.{Half, Group, unit_of, designator, in_order, greatest, greatest_value, duration_of, Half.time}
use Rattle.ixdtf_grammar.specs.table.{Faults.Fault.DurationValueExceededRange, LineNames.{DurationLine, DurationLine.{duration_start, after_duration_sign}}}
use Rattle.ixdtf_grammar.specs.table.LineNames.DurationLine.{after_duration_designator, after_date_groups, after_time_designator, group_digits}
use Rattle.ixdtf_grammar.specs.table.LineNames.DurationLine.{group_value_range, unit_order, date_unit_range, group_fraction_start, group_fraction_digits}
use Rattle.ixdtf_grammar.specs.table.LineNames.{DurationLine.{after_time_groups, after_fraction_group}, LineName.of_duration}
use Rattle.ixdtf_grammar.specs.table.{DurationFronts.{Context, half_of, groups_of, Context.{in_dates, in_times}}, Lines.order_fault, Rows.Row}
use Rattle.ixdtf_grammar.specs.table.Rows.Place.{anywhere}
use Rattle.ixdtf_reading.specs.reading.Looks.{Read, Look, ◌>>=◌, row_of, look_at_line}

-- What was read last: nothing, a sign, something after which a group can begin, digits of a group, a number and its decimal mark,
-- digits of a fraction, or a group with a fraction.
pub data State : Type 0 where
  started : State
  signed : Sign → State
  between : Context → State
  in_number : Context → Text → State
  at_mark : Sign → List Group → List Group → Text → State
  in_fraction : Sign → List Group → List Group → Text → Text → State
  ended : Sign → List Group → List Group → Group → State

-- The table line of the next code unit in each state.
abbrev pub line_of_state : State → DurationLine
line_of_state started = duration_start
line_of_state (signed s) = after_duration_sign
line_of_state (between (in_dates s [])) = after_duration_designator
line_of_state (between (in_dates s (g ∷ earlier))) = after_date_groups
line_of_state (between (in_times s dates [])) = after_time_designator
line_of_state (between (in_times s dates (g ∷ earlier))) = after_time_groups
line_of_state (in_number context ds) = group_digits (half_of context)
line_of_state (at_mark s dates times ds) = group_fraction_start
line_of_state (in_fraction s dates times ds fs) = group_fraction_digits
line_of_state (ended s dates times g) = after_fraction_group

-- ---- groups

-- Adds a group.
abbrev pub add : Context → Group → Context
add (in_dates s dates) g = in_dates s (g ∷ dates)
add (in_times s dates times) g = in_times s dates (g ∷ times)

abbrev pub integer_group : Half → Text → ℕ → Group
integer_group half ds c = record { unit = unit_of half c; value = decimal ds; fraction = None }

abbrev pub fraction_group : Text → Text → ℕ → Group
fraction_group ds fs c = record { unit = unit_of time c; value = decimal ds; fraction = Some (fraction_of fs) }

-- The table row of a number of 2^64 or more. The next two are for a number that is too great for its unit, and for a wrong order.
abbrev pub value_past : Profile → Half → Text → Row
value_past profile half left = row_of (of_duration profile (group_value_range half)) (anywhere left) DurationValueExceededRange

abbrev pub unit_past : Profile → Text → Row
unit_past profile left = row_of (of_duration profile date_unit_range) (anywhere left) DurationValueExceededRange

abbrev pub out_of_order : Profile → Half → Text → Row
out_of_order profile half left = row_of (of_duration profile (unit_order half)) (anywhere left) (order_fault half)

module _ {E : Type 0} (fault : Row → E) (profile : Profile) (left : Text) where
  -- The state after these digits of a group, if their number is less than 2^64.
  abbrev pub grow : Context → Text → Result State E
  grow context ds = if nat_le (decimal ds) greatest_value then Ok (in_number context ds) else Err (fault (value_past profile (half_of context) left))

  -- The state after a date group, if its number is in the range of its unit.
  abbrev pub add_in_range : Context → Group → Result State E
  add_in_range context g = if nat_le g.value (greatest g.unit) then Ok (between (add context g)) else Err (fault (unit_past profile left))

  -- The result is `next` if the group may follow the groups before it. Otherwise it is the fault of the wrong order.
  abbrev pub in_its_order : Context → Group → Result State E → Result State E
  in_its_order context g next = if in_order profile (groups_of context) g.unit then next else Err (fault (out_of_order profile (half_of context) left))

  -- The state after a group without a fraction.
  abbrev pub add_group : Context → Group → Result State E
  add_group context g = in_its_order context g (add_in_range context g)

  -- The state after a group with a fraction.
  abbrev pub end_group : Sign → List Group → List Group → Group → Result State E
  end_group s dates times g = in_its_order (in_times s dates times) g (Ok (ended s dates times g))

-- The state after the `T` before the time groups.
abbrev pub to_times : Context → State
to_times (in_dates s dates) = between (in_times s dates [])
to_times (in_times s dates times) = started

-- The state after the decimal mark of a group.
abbrev pub to_fraction : Context → Text → State
to_fraction (in_dates s dates) ds = started
to_fraction (in_times s dates times) ds = at_mark s dates times ds

-- The state after a code unit that the table line of the state accepts, or the fault of a whole line.
-- `left` is the text after this code unit.
unfoldable pub step : {E : Type 0} → (Row → E) → Profile → Text → State → ℕ → Result State E
step fault profile left started c = if sign c then Ok (signed (sign_of c)) else Ok (between (in_dates Positive []))
step fault profile left (signed s) c = Ok (between (in_dates s []))
step fault profile left (between context) c = if digit c then grow fault profile left context (Plain c ∷ []) else Ok (to_times context)
step fault profile left (in_number context ds) c =
    if digit c then grow fault profile left context (ds ++ (Plain c ∷ []))
    else (if designator (half_of context) c then add_group fault profile left context (integer_group (half_of context) ds c)
    else Ok (to_fraction context ds))
step fault profile left (at_mark s dates times ds) c = Ok (in_fraction s dates times ds (Plain c ∷ []))
step fault profile left (in_fraction s dates times ds fs) c =
    if digit c then Ok (in_fraction s dates times ds (fs ++ (Plain c ∷ []))) else end_group fault profile left s dates times (fraction_group ds fs c)
step fault profile left (ended s dates times g) c = Ok (ended s dates times g)

-- The record of what was read, if the text ends here.
abbrev pub finished : State → DurationParseRecord
finished (between (in_dates s dates)) = duration_of s dates []
finished (between (in_times s dates times)) = duration_of s dates times
finished (ended s dates times g) = duration_of s dates (g ∷ times)
finished started = duration_of Positive [] []
finished (signed s) = duration_of s [] []
finished (in_number context ds) = duration_of Positive [] []
finished (at_mark s dates times ds) = duration_of s dates times
finished (in_fraction s dates times ds fs) = duration_of s dates times

-- ---- texts

-- The look of the table line of a state.
abbrev pub state_look : {E : Type 0} → (Row → E) → Profile → State → Look E
state_look fault profile s = look_at_line fault (of_duration profile (line_of_state s))

-- The result at the end of the text: the fault, if there is one, and otherwise the value.
abbrev pub at_end : {E A : Type 0} → Option E → A → Read E A
at_end None x = Ok (x, [])
at_end (Some e) x = Err e

-- Reads the text from a state on, up to its end.
unfoldable pub run : {E : Type 0} → (Row → E) → Profile → State → Text → Read E DurationParseRecord
run fault profile s [] = at_end ((state_look fault profile s).at_end []) (finished s)
run fault profile s (Bad ∷ rest) = Err ((state_look fault profile s).at_bad (Bad ∷ rest))
run fault profile s (Plain c ∷ rest) =
    if (state_look fault profile s).goes_on c then (step fault profile rest s c >>= λ next. run fault profile next rest) else Err
    ((state_look fault profile s).at_other c (Plain c ∷ rest))

-- Reads a duration and the end of the text.
abbrev pub duration_at : {E : Type 0} → (Row → E) → Profile → Text → Read E DurationParseRecord
duration_at fault profile text = run fault profile started text
