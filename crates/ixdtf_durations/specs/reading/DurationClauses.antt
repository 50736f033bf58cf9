-- The statements that the clauses of private functions for durations use, and the meaning of their types.
-- No public clause uses these statements.
use Rattle.ixdtf_grammar.specs.declared.reason.Reason.{Reason}
use Rattle.std.specs.Prelude.{◌≡◌, ◌≤◌, ℕ, IsFalse, IsTrue, List, [], ◌∷◌, map, Option, Some, None, Result, Ok, Err, nat_le, drop}
use Rattle.std.specs.Prelude.{false, slice_index_or, if◌then◌else◌, ◌-◌, length, OnOk, IfErr}
use Rattle.ixdtf_grammar.specs.declared.{profile.Profile.Profile, records.{Sign.Sign, DurationParseRecord.DurationParseRecord}}
use Rattle.ixdtf_grammar.specs.declared.records.{DateDurationRecord.DateDurationRecord, TimeDurationRecord.TimeDurationRecord}
use Rattle.ixdtf_grammar.specs.language.{Letters.{Letter, Text, digit, Letter.Plain}, Digits.decimal, Fractions.FractionParts, Durations.{Half, DurationUnit}}
use Rattle.ixdtf_grammar.specs.language.Durations.{Group, designator, unit_of, greatest, in_order, number_of, date_duration, time_duration_to}
use Rattle.ixdtf_grammar.specs.language.Durations.{Half.{date, time}, DurationUnit.{years, months, weeks, days, hours, minutes, seconds}}
use Rattle.ixdtf_grammar.specs.{table.{DurationFronts.{Context, half_of, Context.{in_dates, in_times}}, Faults.Fault}, Views.Unread}
use Rattle.ixdtf_grammar.specs.table.LineNames.DurationLine.{group_digits, group_value_range, unit_order, date_unit_range, group_fraction_digits}
use Rattle.ixdtf_reading.specs.{reading.{Looks.{Read, Placed, error_of}, Stops.duration_reason, Clauses.{Settles, StandsAt}}}
use Rattle.ixdtf_reading.specs.reading.Durations.{State, run, State.{between, in_number, ended}}
use Rattle.ixdtf_durations.specs.declared.{group_numbers.Number.Number, date_groups.Dates.Dates, time_groups.TimeGroup.TimeGroup}

-- Reads a duration from a state on. A fault is an error and the text at its position.
abbrev pub run_from : Profile → State → Text → Read Placed DurationParseRecord
run_from profile state text = run error_of profile state text

-- To read from a state on is to continue as `next` says with the value of the function, or to end at its `Reason`.
abbrev pub ReadsOn : {X : Type 0} → (ℕ → Letter) → Profile → State → Unread → Result X Reason → Unread → (X → Text → Read Placed DurationParseRecord) → Type 0
ReadsOn letter profile from old (Ok x) new next = run_from profile from (map letter old.rest) ≡ next x (map letter new.rest)
ReadsOn letter profile from old (Err e) new next = run_from profile from (map letter old.rest) ≡ Err (e, map letter new.rest)

-- The result of a function that read from a state on up to the end of the text, and then settled a cursor at `start`. `read` is
-- the value or the `Reason`, and `left` is the cursor after it.
pub record SettlesFrom {E : Type 0} (letter : ℕ → Letter) (profile : Profile) (from : State) (named : E → Fault) (stands : Reason → ℕ → E → Type 0)
    (start : List ℕ) (old : Unread) (result : Result DurationParseRecord E) (new : List ℕ) : Type 0 where
  pub read : Result DurationParseRecord Reason
  pub left : Unread
  pub reads : ReadsOn letter profile from old read left (λ duration text. Ok (duration, text))
  pub settled : Settles named false (map letter left.rest) read result
  pub place : StandsAt stands (length start - length left.rest) read result
  pub ended : OnOk result (new ≡ left.rest)

-- ---- numbers

-- In every context, the digits of this number were read after the first one, up to a code unit that is not a digit.
pub record IsNumber (letter : ℕ → Letter) (first : ℕ) (old : List ℕ) (number : Number) (new : List ℕ) : Type 0 where
  pub ds : Text
  pub value : number.value ≡ decimal ds
  pub next : map letter new ≡ Plain number.next ∷ drop 1 (map letter new)
  pub other : IsFalse (digit number.next)
  pub leads : (profile : Profile) (context : Context) →
      run_from profile (in_number context (Plain first ∷ [])) (map letter old) ≡ run_from profile (in_number context ds) (map letter new)

-- The result of reading a number after its first digit. It stops at `digits` if no code unit, or a bad one, follows the digits, and at
-- `past` if the number is too great.
abbrev pub ReadsNumber : (ℕ → Letter) → ℕ → Reason → Reason → Unread → Result Number Reason → Unread → Type 0
ReadsNumber letter first digits past old (Ok number) new = IsNumber letter first old.rest number new.rest
ReadsNumber letter first digits past old (Err e) new =
    (profile : Profile) (context : Context) → duration_reason (group_digits (half_of context)) ≡ digits → duration_reason (group_value_range (half_of context)) ≡ past
    → run_from profile (in_number context (Plain first ∷ [])) (map letter old.rest) ≡ Err (e, map letter new.rest)

-- ---- groups

-- The date group of a number and of the letter of its unit.
abbrev pub date_group_of : Number → Group
date_group_of n = record { unit = unit_of date n.next; value = n.value; fraction = None }

-- The time group of a number, its fraction, and the letter of its unit.
abbrev pub time_group_of : TimeGroup → Group
time_group_of g = record { unit = unit_of time g.letter; value = g.value; fraction = g.fraction }

-- The rank of a duration unit in its half (date or time). The longest unit has the least rank.
abbrev pub rank : DurationUnit → ℕ
rank years = 1
rank months = 2
rank weeks = 3
rank days = 4
rank hours = 1
rank minutes = 2
rank seconds = 3

-- The rank of the unit that the code unit names, or 0 if it names none.
abbrev pub rank_seen : Half → ℕ → ℕ
rank_seen half c = if designator half c then rank (unit_of half c) else 0

-- The text after the letter of a unit of the half. Any other code unit is not consumed.
abbrev pub behind_unit : Half → ℕ → Text → Text
behind_unit half c text = if designator half c then drop 1 text else text

-- The rank of a group, if it is at least `least` and the number is in the range of its unit. Otherwise the `Reason`.
abbrev pub date_rank_from : ℕ → Number → Result ℕ Reason
date_rank_from least n =
    let unit = unit_of date n.next in
    if designator date n.next then (if nat_le least (rank unit) then (if nat_le n.value (greatest unit) then Ok (rank unit) else Err (duration_reason date_unit_range))
    else Err (duration_reason (unit_order date))) else Err (duration_reason (group_digits date))

-- As above. `digits` is the `Reason` at a code unit that names no unit.
abbrev pub time_rank_from : Reason → ℕ → ℕ → Result ℕ Reason
time_rank_from digits least c =
    let unit = unit_of time c in
    if designator time c then (if nat_le least (rank unit) then Ok (rank unit) else Err (duration_reason (unit_order time))) else Err digits

-- Whether a group may follow these groups, with its unit and its number. If it may not, the result is the `Reason`.
abbrev pub date_group_fits : Profile → List Group → Group → Result (Unit {0}) Reason
date_group_fits profile dates g =
    if in_order profile dates g.unit then (if nat_le g.value (greatest g.unit) then Ok tt else Err (duration_reason date_unit_range))
    else Err (duration_reason (unit_order date))

abbrev pub time_group_fits : Profile → List Group → Group → Result (Unit {0}) Reason
time_group_fits profile times g = if in_order profile times g.unit then Ok tt else Err (duration_reason (unit_order time))

-- If the test succeeded, reads from a state on. Otherwise the result is the `Reason` of the test.
abbrev pub run_where : Profile → Result (Unit {0}) Reason → State → Text → Read Placed DurationParseRecord
run_where profile (Ok x) state text = run_from profile state text
run_where profile (Err e) state text = Err (e, text)

-- The state after a time group. After a group with a fraction, the text must end.
abbrev pub after_group : Option FractionParts → Sign → List Group → List Group → Group → State
after_group None s dates times g = between (in_times s dates (g ∷ times))
after_group (Some fraction) s dates times g = ended s dates times g

-- The `Reason` at a code unit after the digits of a time group, or after those of its fraction, that names no unit.
abbrev pub digits_stop : Option FractionParts → Reason
digits_stop None = duration_reason (group_digits time)
digits_stop (Some fraction) = duration_reason group_fraction_digits

-- Whether the code unit after a number makes it a group that may follow these groups. If not, the result is the `Reason`.
abbrev pub date_read : Profile → List Group → Number → Result (Unit {0}) Reason
date_read profile dates n = if designator date n.next then date_group_fits profile dates (date_group_of n) else Err (duration_reason (group_digits date))

abbrev pub time_read : Profile → List Group → TimeGroup → Result (Unit {0}) Reason
time_read profile times g = if designator time g.letter then time_group_fits profile times (time_group_of g) else Err (digits_stop g.fraction)

-- Reads on from the code unit after a number, if it names a time unit and the group may follow the groups before it.
abbrev pub after_time_group : Profile → Sign → List Group → List Group → TimeGroup → Text → Read Placed DurationParseRecord
after_time_group profile s dates times g text =
    run_where profile (time_read profile times g) (after_group g.fraction s dates times (time_group_of g)) (behind_unit time g.letter text)

-- The numbers of groups. The index of a number is the rank of its unit. Index 0 is not used.
abbrev pub date_numbers : List Group → List ℕ
date_numbers dates = 0 ∷ number_of years dates ∷ number_of months dates ∷ number_of weeks dates ∷ number_of days dates ∷ []

abbrev pub time_numbers : List Group → List ℕ
time_numbers times = 0 ∷ number_of hours times ∷ number_of minutes times ∷ number_of seconds times ∷ []

-- The numbers of years, months and weeks are less than 2^32.
abbrev pub HasSmallDates : List ℕ → Type 0
HasSmallDates values = (slice_index_or values 1 0 ≤ 4294967295) × (slice_index_or values 2 0 ≤ 4294967295) × (slice_index_or values 3 0 ≤ 4294967295)

-- The record has these numbers.
abbrev pub IsDateRecord : List ℕ → DateDurationRecord → Type 0
IsDateRecord values dates = (g : Group) (earlier : List Group) → values ≡ date_numbers (g ∷ earlier) → date_duration (g ∷ earlier) ≡ Some dates

-- The record has these numbers. The last time group has a unit of the rank `last`, and this fraction.
abbrev pub IsTimeRecord : List ℕ → ℕ → Option FractionParts → TimeDurationRecord → Type 0
IsTimeRecord values last fraction found =
    (c : ℕ) (times : List Group) → last ≡ rank (unit_of time c) → values ≡ time_numbers times
    → time_duration_to (unit_of time c) fraction times ≡ Some found

abbrev pub dated : Sign → Option DateDurationRecord → Option TimeDurationRecord → DurationParseRecord
dated s dates times = record { sign = s; date = dates; time = times }

-- The date groups that were read after their first digit, up to the end of the text or to a `T`, which is consumed.
pub record AreDates (profile : Profile) (letter : ℕ → Letter) (first : ℕ) (old : List ℕ) (dates : Dates) (new : List ℕ) : Type 0 where
  pub groups : List Group
  pub has : date_duration groups ≡ Some dates.record
  pub timed : IsTrue dates.timed → (s : Sign) →
      run_from profile (in_number (in_dates s []) (Plain first ∷ [])) (map letter old) ≡ run_from profile (between (in_times s groups [])) (map letter new)
  pub untimed : IsFalse dates.timed → (s : Sign) →
      run_from profile (in_number (in_dates s []) (Plain first ∷ [])) (map letter old) ≡ Ok (dated s (Some dates.record) None, map letter new)
