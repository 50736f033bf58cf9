-- The errors that no row of the fault table has: the errors that no reader returns, the errors of refused replies, and every error with a
-- message of more than 69 bytes. A row has the error `NonAsciiCodePoint` only at a bad code unit.
use Rattle.std.proofs.Common.{◌≡◌, ◌⊎◌, ℕ, ◌≤◌, length, nat_lt, arith, Bool, true, false, ◌||◌, cond, IsFalse, List, ◌∷◌, ◌++◌, refl, sym, ap, subst, ◌∙◌, ◌≢◌, inl, inr, append_assoc}
use Rattle.std.proofs.lemmas.Bool.{both_ways, or_parts, Decides.nat_tests}
use Rattle.ixdtf_grammar.specs.language.{Letters.{Text, hyphen, colon, decimal_mark, digit, closing, Letter.Bad}, Times.{Clock, Clock as clocks}, Durations.{Half, Half as halves}}
use Rattle.ixdtf_grammar.specs.{language.{Brackets.Pair, Readers.{Reader, has_brackets}}, table.Faults.{Fault, never_comes, is_refusal}}
use Rattle.ixdtf_grammar.specs.table.Faults.Fault.{NonAsciiCodePoint, UnrecognizedCritical, CriticalDuplicateCalendar, DateSeparator, DateDay, InvalidEnd}
use Rattle.ixdtf_grammar.specs.table.Faults.Fault.{FractionPart, OffsetNeedsSign}
use Rattle.ixdtf_grammar.specs.table.DateTimeFronts.{Field, Field.{month_field, day_field, hour_field, minute_field, second_field, offset_hour_field}}
use Rattle.ixdtf_grammar.specs.table.DateTimeFronts.Field.{offset_minute_field}
use Rattle.ixdtf_grammar.specs.table.LineNames.{DateTimeLine, DateTimeLine.{four_digits, after_four_digits, field_digits, field_range, after_field}}
use Rattle.ixdtf_grammar.specs.table.LineNames.DateTimeLine.{after_point, after_secfrac, after_utc}
use Rattle.ixdtf_grammar.specs.table.Lines.{digit_fault, range_fault, after_field_line, date_time_line}
use Rattle.ixdtf_grammar.specs.table.{Faults.Fault.IanaChar, LineNames.{LineName, of_date, of_year_month, of_month_day, of_time, DateLine.after_basic_month}}
use Rattle.ixdtf_grammar.specs.table.LineNames.{YearMonthLine.after_year_month, MonthDayLine.month_day_month_range, TimeLine.time_reads_as_year_month}
use Rattle.ixdtf_grammar.specs.table.LineNames.{OffsetLine.after_zulu, BracketLine.after_bracket, PairLine.key_start}
use Rattle.ixdtf_grammar.specs.table.LineNames.ClockLine.{after_hour, after_basic_minute, after_colon_minute, second_digits, second_range, after_second}
use Rattle.ixdtf_grammar.specs.table.LineNames.{ClockLine.after_fraction, ZoneLine.in_zone_name, DurationLine.{group_digits, unit_order}}
use Rattle.ixdtf_grammar.specs.table.LineNames.LineName.{of_clock, of_offset, of_date_time, of_zone, of_bracket, of_pair, of_duration}
use Rattle.ixdtf_grammar.specs.table.Lines.{Line, Ending, Follow, follow_of, mixed, second_fault, after_minute, zone_line, no_designator, order_fault, line_of}
use Rattle.ixdtf_grammar.specs.table.{Lines.{Line.{line, scanned, whole}, Ending.{ok, error}}, Rows.{Place, Stops, Place.{end, other, bad, anywhere}}}
use Rattle.ixdtf_grammar.specs.table.{ErrorTexts.message_of, Outcomes.HasFault}

-- This is the error at a bad code unit.
abbrev is_of_bad : Fault → Bool
is_of_bad NonAsciiCodePoint = true
is_of_bad fault = false

-- The message of the error is longer than 69 bytes, and so longer than that of every error in the table.
abbrev is_long : Fault → Bool
is_long fault = nat_lt 69 (length (message_of fault))

-- No line has the error: a row has it only at a bad code unit, or never.
abbrev no_row : Fault → Bool
no_row fault = ((never_comes fault || is_refusal fault) || is_of_bad fault) || is_long fault

-- The text can end here, or the error at its end is one that a row can have.
abbrev EndHas : Ending → Type 0
EndHas ok = IsFalse false
EndHas (error fault) = IsFalse (no_row fault)

-- Each error of the line is one that a row can have.
abbrev LineHas : Line → Type 0
LineHas (line front goes_on at_end at_other) = EndHas at_end × ((c : ℕ) → IsFalse (no_row (at_other c)))
LineHas (scanned front fault) = EndHas (error fault) × ((c : ℕ) → IsFalse (no_row fault))
LineHas (whole front fault) = EndHas (error fault) × ((c : ℕ) → IsFalse (no_row fault))

either_has : (b : Bool) (x y : Fault) → IsFalse (no_row x) → IsFalse (no_row y) → IsFalse (no_row (cond b x y))
either_has true x y p q = p
either_has false x y p q = q

-- Each error of `follow` is one that a row can have.
abbrev FollowHas : Follow → Type 0
FollowHas follow = EndHas follow.at_end × IsFalse (no_row follow.at_other)

follow_has : (brackets : Bool) (clock : Clock) → FollowHas (follow_of brackets clock)
follow_has true clocks.MinuteOffset = (refl, refl)
follow_has brackets clock = (refl, refl)

clock_has : (clock : Clock) → IsFalse (no_row (mixed clock)) × IsFalse (no_row (second_fault clock))
clock_has clocks.Time = (refl, refl)
clock_has clocks.Offset = (refl, refl)
clock_has clocks.MinuteOffset = (refl, refl)

zone_has : (brackets : Bool) → LineHas (zone_line brackets in_zone_name)
zone_has true = (refl, λ c. refl)
zone_has false = (refl, λ c. either_has (closing c) InvalidEnd IanaChar refl refl)

half_has : (half : Half) → IsFalse (no_row (no_designator half)) × IsFalse (no_row (order_fault half))
half_has halves.date = (refl, refl)
half_has halves.time = (refl, refl)

minute_has : (brackets : Bool) (clock : Clock) → EndHas (follow_of brackets clock).at_end
    × ((c : ℕ) → IsFalse (no_row (after_minute (follow_of brackets clock) clock c)))
minute_has brackets clock =
    let f = follow_has brackets clock in (f.0, λ c. either_has (colon c || digit c) (mixed clock) (follow_of brackets clock).at_other (clock_has clock).0 f.1)

-- The errors of each number of a date-time are errors that a row can have.
field_has : (field : Field) → IsFalse (no_row (digit_fault field)) × IsFalse (no_row (range_fault field))
field_has month_field = (refl, refl)
field_has day_field = (refl, refl)
field_has hour_field = (refl, refl)
field_has minute_field = (refl, refl)
field_has second_field = (refl, refl)
field_has offset_hour_field = (refl, refl)
field_has offset_minute_field = (refl, refl)

after_field_has : (brackets : Bool) (field : Field) → LineHas (after_field_line brackets field)
after_field_has brackets month_field = (refl, λ c. refl)
after_field_has brackets day_field = (refl, λ c. refl)
after_field_has brackets hour_field = (refl, λ c. refl)
after_field_has brackets minute_field = (refl, λ c. refl)
after_field_has brackets second_field = (refl, λ c. either_has (decimal_mark c) FractionPart OffsetNeedsSign refl refl)
after_field_has brackets offset_hour_field = (refl, λ c. refl)
after_field_has brackets offset_minute_field = (refl, λ c. refl)

date_time_has : (brackets : Bool) (name : DateTimeLine) → LineHas (date_time_line brackets name)
date_time_has brackets (field_digits field) = let has = (field_has field).0 in (refl, λ c. has)
date_time_has brackets (field_range field) = let has = (field_has field).1 in (has, λ c. has)
date_time_has brackets (after_field field) = after_field_has brackets field
date_time_has brackets four_digits = (refl, λ c. refl)
date_time_has brackets after_four_digits = (refl, λ c. refl)
date_time_has brackets after_point = (refl, λ c. refl)
date_time_has brackets after_secfrac = (refl, λ c. refl)
date_time_has brackets after_utc = (refl, λ c. refl)

-- One line of each group has a case of its own, so that the last case can tell the other lines apart.
line_has : (brackets : Bool) (name : LineName) → LineHas (line_of brackets name)
line_has brackets (of_date after_basic_month) = (refl, λ c. either_has (hyphen c) DateSeparator DateDay refl refl)
line_has brackets (of_clock clock after_hour) = let f = follow_has brackets clock in (f.0, λ c. f.1)
line_has brackets (of_clock clock after_basic_minute) = minute_has brackets clock
line_has brackets (of_clock clock after_colon_minute) = minute_has brackets clock
line_has brackets (of_clock clock second_digits) = (refl, λ c. (clock_has clock).1)
line_has brackets (of_clock clock second_range) = let has = (clock_has clock).1 in (has, λ c. has)
line_has brackets (of_clock clock after_second) = let f = follow_has brackets clock in (f.0, λ c. f.1)
line_has brackets (of_clock clock after_fraction) = let f = follow_has brackets clock in (f.0, λ c. f.1)
line_has brackets (of_date_time name) = date_time_has brackets name
line_has brackets (of_zone in_zone_name) = zone_has brackets
line_has brackets (of_duration profile (group_digits half)) = let has = (half_has half).0 in (has, λ c. has)
line_has brackets (of_duration profile (unit_order half)) = let has = (half_has half).1 in (has, λ c. has)
line_has brackets (of_year_month after_year_month) = (refl, λ c. refl)
line_has brackets (of_month_day month_day_month_range) = (refl, λ c. refl)
line_has brackets (of_time time_reads_as_year_month) = (refl, λ c. refl)
line_has brackets (of_offset after_zulu) = (refl, λ c. refl)
line_has brackets (of_bracket after_bracket) = (refl, λ c. refl)
line_has brackets (of_pair key_start) = (refl, λ c. refl)
line_has brackets name = (refl, λ c. refl)

end_has : (at_end : Ending) (fault : Fault) → EndHas at_end → at_end ≡ error fault → IsFalse (no_row fault)
end_has at_end fault has is = subst EndHas is has

-- The text begins with a bad code unit, and the error is `NonAsciiCodePoint`.
abbrev pub BeginsBad : Fault → Text → Type 0
BeginsBad fault text = (more : Text) × (text ≡ Bad ∷ more) × (fault ≡ NonAsciiCodePoint)

stop_has : (l : Line) (place : Place) (fault : Fault) (rest : Text) → LineHas l → Stops l place fault rest → BeginsBad fault rest ⊎ IsFalse (no_row fault)
stop_has (line front goes_on at_end at_other) (end left) fault rest has h = inr (end_has at_end fault has.0 h.1)
stop_has (line front goes_on at_end at_other) (other left) fault rest has h = inr (ap no_row h.4 ∙ has.1 h.0)
stop_has (line front goes_on at_end at_other) (bad left) fault rest has h = inl (h.0, h.1, h.2)
stop_has (scanned front e) (end left) fault rest has h = inr (ap no_row h.1 ∙ has.0)
stop_has (scanned front e) (bad left) fault rest has h = inl (h.0, h.1, h.2)
stop_has (whole front e) (anywhere left) fault rest has h = inr (ap no_row h.0 ∙ has.0)
stop_has l place fault rest has h = absurd h

-- The text has a bad code unit.
abbrev pub HasBad : Text → Type 0
HasBad text = (front more : Text) × (text ≡ front ++ (Bad ∷ more))

row_has : (reader : Reader) (text : Text) (pairs : List Pair) (fault : Fault) → HasFault reader text pairs fault
    → (HasBad text × (fault ≡ NonAsciiCodePoint)) ⊎ IsFalse (no_row fault)
row_has reader text pairs fault (row, (before, rest, is, stands, (front, stop, splits, shape, at)), has) =
    elim (stop_has _ row.place row.error stop (line_has (has_brackets reader) row.name) at) [
      | inl p ↦ inl (
        (
          before ++ front,
          p.0,
          is ∙ ap (λ t. before ++ t) (splits ∙ ap (λ t. front ++ t) p.1) ∙ sym (append_assoc before front (Bad ∷ p.0)),
        ),
        sym has ∙ p.2,
      )
      | inr never ↦ inr (ap no_row (sym has) ∙ never)
    ]

-- An error that a text has is one that a reader can return.
pub fault_comes : (reader : Reader) (text : Text) (pairs : List Pair) (fault : Fault) → HasFault reader text pairs fault → IsFalse (never_comes fault)
fault_comes reader text pairs fault h = elim (row_has reader text pairs fault h) [
  | inl p ↦ ap never_comes p.1
  | inr never ↦ (or_parts _ _ (or_parts _ _ (or_parts _ _ never).0).0).0
]

-- An error that a text has is not an error of a refused reply.
pub fault_refuses_none : (reader : Reader) (text : Text) (pairs : List Pair) (fault : Fault) → HasFault reader text pairs fault → IsFalse (is_refusal fault)
fault_refuses_none reader text pairs fault h = elim (row_has reader text pairs fault h) [
  | inl p ↦ ap is_refusal p.1
  | inr never ↦ (or_parts _ _ (or_parts _ _ (or_parts _ _ never).0).0).1
]

-- The message of an error that a text has is at most 69 bytes long.
pub fault_short : (reader : Reader) (text : Text) (pairs : List Pair) (fault : Fault) → HasFault reader text pairs fault → length (message_of fault) ≤ 69
fault_short reader text pairs fault h = elim (row_has reader text pairs fault h) [
  | inl p ↦ rw p.1 (omega arith)
  | inr never ↦ (let short : IsFalse (is_long fault) = (or_parts _ _ never).1 in grind (arith, nat_tests, short))
]

-- Only a text with a bad code unit has the error `NonAsciiCodePoint`.
pub fault_of_bad : (reader : Reader) (text : Text) (pairs : List Pair) → HasFault reader text pairs NonAsciiCodePoint → HasBad text
fault_of_bad reader text pairs h = elim (row_has reader text pairs NonAsciiCodePoint h) [
  | inl p ↦ p.0
  | inr never ↦ absurd cc
]

pub row_is_no_refusal : (reader : Reader) (text : Text) (pairs : List Pair) (fault : Fault) → HasFault reader text pairs fault
    → (fault ≢ UnrecognizedCritical) × (fault ≢ CriticalDuplicateCalendar)
row_is_no_refusal reader text pairs fault h =
    let never : ¬ (is_refusal fault ≡ true) = both_ways _ (fault_refuses_none reader text pairs fault h) in
    (λ is. never (ap is_refusal is), λ is. never (ap is_refusal is))
