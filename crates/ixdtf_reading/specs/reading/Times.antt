-- The reading functions of times, and of offsets after their sign.
use Rattle.std.specs.Prelude.{ℕ, Bool, true, false, ◌∷◌, Option, Some, None, Ok, Err, if◌then◌else◌}
use Rattle.ixdtf_grammar.specs.{declared.records.TimeRecord.TimeRecord, language.Letters.{Text, Class, ◌or◌, digit, colon, decimal_mark, Letter.Plain}}
use Rattle.ixdtf_grammar.specs.language.{Fractions.{FractionParts, fraction_of}, Times.{Clock, TimeShape, greatest_second}}
use Rattle.ixdtf_grammar.specs.language.Times.TimeShape.{hours, basic_minutes, colon_minutes, seconds, fractions}
use Rattle.ixdtf_grammar.specs.table.{Faults.Fault.{NonAsciiCodePoint, TimeHour, TimeMinuteSecond}, LineNames.{LineName, LineName.of_clock}}
use Rattle.ixdtf_grammar.specs.table.LineNames.ClockLine.{hour_start, hour_digit, hour_range, after_hour, minute_digits, minute_range, after_basic_minute}
use Rattle.ixdtf_grammar.specs.table.LineNames.ClockLine.{after_colon_minute, second_digits, second_range, after_second, fraction_start, after_fraction}
use Rattle.ixdtf_grammar.specs.table.{Lines.{seconds_after, mixed, second_fault}, Rows.{Row, Place.{other, bad, anywhere}}}
use Rattle.ixdtf_reading.specs.reading.Looks.{Read, ◌>>=◌, row_of, look_at_line, letter_at, digits_at, number_by, in_range, on_next, digit_run, look_readings}

-- A time that was read, and its shape. More parts of the time can follow.
abbrev pub OpenTime : Type 0
OpenTime = TimeShape × TimeRecord

abbrev pub time_of : ℕ → ℕ → ℕ → Option FractionParts → TimeRecord
time_of hour minute second fraction = record { hour = hour; minute = minute; second = second; fraction = fraction }

-- The table line after a time of this shape.
abbrev pub line_after : Clock → TimeShape → LineName
line_after clock hours = of_clock clock after_hour
line_after clock basic_minutes = of_clock clock after_basic_minute
line_after clock colon_minutes = of_clock clock after_colon_minute
line_after clock seconds = of_clock clock after_second
line_after clock fractions = of_clock clock after_fraction

-- The fault at `Bad` after a time of this shape.
abbrev pub bad_after : {E : Type 0} → (Row → E) → Clock → TimeShape → Text → E
bad_after fault clock shape text = fault (row_of (line_after clock shape) (bad text) NonAsciiCodePoint)

-- The table rows of an hour, a minute and a second that are too great. `left` is the text after the number.
abbrev pub hour_past : Clock → Text → Row
hour_past clock left = row_of (of_clock clock hour_range) (anywhere left) TimeHour

abbrev pub minute_past : Clock → Text → Row
minute_past clock left = row_of (of_clock clock minute_range) (anywhere left) TimeMinuteSecond

abbrev pub second_past : Clock → Text → Row
second_past clock left = row_of (of_clock clock second_range) (anywhere left) (second_fault clock)

-- Reads two digits, which the table line accepts. If their number is more than `greatest`, the fault is that of the row `past`.
abbrev pub number_at : {E : Type 0} → (Row → E) → LineName → ℕ → (Text → Row) → Text → Read E ℕ
number_at fault name greatest past text = number_by (look_at_line fault name) greatest (λ left. fault (past left)) text

-- Reads the digits of a fraction after its `.` or `,`.
unfoldable pub fraction_at : {E : Type 0} → (Row → E) → Clock → Text → Read E FractionParts
fraction_at fault clock text = do
  first ← letter_at fault (of_clock clock fraction_start) text
  more ← digit_run (bad_after fault clock fractions) first.1
  Ok (fraction_of (Plain first.0 ∷ more.0), more.1)

unfoldable pub after_second_at : {E : Type 0} → (Row → E) → Clock → ℕ → ℕ → ℕ → Text → Read E OpenTime
after_second_at fault clock hour minute second text = on_next (bad_after fault clock seconds) decimal_mark
    (λ c rest. fraction_at fault clock rest >>= λ fraction. Ok ((fractions, time_of hour minute second (Some fraction.0)), fraction.1))
    (λ rest. Ok ((seconds, time_of hour minute second None), rest)) text

unfoldable pub second_at : {E : Type 0} → (Row → E) → Clock → ℕ → ℕ → Text → Read E OpenTime
second_at fault clock hour minute text = do
  second ← number_at fault (of_clock clock second_digits) (greatest_second clock) (second_past clock) text
  after_second_at fault clock hour minute second.0 second.1

-- The shape of a time that ends with its minute. The argument says whether it has a colon.
abbrev pub minutes_shape : Bool → TimeShape
minutes_shape true = colon_minutes
minutes_shape false = basic_minutes

-- The class of code units with which a second begins after a minute: a colon if the time has colons, and otherwise a digit.
abbrev pub second_start : Bool → Class
second_start true = colon
second_start false = digit

-- The fault at a colon or a digit that cannot follow the time.
abbrev pub mixed_after : {E : Type 0} → (Row → E) → Clock → TimeShape → Text → E
mixed_after fault clock shape text = fault (row_of (line_after clock shape) (other text) (mixed clock))

-- Reads what follows a minute. A colon before a second is consumed, but not a digit, because it is a digit of the second.
unfoldable pub after_minute_at : {E : Type 0} → (Row → E) → Clock → Bool → ℕ → ℕ → Text → Read E OpenTime
after_minute_at fault clock colons hour minute text = on_next (bad_after fault clock (minutes_shape colons)) (seconds_after clock (second_start colons))
    (λ c rest. second_at fault clock hour minute (if colons then rest else text))
    (on_next (bad_after fault clock (minutes_shape colons)) (colon or digit)
    (λ c rest. Err (mixed_after fault clock (minutes_shape colons) text))
    (λ rest. Ok ((minutes_shape colons, time_of hour minute 0 None), rest))) text

unfoldable pub minute_at : {E : Type 0} → (Row → E) → Clock → Bool → ℕ → Text → Read E OpenTime
minute_at fault clock colons hour text = do
  minute ← number_at fault (of_clock clock minute_digits) 59 (minute_past clock) text
  after_minute_at fault clock colons hour minute.0 minute.1

unfoldable pub after_hour_at : {E : Type 0} → (Row → E) → Clock → ℕ → Text → Read E OpenTime
after_hour_at fault clock hour text = on_next (bad_after fault clock hours) colon
    (λ c rest. minute_at fault clock true hour rest)
    (on_next (bad_after fault clock hours) digit (λ c rest. minute_at fault clock false hour text) (λ rest. Ok ((hours, time_of hour 0 0 None), rest))) text

-- Reads the rest of a time after the first digit of its hour.
unfoldable pub hour_from : {E : Type 0} → (Row → E) → Clock → ℕ → Text → Read E OpenTime
hour_from fault clock tens text = do
  ones ← digits_at fault (of_clock clock hour_digit) 1 text
  hour ← in_range 23 (λ left. fault (hour_past clock left)) (Plain tens ∷ ones.0, ones.1)
  after_hour_at fault clock hour.0 hour.1

unfoldable pub clock_at : {E : Type 0} → (Row → E) → Clock → Text → Read E OpenTime
clock_at fault clock text = do
  tens ← letter_at fault (of_clock clock hour_start) text
  hour_from fault clock tens.0 tens.1

-- To unfold this unfolds the reading functions of times.
unfoldable pub time_readings : ℕ
unfolding look_readings fraction_at after_second_at second_at after_minute_at minute_at after_hour_at hour_from clock_at
time_readings = 0
