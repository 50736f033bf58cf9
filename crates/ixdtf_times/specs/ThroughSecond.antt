-- The beginning of a date-time of RFC 3339, up to the end of its second. These reading functions read it number by number, and return
-- the second.
use Rattle.std.specs.Prelude.{◌≡◌, ℕ, ℤ, pos, Some, Ok}
use Rattle.ixdtf_grammar.specs.{language.Letters.{Text, hyphen}, table.LineNames.{LineName.of_date_time, DateTimeLine.{four_digits, after_four_digits}}}
use Rattle.ixdtf_grammar.specs.table.DateTimeFronts.Field.{month_field, day_field, hour_field, minute_field, second_field}
use Rattle.ixdtf_reading.specs.reading.Looks.{Read, Placed, ◌>>=◌, error_of, as_number, digit_look, digits_by, look_for, next_by}
use Rattle.ixdtf_reading.specs.reading.Stops.{reason_of}
use Rattle.ixdtf_reading.specs.reading.DateTimes.{field_at, marked_field_at, is_month, is_day, at_most}

-- Reads the time after a date and `T`.
unfoldable pub time_through_second : Text → Read Placed ℕ
time_through_second text = do
  hour ← marked_field_at error_of hour_field (at_most 23) text
  minute ← marked_field_at error_of minute_field (at_most 59) hour.1
  field_at error_of second_field (at_most 60) minute.1

-- Reads the day after a month and its hyphen, `T`, and the time.
unfoldable pub day_through_second : ℤ → ℕ → Text → Read Placed ℕ
day_through_second year month text = do
  day ← marked_field_at error_of day_field (is_day year month) text
  time_through_second day.1

unfoldable pub date_time_through_second : Text → Read Placed ℕ
date_time_through_second text = do
  year ← as_number (digits_by (digit_look (reason_of (of_date_time four_digits))) 4 text)
  mark ← next_by (look_for hyphen (reason_of (of_date_time after_four_digits))) year.1
  month ← marked_field_at error_of month_field is_month mark.1
  day_through_second (pos year.0) month.0 month.1

-- The text does not begin with a date, `T` or `t`, and a time.
abbrev pub NoDateTime : Text → Type 0
NoDateTime text = (second : ℕ) (rest : Text) → date_time_through_second text ≡ Ok (second, rest) → ⊥

-- To unfold this unfolds the reading functions above.
unfoldable pub through_second_readings : ℕ
unfolding time_through_second day_through_second date_time_through_second
through_second_readings = 0
