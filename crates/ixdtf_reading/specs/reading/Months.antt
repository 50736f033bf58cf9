-- The reading functions of year-months and of month-days.
use Rattle.std.specs.Prelude.{[], ℕ, Bool, true, false, ◌&&◌, Ok, Err, nat_le, if◌then◌else◌, pos}
use Rattle.ixdtf_grammar.specs.{declared.{profile.Profile.Profile, records.DateRecord.DateRecord}, language.{Letters.{Text, hyphen}, Digits.decimal}}
use Rattle.ixdtf_grammar.specs.{language.Months.{greatest_day, least_day}, table.Faults.Fault.{InvalidMonthRange, InvalidMonthDay}}
use Rattle.ixdtf_grammar.specs.table.LineNames.{of_year_month, of_month_day, YearMonthLine.after_year_in_year_month, MonthDayLine.month_day_start}
use Rattle.ixdtf_grammar.specs.table.LineNames.MonthDayLine.{month_day_hyphen, month_day_month_digits, month_day_month_range, after_month_day_month}
use Rattle.ixdtf_grammar.specs.table.{LineNames.MonthDayLine.{month_day_day_digits, month_day_range}, Rows.{Row, Place.anywhere}}
use Rattle.ixdtf_reading.specs.reading.{Looks.{Read, ◌>>=◌, row_of, error_of, digits_at, mark_at, look_readings}, Dates.{year_at, month_at, date_of}}

unfoldable pub year_month_at : {E : Type 0} → (Row → E) → Text → Read E DateRecord
year_month_at fault text = do
  year ← year_at fault text
  month ← month_at fault (of_year_month after_year_in_year_month) year.1
  Ok (date_of year.0 month.0.0 1, month.1)

-- ---- month-days

-- Reads two hyphens, or none.
unfoldable pub marks_at : {E : Type 0} → (Row → E) → Text → Read E Bool
marks_at fault text = do
  mark ← mark_at fault (of_month_day month_day_start) hyphen text
  if mark.0 then mark_at fault (of_month_day month_day_hyphen) hyphen mark.1 else Ok mark

-- The month of the two digits that were read, if it is 1 to 12.
unfoldable pub lone_month_in_range : {E : Type 0} → (Row → E) → Text × Text → Read E ℕ
lone_month_in_range fault ds =
    if nat_le 1 (decimal ds.0) && nat_le (decimal ds.0) 12 then Ok (decimal ds.0, ds.1)
    else Err (fault (row_of (of_month_day month_day_month_range) (anywhere ds.1) InvalidMonthRange))

-- The month-day, if the month has the day. Under the `Crate` profile, day 0 is in each month.
unfoldable pub lone_day_in_range : {E : Type 0} → (Row → E) → Profile → ℕ → ℕ → Text → Read E DateRecord
lone_day_in_range fault profile month day rest =
    if nat_le (least_day profile) day && nat_le day (greatest_day month) then Ok (date_of (pos 0) month day, rest)
    else Err (fault (row_of (of_month_day (month_day_range profile)) (anywhere rest) InvalidMonthDay))

-- Reads a day after a month.
unfoldable pub lone_day_at : {E : Type 0} → (Row → E) → Profile → ℕ → Text → Read E DateRecord
lone_day_at fault profile month text = do
  mark ← mark_at fault (of_month_day after_month_day_month) hyphen text
  ds ← digits_at fault (of_month_day month_day_day_digits) 2 mark.1
  lone_day_in_range fault profile month (decimal ds.0) ds.1

unfoldable pub month_day_at : {E : Type 0} → (Row → E) → Profile → Text → Read E DateRecord
month_day_at fault profile text = do
  marks ← marks_at fault text
  ds ← digits_at fault (of_month_day month_day_month_digits) 2 marks.1
  month ← lone_month_in_range fault ds
  lone_day_at fault profile month.0 month.1

-- ---- whether a text begins with one

abbrev pub is_read : {E A : Type 0} → Read E A → Bool
is_read (Ok x) = true
is_read (Err e) = false

-- The text after what was read. It is empty if the reading failed.
abbrev pub left_by : {E A : Type 0} → Read E A → Text
left_by (Ok x) = x.1
left_by (Err e) = []

-- Whether the text begins with a month-day.
abbrev pub month_day_begins : Profile → Text → Bool
month_day_begins profile text = is_read (month_day_at error_of profile text)

-- Whether the text begins with a year-month.
abbrev pub year_month_begins : Text → Bool
year_month_begins text = is_read (year_month_at error_of text)

-- To unfold this unfolds the reading functions of year-months and month-days, without those of dates.
unfoldable pub month_readings : ℕ
unfolding look_readings year_month_at marks_at lone_month_in_range lone_day_in_range lone_day_at month_day_at
month_readings = 0
