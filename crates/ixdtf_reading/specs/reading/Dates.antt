-- The reading functions of dates.
use Rattle.std.specs.Prelude.{ℕ, Bool, true, false, ◌∷◌, Ok, Err, ℤ, pos, nat_eq, nat_le, ◌&&◌, if◌then◌else◌}
use Rattle.ixdtf_grammar.specs.{declared.records.DateRecord.DateRecord, language.{Letters.{Text, sign, hyphen, Letter.Plain}, Digits.decimal}}
use Rattle.ixdtf_grammar.specs.{language.Dates.{signed, month_length}, table.Faults.Fault.{DateExtendedYear, InvalidMonthRange, InvalidDayRange}}
use Rattle.ixdtf_grammar.specs.table.LineNames.{LineName, of_date, DateLine.{year_start, year_digits, extended_year_digits, minus_zero_year, after_year}}
use Rattle.ixdtf_grammar.specs.table.LineNames.DateLine.{month_digits, month_range, after_hyphened_month, after_basic_month, day_digits, day_range}
use Rattle.ixdtf_grammar.specs.table.Rows.{Row, Place.anywhere}
use Rattle.ixdtf_reading.specs.reading.Looks.{Read, Look, ◌>>=◌, row_of, look_at_line, letter_at, digits_at, mark_by, mark_at, look_readings}

-- Reads a year after its sign.
unfoldable pub extended_year_at : {E : Type 0} → (Row → E) → ℕ → Text → Read E ℤ
extended_year_at fault c text = do
  ds ← digits_at fault (of_date extended_year_digits) 6 text
  if hyphen c && nat_eq (decimal ds.0) 0 then Err (fault (row_of (of_date minus_zero_year) (anywhere ds.1) DateExtendedYear))
      else Ok (signed c (decimal ds.0), ds.1)

-- Reads a year of four digits after its first digit.
unfoldable pub four_digit_year_at : {E : Type 0} → (Row → E) → ℕ → Text → Read E ℤ
four_digit_year_at fault c text = do
  ds ← digits_at fault (of_date year_digits) 3 text
  Ok (pos (decimal (Plain c ∷ ds.0)), ds.1)

unfoldable pub year_at : {E : Type 0} → (Row → E) → Text → Read E ℤ
year_at fault text = do
  first ← letter_at fault (of_date year_start) text
  if sign first.0 then extended_year_at fault first.0 first.1 else four_digit_year_at fault first.0 first.1

-- The month of the two digits that were read, if it is 1 to 12.
unfoldable pub month_in_range : {E : Type 0} → (Row → E) → Text × Text → Read E ℕ
month_in_range fault ds =
    if nat_le 1 (decimal ds.0) && nat_le (decimal ds.0) 12 then Ok (decimal ds.0, ds.1)
    else Err (fault (row_of (of_date month_range) (anywhere ds.1) InvalidMonthRange))

-- The date, if its month has the day.
unfoldable pub day_in_range : {E : Type 0} → (Row → E) → DateRecord → Text → Read E DateRecord
day_in_range fault date rest =
    if nat_le 1 date.day && nat_le date.day (month_length date.year date.month) then Ok (date, rest)
    else Err (fault (row_of (of_date day_range) (anywhere rest) InvalidDayRange))

abbrev pub date_of : ℤ → ℕ → ℕ → DateRecord
date_of year month day = record { year = year; month = month; day = day }

-- Reads the month after a year. Also returns whether a hyphen is before it. `l` is the look at the code unit after the year.
unfoldable pub month_by : {E : Type 0} → (Row → E) → Look E → Text → Read E (ℕ × Bool)
month_by fault l text = do
  mark ← mark_by l hyphen text
  ds ← digits_at fault (of_date month_digits) 2 mark.1
  month ← month_in_range fault ds
  Ok ((month.0, mark.0), month.1)

-- As above. The look is that of the table line `name`.
abbrev pub month_at : {E : Type 0} → (Row → E) → LineName → Text → Read E (ℕ × Bool)
month_at fault name text = month_by fault (look_at_line fault name) text

-- The table line after a month. It depends on whether a hyphen is before the month.
abbrev pub line_after_month : Bool → LineName
line_after_month true = of_date after_hyphened_month
line_after_month false = of_date after_basic_month

-- Reads a day after a year and a month. `month.1` says whether a hyphen is before the month.
unfoldable pub day_at : {E : Type 0} → (Row → E) → ℤ → ℕ × Bool → Text → Read E DateRecord
day_at fault year month text = do
  mark ← mark_at fault (line_after_month month.1) hyphen text
  ds ← digits_at fault (of_date day_digits) 2 mark.1
  day_in_range fault (date_of year month.0 (decimal ds.0)) ds.1

-- Reads a month and a day after a year.
abbrev pub days_at : {E : Type 0} → (Row → E) → ℤ → Text → Read E DateRecord
days_at fault year text = month_at fault (of_date after_year) text >>= λ month. day_at fault year month.0 month.1

unfoldable pub date_at : {E : Type 0} → (Row → E) → Text → Read E DateRecord
date_at fault text = do
  year ← year_at fault text
  month ← month_at fault (of_date after_year) year.1
  day_at fault year.0 month.0 month.1

-- To unfold this unfolds the reading functions of dates.
unfoldable pub date_readings : ℕ
unfolding look_readings extended_year_at four_digit_year_at year_at month_in_range month_by day_in_range day_at date_at
date_readings = 0
