-- Reading in fixed columns. The columns are read one after the other. If one does not fit, the result is `None`.
use Rattle.std.specs.Prelude.{ℕ, Bool, pos, [], ◌∷◌, ◌+◌, ◌*◌, drop, Option, Some, None, Result, Ok, Err, nat_le, ◌&&◌, if◌then◌else◌}
use Rattle.ixdtf_grammar.specs.declared.{profile.Profile.Profile, records.DateRecord.DateRecord}
use Rattle.ixdtf_grammar.specs.{declared.records.TimeRecord.TimeRecord, language.Letters.{Text, Class, digit, hyphen, colon, date_time_separator}}
use Rattle.ixdtf_grammar.specs.language.{Letters.Letter.{Plain, Bad}, Digits.{digit_value, decimal}, Dates.month_length}
use Rattle.ixdtf_grammar.specs.table.LineNames.{of_date, of_month_day, DateLine.month_range, MonthDayLine.month_day_month_digits}
use Rattle.ixdtf_grammar.specs.declared.reason.Reason.{Reason}
use Rattle.ixdtf_reading.specs.reading.{Looks.{Read, Placed, ◌>>=◌, error_of, two_digits_by}, Dates.{date_of, day_in_range}}
use Rattle.ixdtf_reading.specs.reading.{Months.{lone_month_in_range, lone_day_at}, Stops.reason_of, Times.time_of}

-- Continues with the value that was found. Without a value, the result is `None`.
infixl 10 ◌>>?◌
abbrev pub ◌>>?◌ : {A B : Type 0} → Option A → (A → Option B) → Option B
None >>? go = None
(Some x) >>? go = go x

-- The first code unit, if it is of the class.
abbrev pub first_in : Class → Text → Option ℕ
first_in class [] = None
first_in class (Bad ∷ rest) = None
first_in class (Plain c ∷ rest) = if class c then Some c else None

-- The code unit at index `place`, if it is of the class.
abbrev pub letter_place : Class → ℕ → Text → Option ℕ
letter_place class place text = first_in class (drop place text)

-- The first code unit, or 0 if there is none. `byte_place` is for the code unit at index `place`.
abbrev pub first_byte : Text → ℕ
first_byte [] = 0
first_byte (Bad ∷ rest) = 0
first_byte (Plain c ∷ rest) = c

abbrev pub byte_place : ℕ → Text → ℕ
byte_place place text = first_byte (drop place text)

-- The code unit that a look found, or 0 if it found none.
abbrev pub byte_of_look : {E : Type 0} → Result (Option ℕ) E → ℕ
byte_of_look (Ok None) = 0
byte_of_look (Ok (Some c)) = c
byte_of_look (Err e) = 0

-- The value of a digit as the first digit of two, or 100 for any other code unit. `ones_value` is for the second digit.
abbrev pub tens_value : ℕ → ℕ
tens_value c = if digit c then 10 * digit_value (Plain c) else 100

abbrev pub ones_value : ℕ → ℕ
ones_value c = if digit c then digit_value (Plain c) else 100

-- The number of the two digits at index `place` and at the next index.
unfoldable pub number_place : ℕ → Text → Option ℕ
number_place place text =
    letter_place digit place text >>? λ tens. letter_place digit (place + 1) text >>? λ ones. Some (decimal (Plain tens ∷ Plain ones ∷ []))

-- The number of the two digits at index `place` and at the next index, if it is at most `most`.
unfoldable pub number_up_to : ℕ → ℕ → Text → Option ℕ
number_up_to most place text = number_place place text >>? λ number. if nat_le number most then Some number else None

-- The year in the first four columns.
unfoldable pub year_place : Text → Option ℕ
year_place text = number_place 0 text >>? λ century. number_place 2 text >>? λ year. Some (100 * century + year)

-- The date of a year, with the month and the day in their columns after a hyphen. Their ranges are not tested.
unfoldable pub days_place : ℕ → Text → Option DateRecord
days_place year text =
    number_place 5 text >>? λ month. letter_place hyphen 7 text >>? λ _. number_place 8 text >>? λ day. Some (date_of (pos year) month day)

-- The date of a year, with the month and the day in their columns without hyphens. Their ranges are not tested.
unfoldable pub basic_days_place : ℕ → Text → Option DateRecord
basic_days_place year text = number_place 4 text >>? λ month. number_place 6 text >>? λ day. Some (date_of (pos year) month day)

-- The date in the first ten columns. The ranges of its month and its day are not tested.
unfoldable pub date_place : Text → Option DateRecord
date_place text = year_place text >>? λ year. letter_place hyphen 4 text >>? λ _. days_place year text

-- The date without hyphens in the first eight columns. The ranges of its month and its day are not tested.
unfoldable pub basic_date_place : Text → Option DateRecord
basic_date_place text = year_place text >>? λ year. basic_days_place year text

-- The time in the eight columns after a date and a separator, if its numbers are in their ranges.
unfoldable pub time_place : Text → Option TimeRecord
time_place text =
    number_up_to 23 11 text >>? λ hour. letter_place colon 13 text >>? λ _. number_up_to 59 14 text >>? λ minute.
    letter_place colon 16 text >>? λ _. number_up_to 60 17 text >>? λ second. Some (time_of hour minute second None)

-- The date and the text after it, if its month and its day are in their ranges. `after_month` is the text after the month.
abbrev pub ranged : DateRecord → Text → Text → Read Placed DateRecord
ranged date after_month rest =
    if nat_le 1 date.month && nat_le date.month 12 then day_in_range error_of date rest else Err (reason_of (of_date month_range), after_month)

-- Whether the month is 1 to 12, and has the day.
abbrev pub date_in_range : DateRecord → Bool
date_in_range date =
    nat_le 1 date.month && nat_le date.month 12 && nat_le 1 date.day && nat_le date.day (month_length date.year date.month)

-- The date and the time in the first nineteen columns, if their numbers are in their ranges.
unfoldable pub date_time_place : Text → Option (DateRecord × TimeRecord)
date_time_place text =
    date_place text >>? λ date. letter_place date_time_separator 10 text >>? λ _. time_place text >>? λ time.
    if date_in_range date then Some (date, time) else None

-- The hour of an offset in the first two columns after its sign, if it is in its range.
-- `minute_place` is for the minute after a colon.
unfoldable pub hour_place : Text → Option ℕ
hour_place text = number_up_to 23 0 text

unfoldable pub minute_place : Text → Option ℕ
minute_place text = letter_place colon 2 text >>? λ _. number_up_to 59 3 text

-- The first day of a month of the year. The month has its digits at index `place` and at the next index. Its range is not tested.
unfoldable pub month_of_year_place : ℕ → ℕ → Text → Option DateRecord
month_of_year_place year place text = number_place place text >>? λ month. Some (date_of (pos year) month 1)

-- The year-month and the text after it, if its month is 1 to 12.
abbrev pub ranged_month : DateRecord → Text → Read Placed DateRecord
ranged_month date rest = if nat_le 1 date.month && nat_le date.month 12 then Ok (date, rest) else Err (reason_of (of_date month_range), rest)

-- Whether the text begins with two hyphens.
abbrev pub marks_place : Text → Bool
marks_place text = hyphen (byte_place 0 text) && hyphen (byte_place 1 text)

-- Reads a month-day, without the two hyphens that can be before its month. It stops at `first` if the first digit is missing.
abbrev pub unmarked_at : Reason → Profile → Text → Read Placed DateRecord
unmarked_at first profile text = do
  ds ← two_digits_by first (reason_of (of_month_day month_day_month_digits)) text
  month ← lone_month_in_range error_of ds
  lone_day_at error_of profile month.0 month.1

-- To unfold this unfolds the reading functions of parts in fixed columns.
unfoldable pub fixed_readings : ℕ
unfolding number_place number_up_to year_place days_place basic_days_place date_place basic_date_place time_place date_time_place
    hour_place minute_place month_of_year_place
fixed_readings = 0
