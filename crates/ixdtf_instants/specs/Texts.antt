-- The text of an instant: a date-time in UTC (RFC 3339 section 5.6), as the numbers of its ASCII characters. A year outside 0 to 9999 is
-- written with a sign and more digits than RFC 3339 allows.
use Rattle.std.specs.Prelude.{ℕ, zero, suc, ◌+◌, ◌/◌, ◌%◌, ◌^◌, nat_eq, nat_le, if◌then◌else◌, nat_abs, List, [], ◌∷◌, ◌++◌, ℤ, pos, negsuc}
use Rattle.std.specs.Int.{int_div_euclid, int_rem_euclid}
use Rattle.ixdtf_instants.specs.{declared.instant.Instant.{Instant}, CivilDates.{Civil, date_on}, Counts.count_of}

-- These are the last `count` digits of a number, with leading zeros.
unfoldable pub digits_in : ℕ → ℕ → List ℕ
digits_in zero number = []
digits_in (suc count) number = (48 + number / 10 ^ count % 10) ∷ digits_in count number

-- These are the last `count` digits of a number, with leading zeros, but without the zeros at the end.
unfoldable pub trimmed_digits : ℕ → ℕ → List ℕ
trimmed_digits zero number = []
trimmed_digits (suc count) number = if nat_eq (number % 10) 0 then trimmed_digits count (number / 10) else digits_in (suc count) number

-- The year is written with six digits if they are enough, and otherwise with twelve digits.
unfoldable pub long_year : ℕ → List ℕ
long_year year = if nat_le year 999_999 then digits_in 6 year else digits_in 12 year

-- A year from 0 to 9999 is written with four digits. Every other year is written with a sign, and with six or twelve digits.
unfoldable pub year_digits : ℤ → List ℕ
year_digits (pos n) = if nat_le n 9999 then digits_in 4 n else (43 ∷ long_year n)
year_digits (negsuc n) = 45 ∷ long_year (suc n)

-- A date is written as `Year-Month-Day`.
unfoldable pub date_digits : Civil → List ℕ
date_digits date = year_digits date.year ++ (45 ∷ (digits_in 2 date.month ++ (45 ∷ digits_in 2 date.day)))

-- The time that is the number of seconds after midnight is written as `Hour:Min:Sec`.
unfoldable pub clock_digits : ℕ → List ℕ
clock_digits seconds = digits_in 2 (seconds / 3600) ++ (58 ∷ (digits_in 2 (seconds / 60 % 60) ++ (58 ∷ digits_in 2 (seconds % 60))))

-- The fraction is written as `.` and the nine digits of the nanoseconds, without the zeros at the end. It is empty for 0 nanoseconds.
unfoldable pub fraction_digits : ℕ → List ℕ
fraction_digits nanoseconds = if nat_eq nanoseconds 0 then [] else (46 ∷ trimmed_digits 9 nanoseconds)

-- This is the number of complete seconds in the nanoseconds, rounded down.
abbrev pub seconds_of : ℤ → ℤ
seconds_of count = int_div_euclid count (pos (10 ^ 9))

-- This is the number of complete days in the seconds, rounded down.
abbrev pub days_of : ℤ → ℤ
days_of seconds = int_div_euclid seconds (pos 86_400)

-- For a number of nanoseconds since 1970-01-01T00:00:00Z, the text is the date, `T`, the time, the fraction and `Z`.
unfoldable pub text_of_count : ℤ → List ℕ
text_of_count count =
    date_digits (date_on (days_of (seconds_of count)))
    ++ (84 ∷ (clock_digits (nat_abs (int_rem_euclid (seconds_of count) (pos 86_400)))
    ++ (fraction_digits (nat_abs (int_rem_euclid count (pos (10 ^ 9)))) ++ (90 ∷ []))))

-- This is the text of an instant. If the nanoseconds are 1,000,000,000 or more, they are carried over to the seconds.
abbrev pub instant_text : Instant → List ℕ
instant_text instant = text_of_count (count_of instant)
