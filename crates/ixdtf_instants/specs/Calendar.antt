-- The proleptic Gregorian calendar, defined by counting days. Year 0 is the year before year 1, and year -1 is the year before year 0.
use Rattle.std.specs.Prelude.{ℕ, zero, suc, ◌+◌, ◌-◌, ◌%◌, ◌≤◌, Bool, not, ◌&&◌, ◌||◌, nat_eq, if◌then◌else◌, ℤ, pos, negsuc, neg_ℤ, ◌+ℤ◌, ◌-ℤ◌, nat_abs}

-- A leap year is divisible by 4 and not by 100, or it is divisible by 400.
abbrev pub is_leap : ℤ → Bool
is_leap year =
    (nat_eq (nat_abs year % 4) 0 && not (nat_eq (nat_abs year % 100) 0)) || nat_eq (nat_abs year % 400) 0

-- This is the number of days in a year.
abbrev pub year_length : ℤ → ℕ
year_length year = if is_leap year then 366 else 365

-- This is the number of days in a month. April, June, September and November have 30 days.
abbrev pub month_length : ℤ → ℕ → ℕ
month_length year month =
    if nat_eq month 2 then (if is_leap year then 29 else 28)
    else (if nat_eq month 4 || nat_eq month 6 || nat_eq month 9 || nat_eq month 11 then 30 else 31)

-- The calendar has this date.
abbrev pub IsCivilDate : ℤ → ℕ → ℕ → Type 0
IsCivilDate y m d = (1 ≤ m) × (m ≤ 12) × (1 ≤ d) × (d ≤ month_length y m)

-- The month is from 1 to 12.
abbrev pub IsMonth : ℕ → Type 0
IsMonth m = (1 ≤ m) × (m ≤ 12)

-- This is the number of days in the n years that begin with year 0: the years 0, 1, 2, and so on.
unfoldable pub days_of_years_on : ℕ → ℕ
days_of_years_on zero = 0
days_of_years_on (suc n) = days_of_years_on n + year_length (pos n)

-- This is the number of days in the n years that end with year -1: the years -1, -2, -3, and so on.
unfoldable pub days_of_years_back : ℕ → ℕ
days_of_years_back zero = 0
days_of_years_back (suc n) = days_of_years_back n + year_length (negsuc n)

-- This is the number of days from 1 January of year 0 to 1 January of a year. It is below zero for a year before year 0.
abbrev pub days_before_year : ℤ → ℤ
days_before_year (pos n) = pos (days_of_years_on n)
days_before_year (negsuc n) = neg_ℤ (pos (days_of_years_back (suc n)))

-- This is the number of days in the first n months of a year.
unfoldable pub days_of_months : ℤ → ℕ → ℕ
days_of_months y zero = 0
days_of_months y (suc n) = days_of_months y n + month_length y (suc n)

-- This is the count of a date. 1 January of year 0 has the count 1, and the count is the number of days in the years and the months
-- before the date, plus the day. If the month does not have the day, the days are counted on from the first day of the month.
unfoldable pub day_count : ℤ → ℕ → ℕ → ℤ
day_count y m d = days_before_year y +ℤ pos (days_of_months y (m - 1) + d)

-- This is the number of days from 1 January 1970 to a date. It is below zero for a date before 1970.
unfoldable pub day_number_of : ℤ → ℕ → ℕ → ℤ
day_number_of y m d = day_count y m d -ℤ day_count (pos 1970) 1 1
