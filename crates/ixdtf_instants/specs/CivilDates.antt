-- The dates of the calendar, defined by going from day to day.
use Rattle.std.specs.Prelude.{ℕ, zero, suc, ◌+◌, ◌-◌, nat_lt, if◌then◌else◌, ℤ, pos, negsuc, ◌+ℤ◌, ◌-ℤ◌}
use Rattle.ixdtf_instants.specs.Calendar.{month_length}

pub record Civil : Type 0 where
  pub year : ℤ
  pub month : ℕ
  pub day : ℕ

-- This is the date of the next day.
abbrev pub next_day : Civil → Civil
next_day date =
    if nat_lt date.day (month_length date.year date.month) then record date { day = date.day + 1 }
    else (if nat_lt date.month 12 then record date { month = date.month + 1; day = 1 }
    else record { year = date.year +ℤ pos 1; month = 1; day = 1 })

-- This is the date of the day before.
abbrev pub previous_day : Civil → Civil
previous_day date =
    if nat_lt 1 date.day then record date { day = date.day - 1 }
    else (if nat_lt 1 date.month then record date { month = date.month - 1; day = month_length date.year (date.month - 1) }
    else record { year = date.year -ℤ pos 1; month = 12; day = 31 })

abbrev pub epoch : Civil
epoch = record { year = pos 1970; month = 1; day = 1 }

-- This is the date that is the number of days after 1 January 1970.
unfoldable pub date_after : ℕ → Civil
date_after zero = epoch
date_after (suc n) = next_day (date_after n)

-- This is the date that is the number of days before 1 January 1970.
unfoldable pub date_before : ℕ → Civil
date_before zero = epoch
date_before (suc n) = previous_day (date_before n)

-- This is the date with a day number. Day 0 is 1 January 1970.
abbrev pub date_on : ℤ → Civil
date_on (pos n) = date_after n
date_on (negsuc n) = date_before (suc n)
