-- Lemmas about the counts of days, in the form that the code computes.
use Rattle.std.proofs.Common.{◌≡◌, ℕ, suc, ◌+◌, ◌-◌, ◌*◌, ◌≤◌, refl, sym, ◌∙◌, arith, ℤ, pos, negsuc, ◌+ℤ◌}
use Rattle.ixdtf_instants.specs.Calendar.{days_before_year, days_of_months, day_count, day_number_of}
use Rattle.ixdtf_instants.proofs.SignedLemmas.{signed_arith}
use Rattle.ixdtf_instants.proofs.MarchLemmas.{march_days, march_months, leap_day, march_days-suc, days_of_years_on-march_days, days_of_years_back-march_days, march_days-shift_on, march_days-shift_back, leap_day-negsuc, leap_day-shift_on, leap_day-shift_back, days_of_months-early, days_of_months-late}
use borrow.Author.Differences.{up, down}

-- This gives the number of days from 1 January of year 0 to 1 January of a year, from the number n of the year. n is counted from the
-- year that begins on 1 March of year -400 * k.
pub days_before_year-march_days : (y : ℤ) (n k : ℕ) → y +ℤ pos (400 * k) ≡ pos n → up (days_before_year y) + 146_097 * k + leap_day y ≡ down (days_before_year y) + march_days n + 1
days_before_year-march_days (pos a) n k e =
    let same : n ≡ a + 400 * k = omega (arith, signed_arith) in
    rw same (omega (arith, signed_arith, march_days-shift_on a k, days_of_years_on-march_days a))
days_before_year-march_days (negsuc b) n k e =
    omega (arith, signed_arith, march_days-shift_back n (suc b) k (omega (arith, signed_arith)), days_of_years_back-march_days (suc b))

pub day_count-parts : (y : ℤ) (m d : ℕ) → up (day_count y m d) + down (days_before_year y) ≡ down (day_count y m d) + up (days_before_year y) + days_of_months y (m - 1) + d
unfolding day_count
day_count-parts y m d = omega (arith, signed_arith)

-- If each year begins on 1 March, a date from March on is in the year with the number of its own year.
pub day_count-late : (y : ℤ) (n k m d : ℕ) → y +ℤ pos (400 * k) ≡ pos n → 3 ≤ m → m ≤ 12 → up (day_count y m d) + 146_097 * k ≡ down (day_count y m d) + march_days n + march_months (m - 3) + d + 60
day_count-late y n k m d e low high =
    omega (arith, days_before_year-march_days y n k e, day_count-parts y m d, days_of_months-late y m low high)

pub leap_day-shift : (y : ℤ) (n k : ℕ) → y +ℤ pos (400 * k) ≡ pos n → leap_day y ≡ leap_day (pos n)
leap_day-shift (pos a) n k e =
    let same : n ≡ a + 400 * k = omega (arith, signed_arith) in rw same (sym (leap_day-shift_on a k))
leap_day-shift (negsuc b) n k e =
    leap_day-negsuc b ∙ sym (leap_day-shift_back n (suc b) k (omega (arith, signed_arith)))

-- If each year begins on 1 March, a date in January or February is in the year before its own year.
pub day_count-early : (y : ℤ) (n k m d : ℕ) → y +ℤ pos (400 * k) ≡ pos (suc n) → 1 ≤ m → m ≤ 2 → up (day_count y m d) + 146_097 * k ≡ down (day_count y m d) + march_days n + march_months (m + 9) + d + 60
day_count-early y n k m d e low high =
    omega (arith, days_before_year-march_days y (suc n) k e, leap_day-shift y (suc n) k e, march_days-suc n, day_count-parts y m d, days_of_months-early y m low high)

pub day_count-epoch : (up (day_count (pos 1970) 1 1) ≡ 719_529 + down (day_count (pos 1970) 1 1))
day_count-epoch = omega (arith, day_count-early (pos 1970) 1_969 0 1 1 refl (omega arith) (omega arith))

-- A day number is the count of the date minus the count of 1970-01-01.
pub day_number-day_count : (y : ℤ) (m d : ℕ) → up (day_number_of y m d) + 719_529 + down (day_count y m d) ≡ down (day_number_of y m d) + up (day_count y m d)
unfolding day_number_of
day_number-day_count y m d = omega (arith, signed_arith, day_count-epoch)
