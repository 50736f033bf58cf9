-- Lemmas about the date of a day. They start from the year and the month that contain the day, if each year begins on 1 March.
use Rattle.std.proofs.Common.{◌≡◌, ℕ, zero, suc, ◌+◌, ◌-◌, ◌*◌, ◌<◌, ◌≤◌, refl, arith, ℤ, pos, neg_ℤ, ◌+ℤ◌, ◌≤ℤ◌}
use Rattle.std.proofs.lemmas.Int.{by_lt_z}
use Rattle.ixdtf_instants.specs.Calendar.{IsCivilDate, month_length, day_number_of}
use Rattle.ixdtf_instants.proofs.SignedLemmas.{signed_arith}
use Rattle.ixdtf_instants.proofs.MarchLemmas.{march_days, march_months, leap_day, march_days-suc}
use Rattle.ixdtf_instants.proofs.DayLemmas.{day_count-late, day_count-early, day_number-day_count, leap_day-shift}
use Rattle.ixdtf_instants.proofs.LawLemmas.{day_number-later_year}
use borrow.Author.Differences.{up, down}

pub number-late : (y : ℤ) (m d : ℕ) (z : ℤ) (n k : ℕ) → y +ℤ pos (400 * k) ≡ pos n → 3 ≤ m → m ≤ 12
    → up z + 719_469 + 146_097 * k ≡ down z + march_days n + march_months (m - 3) + d → day_number_of y m d ≡ z
number-late y m d z n k e low high h =
    omega (arith, signed_arith, day_number-day_count y m d, day_count-late y n k m d e low high)

pub number-early : (y : ℤ) (m d : ℕ) (z : ℤ) (n k : ℕ) → y +ℤ pos (400 * k) ≡ pos (suc n) → 1 ≤ m → m ≤ 2
    → up z + 719_469 + 146_097 * k ≡ down z + march_days n + march_months (m + 9) + d → day_number_of y m d ≡ z
number-early y m d z n k e low high h =
    omega (arith, signed_arith, day_number-day_count y m d, day_count-early y n k m d e low high)

-- The next lemmas are about the days of January and February.
month_length-leap_day : (y : ℤ) → month_length y 2 ≡ 28 + leap_day y
month_length-leap_day y = grind arith

pub in_month-early : (y : ℤ) (m d n k count : ℕ) → y +ℤ pos (400 * k) ≡ pos (suc n) → 1 ≤ m → m ≤ 2
    → march_days n + march_months (m + 9) + d ≡ count + 1 → count < march_days (suc n) → count < march_days n + march_months (m + 10) → d ≤ month_length y m
in_month-early y zero d n k count e low high is year month = absurd (omega arith)
in_month-early y (suc zero) d n k count e low high is year month = omega arith
in_month-early y (suc (suc zero)) d n k count e low high is year month =
    omega (arith, month_length-leap_day y, leap_day-shift y (suc n) k e, march_days-suc n)
in_month-early y (suc (suc (suc m))) d n k count e low high is year month = absurd (omega arith)

-- ---- six digits of a year

number-first : day_number_of (neg_ℤ (pos 999_999)) 1 1 ≡ neg_ℤ (pos 365_961_662)
number-first = number-early (neg_ℤ (pos 999_999)) 1 1 _ 0 2_500 refl (omega arith) (omega arith) (omega (arith, signed_arith))

number-last : day_number_of (pos 999_999) 12 31 ≡ pos 364_522_971
number-last = number-late (pos 999_999) 12 31 _ 999_999 0 refl (omega arith) (omega arith) (omega (arith, signed_arith))

-- The days from 1 January of year -999,999 to 31 December of year 999,999 are in these years.
pub six_digit_year : (y : ℤ) (m d : ℕ) (z : ℤ) → IsCivilDate y m d → day_number_of y m d ≡ z → neg_ℤ (pos 365_961_662) ≤ℤ z → z ≤ℤ pos 364_522_971
    → (neg_ℤ (pos 999_999) ≤ℤ y) × (y ≤ℤ pos 999_999)
six_digit_year y m d z h e low high =
    by_lt_z y (neg_ℤ (pos 999_999))
    (λ below. absurd (omega (arith, signed_arith, e, number-first, day_number-later_year y m d (neg_ℤ (pos 999_999)) 1 1 h (omega arith) below)))
    (λ from. by_lt_z (pos 999_999) y
    (λ above. absurd (omega (arith, signed_arith, e, number-last, day_number-later_year (pos 999_999) 12 31 y m d (omega arith, omega arith, omega arith, omega arith) h.2 above)))
    (λ to. (omega (arith, signed_arith), omega (arith, signed_arith))))
