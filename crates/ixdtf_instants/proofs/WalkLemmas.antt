-- Lemmas about the dates that are reached by going from day to day, and about the numbers of these dates.
use Rattle.std.proofs.Common.{◌≡◌, ◌⊎◌, ℕ, zero, suc, ◌+◌, ◌-◌, ◌<◌, ◌≤◌, ◌∷◌, ◌++◌, Bool, cond, true, false, inl, inr, refl, arith, nat_lt, ℤ, pos, negsuc, ◌+ℤ◌, ◌-ℤ◌, ◌<ℤ◌, ◌≤ℤ◌}
use Rattle.std.proofs.lemmas.Bool.{cases_lt, cases_order}
use Rattle.std.proofs.lemmas.Bool.Decides.{nat_tests}
use Rattle.std.proofs.lemmas.Int.{by_lt_z}
use Rattle.ixdtf_instants.specs.Calendar.{month_length, IsCivilDate, day_number_of}
use Rattle.ixdtf_instants.specs.Texts.{digits_in, year_digits, date_digits}
use Rattle.ixdtf_instants.specs.CivilDates.{Civil, next_day, previous_day, epoch, date_after, date_before, date_on}
use Rattle.ixdtf_instants.proofs.SignedLemmas.{signed_arith}
use Rattle.ixdtf_instants.proofs.LawLemmas.{day_number-next_day, day_number-next_month, day_number-next_year, day_number-epoch, day_number-order}
use borrow.Author.Differences.{up, down}

-- The calendar has the date, and the date has the day number.
pub record IsDay (date : Civil) (number : ℤ) : Type 0 where
  pub civil : IsCivilDate date.year date.month date.day
  pub counts : day_number_of date.year date.month date.day ≡ number

-- Each month has at least 28 days.
month_length-some : (y : ℤ) (m : ℕ) → 28 ≤ month_length y m
month_length-some y m = grind arith

pub month_length-most : (y : ℤ) (m : ℕ) → month_length y m ≤ 31
month_length-most y m = grind arith

less : (a b : ℕ) → nat_lt a b ≡ true → a < b
less a b e = grind (arith, nat_tests)

not_less : (a b : ℕ) → nat_lt a b ≡ false → b ≤ a
not_less a b e = grind (arith, nat_tests)

-- ---- the next day

abbrev civil : ℤ → ℕ → ℕ → Civil
civil y m d = record { year = y; month = m; day = d }

after-in_month : (y : ℤ) (m d : ℕ) (z : ℤ) → IsCivilDate y m d → day_number_of y m d ≡ z → d < month_length y m → IsDay (civil y m (d + 1)) (z +ℤ pos 1)
after-in_month y m d z h e lt = record {
  civil = (h.0, h.1, omega arith, omega arith);
  counts = rw (← e) (day_number-next_day y m d);
}

after-month : (y : ℤ) (m d : ℕ) (z : ℤ) → IsCivilDate y m d → day_number_of y m d ≡ z → d ≡ month_length y m → m < 12 → IsDay (civil y (m + 1) 1) (z +ℤ pos 1)
after-month y m d z h e last lt = record {
  civil = (omega arith, omega arith, omega arith, omega (arith, month_length-some y (m + 1)));
  counts = rw (← e, last) (day_number-next_month y m h.0);
}

after-year : (y : ℤ) (m d : ℕ) (z : ℤ) → IsCivilDate y m d → day_number_of y m d ≡ z → d ≡ month_length y m → m ≡ 12 → IsDay (civil (y +ℤ pos 1) 1 1) (z +ℤ pos 1)
after-year y m d z h e last end =
    let day : d ≡ 31 = (rw end at last) in record {
      civil = (omega arith, omega arith, omega arith, omega arith);
      counts = rw (← e, end, day) (day_number-next_year y (y +ℤ pos 1) refl);
    }

pub next_day-number : (date : Civil) (z : ℤ) → IsDay date z → IsDay (next_day date) (z +ℤ pos 1)
next_day-number date z h = by_day (nat_lt date.day (month_length date.year date.month)) refl
  where
    by_month : (b : Bool) → nat_lt date.month 12 ≡ b → date.day ≡ month_length date.year date.month
        → IsDay (cond b (civil date.year (date.month + 1) 1) (civil (date.year +ℤ pos 1) 1 1)) (z +ℤ pos 1)
    by_month true e last = after-month _ _ _ z h.civil h.counts last (less _ _ e)
    by_month false e last = after-year _ _ _ z h.civil h.counts last (omega (arith, not_less date.month 12 e, h.civil.1))

    by_day : (b : Bool) → nat_lt date.day (month_length date.year date.month) ≡ b
        → IsDay (cond b (civil date.year date.month (date.day + 1)) (cond (nat_lt date.month 12) (civil date.year (date.month + 1) 1) (civil (date.year +ℤ pos 1) 1 1))) (z +ℤ pos 1)
    by_day true e = after-in_month _ _ _ z h.civil h.counts (less _ _ e)
    by_day false e = by_month (nat_lt date.month 12) refl (omega (arith, not_less date.day _ e, h.civil.3))

-- ---- the day before

before-in_month : (y : ℤ) (m d : ℕ) (z : ℤ) → IsCivilDate y m d → day_number_of y m d ≡ z → 1 < d → IsDay (civil y m (d - 1)) (z -ℤ pos 1)
before-in_month y m d z h e lt =
    let next : d - 1 + 1 ≡ d = omega arith in record {
      civil = (h.0, h.1, omega arith, omega arith);
      counts = omega (arith, signed_arith, e, rw next at (day_number-next_day y m (d - 1)));
    }

before-month : (y : ℤ) (m d : ℕ) (z : ℤ) → IsCivilDate y m d → day_number_of y m d ≡ z → d ≡ 1 → 1 < m → IsDay (civil y (m - 1) (month_length y (m - 1))) (z -ℤ pos 1)
before-month y m d z h e first lt =
    let next : m - 1 + 1 ≡ m = omega arith in record {
      civil = (omega arith, omega arith, omega (arith, month_length-some y (m - 1)), omega arith);
      counts = omega (arith, signed_arith, rw first at e, rw next at (day_number-next_month y (m - 1) (omega arith)));
    }

before-year : (y : ℤ) (m d : ℕ) (z : ℤ) → IsCivilDate y m d → day_number_of y m d ≡ z → d ≡ 1 → m ≡ 1 → IsDay (civil (y -ℤ pos 1) 12 31) (z -ℤ pos 1)
before-year y m d z h e first begin = record {
  civil = (omega arith, omega arith, omega arith, omega arith);
  counts = omega (arith, signed_arith, rw (first, begin) at e, day_number-next_year (y -ℤ pos 1) y (omega (arith, signed_arith)));
}

pub previous_day-number : (date : Civil) (z : ℤ) → IsDay date z → IsDay (previous_day date) (z -ℤ pos 1)
previous_day-number date z h = by_day (nat_lt 1 date.day) refl
  where
    by_month : (b : Bool) → nat_lt 1 date.month ≡ b → date.day ≡ 1
        → IsDay (cond b (civil date.year (date.month - 1) (month_length date.year (date.month - 1))) (civil (date.year -ℤ pos 1) 12 31)) (z -ℤ pos 1)
    by_month true e first = before-month _ _ _ z h.civil h.counts first (less _ _ e)
    by_month false e first = before-year _ _ _ z h.civil h.counts first (omega (arith, not_less 1 date.month e, h.civil.0))

    by_day : (b : Bool) → nat_lt 1 date.day ≡ b
        → IsDay (cond b (civil date.year date.month (date.day - 1)) (cond (nat_lt 1 date.month) (civil date.year (date.month - 1) (month_length date.year (date.month - 1))) (civil (date.year -ℤ pos 1) 12 31))) (z -ℤ pos 1)
    by_day true e = before-in_month _ _ _ z h.civil h.counts (less _ _ e)
    by_day false e = by_month (nat_lt 1 date.month) refl (omega (arith, not_less 1 date.day e, h.civil.2))

-- ---- the walk

epoch-is : IsDay epoch (pos 0)
epoch-is = record { civil = (omega arith, omega arith, omega arith, omega arith); counts = day_number-epoch }

after-is : (n : ℕ) → IsDay (date_after n) (pos n)
unfolding date_after
after-is zero = epoch-is
after-is (suc n) =
    let next : pos n +ℤ pos 1 ≡ pos (suc n) = omega (arith, signed_arith) in
    rw next at (next_day-number (date_after n) (pos n) (after-is n))

before-is : (n : ℕ) → IsDay (date_before n) (pos 0 -ℤ pos n)
unfolding date_before
before-is zero = epoch-is
before-is (suc n) =
    let next : pos 0 -ℤ pos n -ℤ pos 1 ≡ pos 0 -ℤ pos (suc n) = omega (arith, signed_arith) in
    rw next at (previous_day-number (date_before n) (pos 0 -ℤ pos n) (before-is n))

-- The date that is reached has the day number.
pub date_on-is : (z : ℤ) → IsDay (date_on z) z
date_on-is (pos n) = after-is n
date_on-is (negsuc n) =
    let same : pos 0 -ℤ pos (suc n) ≡ negsuc n = omega (arith, signed_arith) in rw same at (before-is (suc n))

-- ---- one date for each number

record SameDay (y : ℤ) (m d : ℕ) (y₂ : ℤ) (m₂ d₂ : ℕ) : Type 0 where
  pub year : y ≡ y₂
  pub month : m ≡ m₂
  pub day : d ≡ d₂

-- Two dates of the calendar with the same day number are the same.
one_date : (y : ℤ) (m d : ℕ) (y₂ : ℤ) (m₂ d₂ : ℕ) → IsCivilDate y m d → IsCivilDate y₂ m₂ d₂ → day_number_of y m d ≡ day_number_of y₂ m₂ d₂ → SameDay y m d y₂ m₂ d₂
one_date y m d y₂ m₂ d₂ h k e =
    let on = (day_number-order y m d y₂ m₂ d₂ h k).0 in
    let back = (day_number-order y₂ m₂ d₂ y m d k h).0 in
    by_lt_z y y₂ (λ below. absurd (omega (arith, signed_arith, on (inl below))))
    (λ ge. by_lt_z y₂ y (λ above. absurd (omega (arith, signed_arith, back (inl above))))
    (λ le. let same : y ≡ y₂ = omega (arith, signed_arith) in
    let same₂ : y₂ ≡ y = omega (arith, signed_arith) in
    elim (cases_order m m₂) [
      | inl n ↦ elim (cases_order d d₂) [
        | inl f ↦ record { year = same; month = n; day = f }
        | inr o ↦ elim o [
          | inl below ↦ absurd (omega (arith, signed_arith, on (inr (same, inr (n, below)))))
          | inr above ↦ absurd (omega (arith, signed_arith, back (inr (same₂, inr (omega arith, above)))))
        ]
      ]
      | inr o ↦ elim o [
        | inl below ↦ absurd (omega (arith, signed_arith, on (inr (same, inl below))))
        | inr above ↦ absurd (omega (arith, signed_arith, back (inr (same₂, inl above))))
      ]
    ]))

-- A date of the calendar is the date that is reached by its day number.
pub date_on-of : (y : ℤ) (m d : ℕ) (z : ℤ) → IsCivilDate y m d → day_number_of y m d ≡ z → civil y m d ≡ date_on z
date_on-of y m d z h e =
    let on = date_on-is z in
    let same = one_date y m d (date_on z).year (date_on z).month (date_on z).day h on.civil (omega (arith, signed_arith, e, on.counts)) in
    rw (same.year, same.month, same.day) refl

pub date_digits-of : (y : ℤ) (m d : ℕ) (z : ℤ) → IsCivilDate y m d → day_number_of y m d ≡ z
    → year_digits y ++ (45 ∷ (digits_in 2 m ++ (45 ∷ digits_in 2 d))) ≡ date_digits (date_on z)
unfolding date_digits
date_digits-of y m d z h e = rw (← date_on-of y m d z h e) refl
