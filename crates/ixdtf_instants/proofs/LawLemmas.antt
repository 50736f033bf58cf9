-- Lemmas about the day numbers of the next day, month and year, and about the order of day numbers.
use Rattle.std.proofs.Common.{◌≡◌, ℕ, zero, suc, ◌+◌, ◌-◌, ◌<◌, ◌≤◌, ◌⊎◌, inl, inr, refl, arith, ℤ, pos, negsuc, ◌+ℤ◌, ◌<ℤ◌, ◌≤ℤ◌, ◌↔◌}
use Rattle.std.proofs.lemmas.Bool.{cases_order}
use Rattle.std.proofs.lemmas.Int.{by_lt_z}
use Rattle.ixdtf_instants.specs.Calendar.{year_length, month_length, IsCivilDate, days_of_years_on, days_of_years_back, days_before_year, days_of_months, day_number_of}
use Rattle.ixdtf_instants.proofs.SignedLemmas.{signed_arith}
use Rattle.ixdtf_instants.proofs.MarchLemmas.{year_length-leap_day, days_of_months-late}
use Rattle.ixdtf_instants.proofs.DayLemmas.{day_count-parts, day_number-day_count}
use borrow.Author.Differences.{up, down}

-- ---- years

next_on : (n : ℕ) → days_of_years_on (suc n) ≡ days_of_years_on n + year_length (pos n)
unfolding days_of_years_on
next_on n = refl

none_on : days_of_years_on zero ≡ 0
unfolding days_of_years_on
none_on = refl

next_back : (n : ℕ) → days_of_years_back (suc n) ≡ days_of_years_back n + year_length (negsuc n)
unfolding days_of_years_back
next_back n = refl

none_back : days_of_years_back zero ≡ 0
unfolding days_of_years_back
none_back = refl

-- The next year begins after the days of this year.
days_before_year-next : (y next : ℤ) → next ≡ y +ℤ pos 1 → days_before_year next ≡ days_before_year y +ℤ pos (year_length y)
days_before_year-next (pos n) next e =
    let here : next ≡ pos (suc n) = omega (arith, signed_arith) in
    rw here (omega (arith, signed_arith, next_on n))
days_before_year-next (negsuc zero) next e =
    let here : next ≡ pos zero = omega (arith, signed_arith) in
    rw here (omega (arith, signed_arith, none_on, none_back, next_back zero))
days_before_year-next (negsuc (suc n)) next e =
    let here : next ≡ negsuc n = omega (arith, signed_arith) in
    rw here (omega (arith, signed_arith, next_back (suc n)))

-- Each later year begins after the days of this year.
days_before_year-add : (k : ℕ) (y later : ℤ) → later ≡ y +ℤ pos (suc k) → (days_before_year y +ℤ pos (year_length y)) ≤ℤ days_before_year later
days_before_year-add zero y later e =
    rw (days_before_year-next y later e) (omega (arith, signed_arith))
days_before_year-add (suc k) y later e =
    let last : later ≡ (y +ℤ pos (suc k)) +ℤ pos 1 = omega (arith, signed_arith) in
    omega (arith, signed_arith, days_before_year-add k y (y +ℤ pos (suc k)) refl, days_before_year-next (y +ℤ pos (suc k)) later last)

days_before_year-later : (y later : ℤ) → y <ℤ later → (days_before_year y +ℤ pos (year_length y)) ≤ℤ days_before_year later
days_before_year-later y later h =
    days_before_year-add (up later + down y - (down later + up y + 1)) y later (omega (arith, signed_arith))

-- ---- months

none_of_months : (y : ℤ) → days_of_months y 0 ≡ 0
unfolding days_of_months
none_of_months y = refl

days_of_months_more : (y : ℤ) (m : ℕ) → 1 ≤ m → days_of_months y m ≡ days_of_months y (m - 1) + month_length y m
unfolding days_of_months
days_of_months_more y zero h = absurd (omega arith)
days_of_months_more y (suc m) h = let back : suc m - 1 ≡ m = omega arith in rw back

days_of_months_all : (y : ℤ) → days_of_months y 12 ≡ year_length y
days_of_months_all y =
    omega (arith, days_of_months_more y 12 (omega arith), days_of_months-late y 12 (omega arith) (omega arith), year_length-leap_day y)

days_of_months-add : (y : ℤ) (m k : ℕ) → days_of_months y m ≤ days_of_months y (k + m)
days_of_months-add y m zero = let same : 0 + m ≡ m = omega arith in rw same (omega arith)
days_of_months-add y m (suc k) =
    let back : suc k + m - 1 ≡ k + m = omega arith in
    omega (arith, days_of_months-add y m k, rw back at (days_of_months_more y (suc k + m) (omega arith)))

days_of_months_mono : (y : ℤ) (m later : ℕ) → m ≤ later → days_of_months y m ≤ days_of_months y later
days_of_months_mono y m later h =
    let same : later - m + m ≡ later = omega arith in
    rw same at (days_of_months-add y m (later - m))

-- The number of a day in its year is at most the number of days in the months up to this month or to a later month.
day_before : (y : ℤ) (m d later : ℕ) → IsCivilDate y m d → m ≤ later → days_of_months y (m - 1) + d ≤ days_of_months y later
day_before y m d later h le =
    omega (arith, days_of_months_more y m h.0, days_of_months_mono y m later le)

day_in_year : (y : ℤ) (m d : ℕ) → IsCivilDate y m d → days_of_months y (m - 1) + d ≤ year_length y
day_in_year y m d h = omega (arith, day_before y m d 12 h h.1, days_of_months_all y)

-- ---- day numbers

-- This is the day number, written with the terms that `omega` reads.
pub day_number-parts : (y : ℤ) (m d : ℕ) → up (day_number_of y m d) + 719_529 + down (days_before_year y) ≡ down (day_number_of y m d) + up (days_before_year y) + days_of_months y (m - 1) + d
day_number-parts y m d = omega (arith, day_number-day_count y m d, day_count-parts y m d)

pub day_number-next_day : (y : ℤ) (m d : ℕ) → day_number_of y m (d + 1) ≡ day_number_of y m d +ℤ pos 1
day_number-next_day y m d =
    omega (arith, signed_arith, day_number-parts y m d, day_number-parts y m (d + 1))

pub day_number-next_month : (y : ℤ) (m : ℕ) → 1 ≤ m → day_number_of y (m + 1) 1 ≡ day_number_of y m (month_length y m) +ℤ pos 1
day_number-next_month y m h =
    let back : m + 1 - 1 ≡ m = omega arith in
    let some : 1 ≤ month_length y m = grind arith in
    omega (arith, signed_arith, day_number-parts y m (month_length y m), rw back at (day_number-parts y (m + 1) 1), days_of_months_more y m h)

pub day_number-next_year : (y next : ℤ) → next ≡ y +ℤ pos 1 → day_number_of next 1 1 ≡ day_number_of y 12 31 +ℤ pos 1
day_number-next_year y next e =
    omega (arith, signed_arith, day_number-parts y 12 31, day_number-parts next 1 1, none_of_months next, days_of_months_more y 12 (omega arith), days_of_months_all y, days_before_year-next y next e)

pub day_number-epoch : day_number_of (pos 1970) 1 1 ≡ pos 0
unfolding day_number_of
day_number-epoch = omega (arith, signed_arith)

pub day_number-later_year : (y : ℤ) (m d : ℕ) (y₂ : ℤ) (m₂ d₂ : ℕ) → IsCivilDate y m d → 1 ≤ d₂ → y <ℤ y₂ → day_number_of y m d <ℤ day_number_of y₂ m₂ d₂
day_number-later_year y m d y₂ m₂ d₂ h some lt =
    omega (arith, signed_arith, day_number-parts y m d, day_number-parts y₂ m₂ d₂, day_in_year y m d h, days_before_year-later y y₂ lt)

pub day_number-later_month : (y : ℤ) (m d m₂ d₂ : ℕ) → IsCivilDate y m d → 1 ≤ d₂ → m < m₂ → day_number_of y m d <ℤ day_number_of y m₂ d₂
day_number-later_month y m d m₂ d₂ h some lt =
    omega (arith, signed_arith, day_number-parts y m d, day_number-parts y m₂ d₂, day_before y m d (m₂ - 1) h (omega arith))

pub day_number-later_day : (y : ℤ) (m d d₂ : ℕ) → d < d₂ → day_number_of y m d <ℤ day_number_of y m d₂
day_number-later_day y m d d₂ lt =
    omega (arith, signed_arith, day_number-parts y m d, day_number-parts y m d₂)

-- ---- order

-- Dates are compared by the year, then by the month, and then by the day.
abbrev Earlier : ℤ → ℕ → ℕ → ℤ → ℕ → ℕ → Type 0
Earlier y m d y₂ m₂ d₂ = (y <ℤ y₂) ⊎ ((y ≡ y₂) × ((m < m₂) ⊎ ((m ≡ m₂) × (d < d₂))))

later_number : (y : ℤ) (m d : ℕ) (y₂ : ℤ) (m₂ d₂ : ℕ) → IsCivilDate y m d → 1 ≤ d₂ → Earlier y m d y₂ m₂ d₂ → day_number_of y m d <ℤ day_number_of y₂ m₂ d₂
later_number y m d y₂ m₂ d₂ h some (inl lt) = day_number-later_year y m d y₂ m₂ d₂ h some lt
later_number y m d y₂ m₂ d₂ h some (inr (e, inl lt)) = rw (← e) (day_number-later_month y m d m₂ d₂ h some lt)
later_number y m d y₂ m₂ d₂ h some (inr (e, inr (f, lt))) =
    rw (← e) (rw (← f) (day_number-later_day y m d d₂ lt))

not_later : (y : ℤ) (m d : ℕ) (y₂ : ℤ) (m₂ d₂ : ℕ) → 1 ≤ d → IsCivilDate y₂ m₂ d₂ → day_number_of y m d <ℤ day_number_of y₂ m₂ d₂ → Earlier y₂ m₂ d₂ y m d → ⊥
not_later y m d y₂ m₂ d₂ some h lt e = omega (arith, signed_arith, later_number y₂ m₂ d₂ y m d h some e)

earlier_day : (y : ℤ) (m d d₂ : ℕ) → day_number_of y m d <ℤ day_number_of y m d₂ → d < d₂
earlier_day y m d d₂ lt = omega (arith, signed_arith, day_number-parts y m d, day_number-parts y m d₂)

earlier_month : (y : ℤ) (m d m₂ d₂ : ℕ) → 1 ≤ d → IsCivilDate y m₂ d₂ → day_number_of y m d <ℤ day_number_of y m₂ d₂ → (m < m₂) ⊎ ((m ≡ m₂) × (d < d₂))
earlier_month y m d m₂ d₂ some h lt =
    elim (cases_order m m₂) [
      | inl e ↦ inr (e, earlier_day y m d d₂ (rw (← e) at lt))
      | inr o ↦ elim o [ inl below ↦ inl below | inr above ↦ absurd (not_later y m d y m₂ d₂ some h lt (inr (refl, inl above))) ]
    ]

same_year : (y y₂ : ℤ) (m d m₂ d₂ : ℕ) → y ≡ y₂ → 1 ≤ d → IsCivilDate y₂ m₂ d₂ → day_number_of y m d <ℤ day_number_of y₂ m₂ d₂ → (m < m₂) ⊎ ((m ≡ m₂) × (d < d₂))
same_year y y₂ m d m₂ d₂ e some h lt = earlier_month y m d m₂ d₂ some (rw (← e) at h) (rw (← e) at lt)

earlier_date : (y : ℤ) (m d : ℕ) (y₂ : ℤ) (m₂ d₂ : ℕ) → 1 ≤ d → IsCivilDate y₂ m₂ d₂ → day_number_of y m d <ℤ day_number_of y₂ m₂ d₂ → Earlier y m d y₂ m₂ d₂
earlier_date y m d y₂ m₂ d₂ some h lt =
    by_lt_z y y₂ (λ below. inl below)
    (λ ge. by_lt_z y₂ y (λ above. absurd (not_later y m d y₂ m₂ d₂ some h lt (inl above)))
    (λ le. let e : y ≡ y₂ = omega (arith, signed_arith) in inr (e, same_year y y₂ m d m₂ d₂ e some h lt)))

pub day_number-order : (y : ℤ) (m d : ℕ) (y₂ : ℤ) (m₂ d₂ : ℕ) → IsCivilDate y m d → IsCivilDate y₂ m₂ d₂ → ((y <ℤ y₂) ⊎ ((y ≡ y₂) × ((m < m₂) ⊎ ((m ≡ m₂) × (d < d₂))))) ↔ (day_number_of y m d <ℤ day_number_of y₂ m₂ d₂)
day_number-order y m d y₂ m₂ d₂ h k =
    (later_number y m d y₂ m₂ d₂ h (omega arith), earlier_date y m d y₂ m₂ d₂ (omega arith) k)
