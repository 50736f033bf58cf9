-- Theorems about the instants of dates, times and offsets.
use Rattle.std.proofs.Common.{◌≡◌, ◌⊎◌, ◌↔◌, ℕ, zero, suc, ◌+◌, ◌-◌, ◌*◌, ◌/◌, ◌%◌, ◌^◌, ◌<◌, ◌≤◌, min, ◌∷◌, ◌++◌, take, length, Option, Some, None, inl, inr, refl, arith, ℤ, pos, ◌+ℤ◌, ◌*ℤ◌, ◌<ℤ◌}
use Rattle.std.proofs.lemmas.{Bool.{cases_order}, Int.{by_lt_z}, List.length-take}
use Rattle.std.proofs.Math.Nat.{pow-succ', pow-le-pow_right, mul-le-mul_left}
use Rattle.ixdtf_instants.specs.{declared.instant.Instant.{Instant}, Calendar.{day_number_of}, Counts.count_of}
use Rattle.ixdtf_instants.proofs.{SignedLemmas.{signed_arith}, LawLemmas.{day_number-next_day, day_number-next_month, day_number-next_year, day_number-order}}
use Rattle.ixdtf_grammar.specs.declared.records.{DateRecord.DateRecord, TimeRecord.TimeRecord}
use Rattle.ixdtf_grammar.specs.{Instants.{fraction_nanoseconds, time_count}, InstantLaws.{HasDay, IsShown, IsNextDay, IsEarlierTime, IsEarlierDate, SameDate}}
use Rattle.ixdtf_grammar.specs.language.{Letters.{Text, Letter.Plain}, Digits.{decimal, padded_digits}, Fractions.{FractionParts, places_of}}
use Rattle.ixdtf_grammar.proofs.PaddedDigits.{ten_pos}

-- ---- nanoseconds

-- With one more digit at the beginning, the number of the digits is below the next power of ten.
digit_before : (w k : ℕ) (rest : Text) → decimal (take k rest) < 10 ^ k → decimal (take (suc k) (Plain (48 + w % 10) ∷ rest)) < 10 ^ suc k
digit_before w k rest small =
    let long : length (take k rest) ≤ k = omega (arith, length-take k rest) in
    let power : 10 ^ length (take k rest) ≤ 10 ^ k = pow-le-pow_right (omega arith) long in
    let digit : w % 10 ≤ 9 = omega arith in
    let front : w % 10 * 10 ^ length (take k rest) ≤ 9 * 10 ^ length (take k rest) = omega (arith, mul-le-mul_left (10 ^ length (take k rest)) digit) in
    let bare : 48 + w % 10 - 48 ≡ w % 10 = omega arith in
    rw (bare, pow-succ' 10 k) (omega arith)

-- The first k digits of a number with zeros after it stand for a number below 10 ^ k.
digits_below : (k count number more : ℕ) → decimal (take k (padded_digits count number ++ padded_digits more 0)) < 10 ^ k
digits_below zero count number more = omega arith
digits_below (suc k) (suc count) number more =
    digit_before (number / 10 ^ count) k (padded_digits count number ++ padded_digits more 0) (digits_below k count number more)
digits_below (suc k) zero number (suc more) =
    digit_before (0 / 10 ^ more) k (padded_digits more 0) (digits_below k zero number more)
digits_below (suc k) zero number zero = ten_pos (suc k)

pub nanoseconds_below : (fraction : Option FractionParts) → fraction_nanoseconds fraction < 10 ^ 9
nanoseconds_below None = omega arith
nanoseconds_below (Some fraction) = digits_below 9 (places_of fraction) fraction.value 9

-- ---- times

abbrev total : ℕ → ℕ → ℕ → ℕ → ℕ
total h m s f = ((h * 60 + m) * 60 + s) * 10 ^ 9 + f

abbrev Later : ℕ → ℕ → ℕ → ℕ → ℕ → ℕ → ℕ → ℕ → Type 0
Later h m s f h₂ m₂ s₂ f₂ = (h < h₂) ⊎ ((h ≡ h₂) × ((m < m₂) ⊎ ((m ≡ m₂) × ((s < s₂) ⊎ ((s ≡ s₂) × (f < f₂))))))

abbrev Fits : ℕ → ℕ → ℕ → Type 0
Fits m s f = (m ≤ 59) × (s ≤ 59) × (f < 10 ^ 9)

total_later : (h m s f h₂ m₂ s₂ f₂ : ℕ) → Fits m s f → Fits m₂ s₂ f₂ → Later h m s f h₂ m₂ s₂ f₂ → total h m s f < total h₂ m₂ s₂ f₂
total_later h m s f h₂ m₂ s₂ f₂ fits fits₂ (inl lt) = omega arith
total_later h m s f h₂ m₂ s₂ f₂ fits fits₂ (inr (e, inl lt)) = omega arith
total_later h m s f h₂ m₂ s₂ f₂ fits fits₂ (inr (e, inr (e₂, inl lt))) = omega arith
total_later h m s f h₂ m₂ s₂ f₂ fits fits₂ (inr (e, inr (e₂, inr (e₃, lt)))) = omega arith

later_total : (h m s f h₂ m₂ s₂ f₂ : ℕ) → Fits m s f → Fits m₂ s₂ f₂ → total h m s f < total h₂ m₂ s₂ f₂ → Later h m s f h₂ m₂ s₂ f₂
later_total h m s f h₂ m₂ s₂ f₂ fits fits₂ lt =
    elim (cases_order h h₂) [
      | inl e ↦ elim (cases_order m m₂) [
        | inl e₂ ↦ elim (cases_order s s₂) [
          | inl e₃ ↦ inr (e, inr (e₂, inr (e₃, omega arith)))
          | inr o ↦ elim o [ inl below ↦ inr (e, inr (e₂, inl below)) | inr above ↦ absurd (omega arith) ]
        ]
        | inr o ↦ elim o [ inl below ↦ inr (e, inl below) | inr above ↦ absurd (omega arith) ]
      ]
      | inr o ↦ elim o [ inl below ↦ inl below | inr above ↦ absurd (omega arith) ]
    ]

fits_of : (time : TimeRecord) → IsShown time → Fits time.minute (min time.second 59) (fraction_nanoseconds time.fraction)
fits_of time shown = (shown.1, omega arith, nanoseconds_below time.fraction)

time-order : (time later : TimeRecord) → IsShown time → IsShown later → IsEarlierTime time later ↔ (time_count time < time_count later)
time-order time later shown shown₂ = (
  total_later time.hour time.minute (min time.second 59) (fraction_nanoseconds time.fraction) later.hour later.minute (min later.second 59) (fraction_nanoseconds later.fraction) (fits_of time shown) (fits_of later shown₂),
  later_total time.hour time.minute (min time.second 59) (fraction_nanoseconds time.fraction) later.hour later.minute (min later.second 59) (fraction_nanoseconds later.fraction) (fits_of time shown) (fits_of later shown₂),
)

-- A time is before the next midnight.
time_in_day : (time : TimeRecord) → IsShown time → time_count time < 86_400 * 10 ^ 9
time_in_day time shown = omega (arith, fits_of time shown)

-- ---- dates

abbrev number_of : DateRecord → ℤ
number_of date = day_number_of date.year date.month date.day

date-order : (date later : DateRecord) → HasDay date → HasDay later → IsEarlierDate date later ↔ (number_of date <ℤ number_of later)
date-order date later h k =
    day_number-order date.year date.month date.day later.year later.month later.day h k

-- One of two dates is earlier, or they are the same.
date_cases : (date other : DateRecord) → IsEarlierDate date other ⊎ (SameDate date other ⊎ IsEarlierDate other date)
date_cases date other =
    by_lt_z date.year other.year (λ below. inl (inl below))
    (λ ge. by_lt_z other.year date.year (λ above. inr (inr (inl above)))
    (λ le. let e : date.year ≡ other.year = omega (arith, signed_arith) in
    let back : other.year ≡ date.year = omega (arith, signed_arith) in
    elim (cases_order date.month other.month) [
      | inl m ↦ elim (cases_order date.day other.day) [
        | inl d ↦ inr (inl (e, m, d))
        | inr o ↦ elim o [ inl below ↦ inl (inr (e, inr (m, below))) | inr above ↦ inr (inr (inr (back, inr (omega arith, above)))) ]
      ]
      | inr o ↦ elim o [ inl below ↦ inl (inr (e, inl below)) | inr above ↦ inr (inr (inr (back, inl above))) ]
    ]))

same_number : (date other : DateRecord) → SameDate date other → number_of date ≡ number_of other
same_number date other same = rw (same.0, same.1, same.2) refl

-- This is the count of a day and a time on this day.
abbrev count_in : ℤ → ℕ → ℤ
count_in day time = day *ℤ pos (24 * 60 * 60 * 10 ^ 9) +ℤ pos time

pub clocks_in_order : (date later_date : DateRecord) (time later_time : TimeRecord) → HasDay date → HasDay later_date → IsShown time → IsShown later_time
    → (IsEarlierDate date later_date ⊎ (SameDate date later_date × IsEarlierTime time later_time))
    ↔ (count_in (number_of date) (time_count time) <ℤ count_in (number_of later_date) (time_count later_time))
clocks_in_order date later_date time later_time h k shown shown₂ =
    let in_day = time_in_day time shown in
    let in_day₂ = time_in_day later_time shown₂ in (
      (λ first. elim first [
        | inl earlier ↦ omega (arith, signed_arith, (date-order date later_date h k).0 earlier)
        | inr both ↦ omega (arith, signed_arith, same_number date later_date both.0, (time-order time later_time shown shown₂).0 both.1)
      ]),
      (λ lt. elim (date_cases date later_date) [
        | inl earlier ↦ inl earlier
        | inr o ↦ elim o [
          | inl same ↦ inr (same, (time-order time later_time shown shown₂).1 (omega (arith, signed_arith, same_number date later_date same)))
          | inr above ↦ absurd (omega (arith, signed_arith, (date-order later_date date k h).0 above))
        ]
      ]),
    )

-- ---- the next day

pub next_number : (date next : DateRecord) → HasDay date → IsNextDay date next → number_of next ≡ number_of date +ℤ pos 1
next_number date next h after =
    elim after [
      | inl w ↦ cc (day_number-next_day date.year date.month date.day)
      | inr o ↦ elim o [
        | inl w ↦ cc (day_number-next_month date.year date.month h.0)
        | inr w ↦ cc (day_number-next_year date.year next.year w.2)
      ]
    ]

-- ---- instants

pub counts_in_order : (instant later : Instant) → instant.nanoseconds < 10 ^ 9 → later.nanoseconds < 10 ^ 9
    → ((instant.seconds <ℤ later.seconds) ⊎ ((instant.seconds ≡ later.seconds) × (instant.nanoseconds < later.nanoseconds)))
    ↔ (count_of instant <ℤ count_of later)
counts_in_order instant later fits fits₂ = (
  (λ first. elim first [ inl lt ↦ omega (arith, signed_arith) | inr both ↦ omega (arith, signed_arith, both.0, both.1) ]),
  (λ lt. by_lt_z instant.seconds later.seconds (λ below. inl below)
      (λ ge. by_lt_z later.seconds instant.seconds (λ above. absurd (omega (arith, signed_arith)))
      (λ le. inr (omega (arith, signed_arith), omega (arith, signed_arith))))),
)
