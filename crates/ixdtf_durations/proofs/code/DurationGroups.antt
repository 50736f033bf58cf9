-- The groups of a duration, as the loops over them store them: their numbers, and the least rank that may follow.
use Rattle.ixdtf_grammar.specs.declared.reason.Reason.TheVariants as reasons
use Rattle.std.proofs.Common.{◌≡◌, ℕ, ◌+◌, ◌≤◌, Bool, true, false, [], ◌∷◌, List, None, Result, Ok, Err, refl, sym, arith, nat_le, ◌&&◌, slice_set}
use Rattle.std.proofs.{Common.if◌then◌else◌, lemmas.Bool.Decides.nat_tests}
use Rattle.ixdtf_grammar.specs.{declared.profile.Profile.Profile, language.Letters.{year_letter, month_letter, week_letter, hour_letter, minute_letter}}
use Rattle.ixdtf_grammar.specs.language.Durations.{Half, Group, unit_index, unit_of, designator, greatest, least_step, in_order, number_of, Half.{date, time}}
use Rattle.ixdtf_grammar.specs.language.Durations.DurationUnit.{years, months, weeks, days, hours, minutes, seconds}
use Rattle.ixdtf_grammar.specs.declared.reason.Reason.{Reason}
use Rattle.ixdtf_durations.specs.{declared.{group_numbers.Number.Number, time_groups.TimeGroup.TimeGroup}, reading.DurationClauses.{rank, date_numbers, time_numbers}}
use Rattle.ixdtf_durations.specs.reading.DurationClauses.{date_group_of, time_group_of, date_rank_from, time_rank_from, digits_stop, date_read, time_read}
use Rattle.ixdtf_durations.proofs.code.DurationRanks.{below, date_unit_index, time_unit_index}

-- A duration unit of the half may follow these groups, if its rank is at least `least`.
abbrev pub MayFollowFrom : Profile → Half → ℕ → List Group → Type 0
MayFollowFrom profile half least groups = (c : ℕ) → in_order profile groups (unit_of half c) ≡ nat_le least (rank (unit_of half c))

-- The numbers of years, months and weeks are in their range.
abbrev pub AreSmall : List Group → Type 0
AreSmall dates =
    (nat_le (number_of years dates) 4294967295 ≡ true) × (nat_le (number_of months dates) 4294967295 ≡ true)
    × (nat_le (number_of weeks dates) 4294967295 ≡ true)

-- The numbers of the date groups, and the least rank that may follow.
pub record HasDates (profile : Profile) (values : List ℕ) (least : ℕ) (dates : List Group) : Type 0 where
  pub numbers : values ≡ date_numbers dates
  pub small : AreSmall dates
  pub follows : MayFollowFrom profile date least dates

-- The numbers of the time groups, and the least rank that may follow.
pub record HasTimes (profile : Profile) (values : List ℕ) (least : ℕ) (times : List Group) : Type 0 where
  pub numbers : values ≡ time_numbers times
  pub follows : MayFollowFrom profile time least times

-- ---- no groups

pub no_dates : (profile : Profile) → HasDates profile (0 ∷ 0 ∷ 0 ∷ 0 ∷ 0 ∷ []) 1 []
no_dates profile = record { numbers = refl; small = (refl, refl, refl); follows = λ c. go (year_letter c) (month_letter c) (week_letter c) }
  where
    go : (y m w : Bool) → true ≡ nat_le 1 (rank (if y then years else (if m then months else (if w then weeks else days))))
    go true m w = refl
    go false true w = refl
    go false false true = refl
    go false false false = refl

pub no_times : (profile : Profile) → HasTimes profile (0 ∷ 0 ∷ 0 ∷ 0 ∷ []) 1 []
no_times profile = record { numbers = refl; follows = λ c. go (hour_letter c) (minute_letter c) }
  where
    go : (h m : Bool) → true ≡ nat_le 1 (rank (if h then hours else (if m then minutes else seconds)))
    go true m = refl
    go false true = refl
    go false false = refl

-- ---- one more group

-- It is enough to compare with the last rank.
dates_absorb : (least p q step : ℕ) → least ≤ p + 1 → (nat_le (p + step) q && nat_le least (q + 1)) ≡ nat_le (p + 1 + step) (q + 1)
dates_absorb least p q step h = grind (arith, nat_tests)

times_absorb : (least p q step : ℕ) → least ≤ p → (nat_le (p + 3 + step) (q + 3) && nat_le least q) ≡ nat_le (p + step) q
times_absorb least p q step h = grind (arith, nat_tests)

-- What follows if three tests succeed. The next lemmas are for two tests, and for tests that fail.
three_hold : (a b c : Bool) (found r : ℕ) (x y z : Reason) → (if a then (if b then (if c then Ok found else Err z) else Err y) else Err x) ≡ Ok r
    → (a ≡ true) × (b ≡ true) × (c ≡ true) × (found ≡ r)
three_hold true true true found r x y z is = (refl, refl, refl, cc)
three_hold true true false found r x y z is = absurd cc
three_hold true false c found r x y z is = absurd cc
three_hold false b c found r x y z is = absurd cc

three_fail : (a b c : Bool) (found : ℕ) (x y z e : Reason) → (if a then (if b then (if c then Ok found else Err z) else Err y) else Err x) ≡ Err e
    → ◌≡◌ {A = Result (Unit {0}) Reason} (if a then (if b then (if c then Ok tt else Err z) else Err y) else Err x) (Err e)
three_fail true true true found x y z e is = absurd cc
three_fail true true false found x y z e is = let same : z ≡ e = cc in rw same refl
three_fail true false c found x y z e is = let same : y ≡ e = cc in rw same refl
three_fail false b c found x y z e is = let same : x ≡ e = cc in rw same refl

two_hold : (a b : Bool) (found r : ℕ) (x y : Reason) → (if a then (if b then Ok found else Err y) else Err x) ≡ Ok r
    → (a ≡ true) × (b ≡ true) × (found ≡ r)
two_hold true true found r x y is = (refl, refl, cc)
two_hold true false found r x y is = absurd cc
two_hold false b found r x y is = absurd cc

two_fail : (a b : Bool) (found : ℕ) (x y e : Reason) → (if a then (if b then Ok found else Err y) else Err x) ≡ Err e
    → ◌≡◌ {A = Result (Unit {0}) Reason} (if a then (if b then Ok tt else Err y) else Err x) (Err e)
two_fail true true found x y e is = absurd cc
two_fail true false found x y e is = let same : y ≡ e = cc in rw same refl
two_fail false b found x y e is = let same : x ≡ e = cc in rw same refl

module _ (profile : Profile) (values : List ℕ) (least : ℕ) (dates : List Group) (has : HasDates profile values least dates) (n : Number) where
  numbers_with : slice_set (date_numbers dates) (rank (unit_of date n.next)) n.value ≡ date_numbers (date_group_of n ∷ dates)
  numbers_with = go (year_letter n.next) (month_letter n.next) (week_letter n.next)
    where
      go : (y m w : Bool) → let unit = if y then years else (if m then months else (if w then weeks else days)) in
          slice_set (date_numbers dates) (rank unit) n.value ≡ date_numbers (record { unit = unit; value = n.value; fraction = None } ∷ dates)
      go true m w = refl
      go false true w = refl
      go false false true = refl
      go false false false = refl

  small_with : nat_le n.value (greatest (unit_of date n.next)) ≡ true → AreSmall (date_group_of n ∷ dates)
  small_with = go (year_letter n.next) (month_letter n.next) (week_letter n.next)
    where
      go : (y m w : Bool) → let unit = if y then years else (if m then months else (if w then weeks else days)) in
          nat_le n.value (greatest unit) ≡ true → AreSmall (record { unit = unit; value = n.value; fraction = None } ∷ dates)
      go true m w is = (is, has.small.1, has.small.2)
      go false true w is = (has.small.0, is, has.small.2)
      go false false true is = (has.small.0, has.small.1, is)
      go false false false is = has.small

  -- A date group may follow, and is added.
  pub date_added : (r : ℕ) → date_rank_from least n ≡ Ok r
      → (date_read profile dates n ≡ Ok tt) × HasDates profile (slice_set values r n.value) (r + least_step profile) (date_group_of n ∷ dates)
  date_added r is =
      let p = three_hold (designator date n.next) (nat_le least (rank (unit_of date n.next))) (nat_le n.value (greatest (unit_of date n.next)))
      (rank (unit_of date n.next)) r reasons.DateGroupDigits reasons.DateUnitOrder reasons.DateUnitRange is in
      let high : least ≤ unit_index (unit_of date n.next) + 1 = rw (date_unit_index n.next) (below _ _ p.1) in (
        rw (p.0, has.follows n.next, p.1, p.2) refl,
        record {
          numbers = rw (← p.3, has.numbers) numbers_with;
          small = small_with p.2;
          follows = λ c. rw (← p.3, has.follows c, ← date_unit_index n.next, ← date_unit_index c) (dates_absorb _ _ _ (least_step profile) high);
        },
      )

  -- The group may not follow.
  pub date_refused : (e : Reason) → date_rank_from least n ≡ Err e → date_read profile dates n ≡ Err e
  date_refused e is = rw (has.follows n.next) (three_fail (designator date n.next) (nat_le least (rank (unit_of date n.next)))
      (nat_le n.value (greatest (unit_of date n.next))) (rank (unit_of date n.next))
      reasons.DateGroupDigits reasons.DateUnitOrder reasons.DateUnitRange e is)

module _ (profile : Profile) (values : List ℕ) (least : ℕ) (times : List Group) (has : HasTimes profile values least times) (g : TimeGroup) where
  times_with : slice_set (time_numbers times) (rank (unit_of time g.letter)) g.value ≡ time_numbers (time_group_of g ∷ times)
  times_with = go (hour_letter g.letter) (minute_letter g.letter)
    where
      go : (h m : Bool) → let unit = if h then hours else (if m then minutes else seconds) in
          slice_set (time_numbers times) (rank unit) g.value ≡ time_numbers (record { unit = unit; value = g.value; fraction = g.fraction } ∷ times)
      go true m = refl
      go false true = refl
      go false false = refl

  -- A time group may follow, and is added.
  pub time_added : (r : ℕ) → time_rank_from (digits_stop g.fraction) least g.letter ≡ Ok r
      → (time_read profile times g ≡ Ok tt) × (r ≡ rank (unit_of time g.letter))
      × HasTimes profile (slice_set values r g.value) (r + least_step profile) (time_group_of g ∷ times)
  time_added r is =
      let p = two_hold (designator time g.letter) (nat_le least (rank (unit_of time g.letter)))
      (rank (unit_of time g.letter)) r (digits_stop g.fraction) reasons.TimeUnitOrder is in
      let high : least ≤ rank (unit_of time g.letter) = below _ _ p.1 in (
        rw (p.0, has.follows g.letter, p.1) refl,
        sym p.2,
        record {
          numbers = rw (← p.2, has.numbers) times_with;
          follows = λ c. rw (← p.2, has.follows c, time_unit_index g.letter, time_unit_index c) (times_absorb _ _ _ (least_step profile) high);
        },
      )

  -- The group may not follow.
  pub time_refused : (e : Reason) → time_rank_from (digits_stop g.fraction) least g.letter ≡ Err e → time_read profile times g ≡ Err e
  time_refused e is = rw (has.follows g.letter) (two_fail (designator time g.letter) (nat_le least (rank (unit_of time g.letter)))
      (rank (unit_of time g.letter)) (digits_stop g.fraction) reasons.TimeUnitOrder e is)
