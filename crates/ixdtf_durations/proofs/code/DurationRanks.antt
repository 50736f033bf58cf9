-- The ranks of duration units: how great they are in their tables, and what a rank says about a code unit.
use Rattle.std.proofs.Common.{◌≡◌, ℕ, ◌+◌, ◌<◌, ◌≤◌, Bool, true, false, nat_le, if◌then◌else◌, refl, arith}
use Rattle.std.proofs.lemmas.Bool.Decides.{nat_tests}
use Rattle.ixdtf_grammar.specs.language.{Letters.{year_letter, month_letter, week_letter, hour_letter, minute_letter}, Durations.{Half, unit_of, unit_index}}
use Rattle.ixdtf_grammar.specs.language.Durations.{Half.{date, time}, DurationUnit.{years, months, weeks, days, hours, minutes, seconds}}
use Rattle.ixdtf_durations.specs.reading.DurationClauses.{rank, rank_seen}
use Rattle.ixdtf_reading.proofs.code.Tables.{agree_below, agree_at}

-- ---- the tables

pub below : (a b : ℕ) → nat_le a b ≡ true → a ≤ b
below a b is = grind (arith, nat_tests)

-- Every rank of a half is at most `most`, if a computation over all bytes shows it.
pub rank_small : (half : Half) (most : ℕ) → agree_below (λ c. nat_le (rank_seen half c) most) (λ c. true) 256 ≡ true
    → (c : ℕ) → c < 256 → rank_seen half c ≤ most
rank_small half most agrees c lt = below _ _ (agree_at (λ c. nat_le (rank_seen half c) most) (λ c. true) 256 agrees c lt)

-- ---- indices

-- The index of a duration unit, by its rank.
pub date_unit_index : (c : ℕ) → unit_index (unit_of date c) + 1 ≡ rank (unit_of date c)
date_unit_index c = go (year_letter c) (month_letter c) (week_letter c)
  where
    go : (y m w : Bool) → unit_index (if y then years else (if m then months else (if w then weeks else days))) + 1
        ≡ rank (if y then years else (if m then months else (if w then weeks else days)))
    go true m w = refl
    go false true w = refl
    go false false true = refl
    go false false false = refl

pub time_unit_index : (c : ℕ) → unit_index (unit_of time c) ≡ rank (unit_of time c) + 3
time_unit_index c = go (hour_letter c) (minute_letter c)
  where
    go : (h m : Bool) → unit_index (if h then hours else (if m then minutes else seconds)) ≡ rank (if h then hours else (if m then minutes else seconds)) + 3
    go true m = refl
    go false true = refl
    go false false = refl
