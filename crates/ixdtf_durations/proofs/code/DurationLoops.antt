-- The groups of a duration, read one by one.
use Rattle.ixdtf_grammar.specs.declared.reason.Reason.{Reason}
use Rattle.ixdtf_grammar.specs.declared.reason.Reason.TheVariants as reasons
use Rattle.std.proofs.Common.{◌≡◌, ℕ, Bool, true, false, [], ◌∷◌, List, ◌+◌, slice_set, drop, map, Option, Some, None, IsSome, Ok, Err, refl, ◌∙◌}
use Rattle.ixdtf_grammar.specs.declared.{profile.Profile.Profile, records.{Sign.Sign, DurationParseRecord.DurationParseRecord}}
use Rattle.ixdtf_grammar.specs.declared.records.{TimeDurationRecord.TimeDurationRecord, DateDurationRecord.DateDurationRecord}
use Rattle.ixdtf_grammar.specs.language.{Letters.{Letter, Text, digit, time_letter, Letter.Plain}, Fractions.FractionParts}
use Rattle.ixdtf_grammar.specs.{language.Durations.{Group, unit_of, least_step, date_duration, time_duration_to, Half.{date, time}}, table.DurationFronts.Context.{in_dates, in_times}}
use Rattle.ixdtf_durations.specs.{declared.{group_numbers.Number.Number, time_groups.TimeGroup.TimeGroup}, reading.DurationClauses.{run_from, run_where, date_group_of}}
use Rattle.ixdtf_durations.specs.reading.DurationClauses.{time_group_of, rank, date_rank_from, time_rank_from, digits_stop, behind_unit, date_read, after_group}
use Rattle.ixdtf_durations.specs.reading.DurationClauses.{after_time_group, HasSmallDates, IsDateRecord, IsTimeRecord, AreDates, dated}
use Rattle.ixdtf_durations.proofs.code.{DurationRanks.below, DurationGroups.{HasDates, HasTimes, date_added, date_refused, time_added, time_refused}}
use Rattle.ixdtf_durations.proofs.code.DurationSteps.{fails, at_digit, dates_end, dates_at_mark, dates_at_other, times_end, fraction_end, more_times_at_other}
use Rattle.ixdtf_durations.proofs.code.DurationSteps.{fraction_at_other}
use Rattle.ixdtf_reading.specs.{reading.{Looks.{Placed, Read, seen}, Durations.State.{between, in_number}}}

-- ---- dates

module _ (profile : Profile) (first : ℕ) (whole : Text) where
  -- The result of reading from the first digit of the date groups on.
  abbrev first_dates : Sign → Read Placed DurationParseRecord
  first_dates s = run_from profile (in_number (in_dates s []) (Plain first ∷ [])) whole

  -- The state of the loop: date groups were read, and the first digit of one more.
  pub record DatesSoFar (rest : Text) (values : List ℕ) (least c : ℕ) : Type 0 where
    pub dates : List Group
    pub has : HasDates profile values least dates
    pub leads : (s : Sign) → first_dates s ≡ run_from profile (in_number (in_dates s dates) (Plain c ∷ [])) rest

  -- The state after a group: at least one date group was read.
  pub record DatesRead (rest : Text) (values : List ℕ) (least : ℕ) : Type 0 where
    pub last : Group
    pub earlier : List Group
    pub has : HasDates profile values least (last ∷ earlier)
    pub leads : (s : Sign) → first_dates s ≡ run_from profile (between (in_dates s (last ∷ earlier))) rest

  -- One more date group: its digits, and the text after the letter of its unit, or at another code unit.
  module _ {rest : Text} {values : List ℕ} {least c : ℕ} (far : DatesSoFar rest values least c) (n : Number) (mid next : Text)
      (read : (s : Sign) (dates : List Group) → run_from profile (in_number (in_dates s dates) (Plain c ∷ [])) rest
      ≡ run_where profile (date_read profile dates n) (between (in_dates s (date_group_of n ∷ dates))) (behind_unit date n.next mid))
      (moved : next ≡ behind_unit date n.next mid) where
    pub date_added_on : (r step : ℕ) → date_rank_from least n ≡ Ok r → step ≡ least_step profile → DatesRead next (slice_set values r n.value) (r + step)
    date_added_on r step is stepped = let added = date_added profile values least far.dates far.has n r is in record {
      last = date_group_of n;
      earlier = far.dates;
      has = rw stepped added.1;
      leads = λ s. far.leads s ∙ read s far.dates ∙ rw (added.0, moved) refl;
    }

    pub date_refused_on : (stop : Reason) → date_rank_from least n ≡ Err stop → (s : Sign) → first_dates s ≡ Err (stop, next)
    date_refused_on stop is s = far.leads s ∙ read s far.dates ∙ rw (date_refused profile values least far.dates far.has n stop is, moved) refl

  module _ {rest : Text} {values : List ℕ} {least : ℕ} (far : DatesRead rest values least) where
    pub dates_small : HasSmallDates values
    dates_small = rw far.has.numbers (below _ _ far.has.small.0, below _ _ far.has.small.1, below _ _ far.has.small.2)

    pub dates_go_on : (stop : Reason) (next : Text) (c : ℕ) → seen stop rest ≡ Ok (Some c) → digit c ≡ true → next ≡ drop 1 rest
        → DatesSoFar next values least c
    dates_go_on stop next c found is moved = record {
      dates = far.last ∷ far.earlier;
      has = far.has;
      leads = λ s. far.leads s ∙ at_digit profile rest stop c found _ is ∙ rw moved refl;
    }

    pub dates_stop : (stop : Reason) (c : ℕ) → seen stop rest ≡ Ok (Some c) → digit c ≡ false → time_letter c ≡ false
        → (s : Sign) → first_dates s ≡ Err (reasons.AfterDateGroups, rest)
    dates_stop stop c found miss nor s = far.leads s ∙ dates_at_other profile rest stop c found s _ miss nor

    pub dates_break : (fault : Placed) → seen reasons.AfterDateGroups rest ≡ Err fault → (s : Sign) → first_dates s ≡ Err fault
    dates_break fault bad s = far.leads s ∙ fails _ _ rest fault bad

    module _ (letter : ℕ → Letter) (old : List ℕ) (is_whole : whole ≡ map letter old) (new : List ℕ) (found : DateDurationRecord)
        (is : IsDateRecord values found) where
      record_is : date_duration (far.last ∷ far.earlier) ≡ Some found
      record_is = is far.last far.earlier far.has.numbers

      pub dates_timed : (stop : Reason) (c : ℕ) → seen stop rest ≡ Ok (Some c) → time_letter c ≡ true → map letter new ≡ drop 1 rest
          → AreDates profile letter first old (record { «record» = found; timed = true }) new
      dates_timed stop c looked mark moved = record {
        groups = far.last ∷ far.earlier;
        has = record_is;
        timed = λ yes s. rw (← is_whole, moved) (far.leads s ∙ dates_at_mark profile rest stop c looked s _ mark);
        untimed = λ never. absurd cc;
      }

      pub dates_alone : (stop : Reason) → seen stop rest ≡ Ok None → map letter new ≡ rest
          → AreDates profile letter first old (record { «record» = found; timed = false }) new
      dates_alone stop none stayed = record {
        groups = far.last ∷ far.earlier;
        has = record_is;
        timed = λ never. absurd cc;
        untimed = λ yes s. rw (← is_whole, stayed) (far.leads s ∙ dates_end profile rest stop none s far.last far.earlier ∙ rw record_is refl);
      }

-- ---- times

-- The `Reason` after a time group.
abbrev pub stop_behind : Option FractionParts → Reason
stop_behind None = reasons.AfterTimeGroups
stop_behind (Some fraction) = reasons.AfterFractionGroup

-- The two `Reason`s of a group with a fraction.
pub fraction_digits_stop : (fraction : Option FractionParts) → IsSome fraction → digits_stop fraction ≡ reasons.GroupFractionDigits
fraction_digits_stop None some = absurd cc
fraction_digits_stop (Some fraction) some = refl

pub fraction_stop_behind : (fraction : Option FractionParts) → IsSome fraction → stop_behind fraction ≡ reasons.AfterFractionGroup
fraction_stop_behind None some = absurd cc
fraction_stop_behind (Some fraction) some = refl

module _ (profile : Profile) (first : ℕ) (whole : Text) where
  -- The result of reading from the first digit of the time groups on.
  abbrev first_times : Sign → List Group → Read Placed DurationParseRecord
  first_times s dates = run_from profile (in_number (in_times s dates []) (Plain first ∷ [])) whole

  -- The state of the loop: time groups were read, and the first digit of one more.
  pub record TimesSoFar (rest : Text) (values : List ℕ) (least c : ℕ) : Type 0 where
    pub times : List Group
    pub has : HasTimes profile values least times
    pub leads : (s : Sign) (dates : List Group) → first_times s dates ≡ run_from profile (in_number (in_times s dates times) (Plain c ∷ [])) rest

  -- The state after a group: time groups were read, and `g` is the last of them.
  pub record TimesRead (rest : Text) (values : List ℕ) (least : ℕ) (g : TimeGroup) (r : ℕ) : Type 0 where
    pub earlier : List Group
    pub has : HasTimes profile values least (time_group_of g ∷ earlier)
    pub ranked : r ≡ rank (unit_of time g.letter)
    pub leads : (s : Sign) (dates : List Group) → first_times s dates ≡ run_from profile (after_group g.fraction s dates earlier (time_group_of g)) rest

  -- One more time group up to the letter of its unit, and the text after this letter, or at another code unit.
  module _ {rest : Text} {values : List ℕ} {least c : ℕ} (far : TimesSoFar rest values least c) (g : TimeGroup) (mid next : Text)
      (read : (s : Sign) (dates times : List Group) → run_from profile (in_number (in_times s dates times) (Plain c ∷ [])) rest
      ≡ after_time_group profile s dates times g mid)
      (moved : next ≡ behind_unit time g.letter mid) where
    pub time_added_on : (digits : Reason) (r step : ℕ) → digits_stop g.fraction ≡ digits → time_rank_from digits least g.letter ≡ Ok r → step ≡ least_step profile
        → TimesRead next (slice_set values r g.value) (r + step) g r
    time_added_on digits r step at is stepped = let added = time_added profile values least far.times far.has g r (rw at is) in record {
      earlier = far.times;
      has = rw stepped added.2;
      ranked = added.1;
      leads = λ s dates. far.leads s dates ∙ read s dates far.times ∙ rw (added.0, moved) refl;
    }

    pub time_refused_on : (digits stop : Reason) → digits_stop g.fraction ≡ digits → time_rank_from digits least g.letter ≡ Err stop
        → (s : Sign) (dates : List Group) → first_times s dates ≡ Err (stop, next)
    time_refused_on digits stop at is s dates =
        far.leads s dates ∙ read s dates far.times ∙ rw (time_refused profile values least far.times far.has g stop (rw at is), moved) refl

  module _ {rest : Text} {values : List ℕ} {least : ℕ} {g : TimeGroup} {r : ℕ} (far : TimesRead rest values least g r) where
    pub times_go_on : (stop : Reason) (next : Text) (c : ℕ) → seen stop rest ≡ Ok (Some c) → digit c ≡ true → g.fraction ≡ None → next ≡ drop 1 rest
        → TimesSoFar next values least c
    times_go_on stop next c found is none moved = record {
      times = time_group_of g ∷ far.earlier;
      has = far.has;
      leads = λ s dates. far.leads s dates ∙ go s dates g.fraction none ∙ rw moved refl;
    }
      where
        go : (s : Sign) (dates : List Group) (fraction : Option FractionParts) → fraction ≡ None
            → run_from profile (after_group fraction s dates far.earlier (time_group_of g)) rest
            ≡ run_from profile (in_number (in_times s dates (time_group_of g ∷ far.earlier)) (Plain c ∷ [])) (drop 1 rest)
        go s dates None without = at_digit profile rest stop c found (in_times s dates (time_group_of g ∷ far.earlier)) is
        go s dates (Some fraction) without = absurd cc

    pub times_stop : (looked : Reason) (stop : Reason) (c : ℕ) → stop_behind g.fraction ≡ stop → seen looked rest ≡ Ok (Some c)
        → (digit c ≡ true → g.fraction ≡ None → ⊥) → (s : Sign) (dates : List Group) → first_times s dates ≡ Err (stop, rest)
    times_stop looked stop c at found never s dates = far.leads s dates ∙ go g.fraction refl (digit c) refl ∙ rw at refl
      where
        go : (fraction : Option FractionParts) → g.fraction ≡ fraction → (b : Bool) → digit c ≡ b
            → run_from profile (after_group fraction s dates far.earlier (time_group_of g)) rest ≡ Err (stop_behind fraction, rest)
        go None none true is = absurd (never is none)
        go None none false is = more_times_at_other profile rest looked c found s dates (time_group_of g) far.earlier is
        go (Some fraction) some b is = fraction_at_other profile rest looked c found s dates far.earlier (time_group_of g)

    pub times_break : (stop : Reason) (fault : Placed) → stop_behind g.fraction ≡ stop → seen stop rest ≡ Err fault
        → (s : Sign) (dates : List Group) → first_times s dates ≡ Err fault
    times_break stop fault at bad s dates = far.leads s dates ∙ go g.fraction (rw at bad)
      where
        go : (fraction : Option FractionParts) → seen (stop_behind fraction) rest ≡ Err fault
            → run_from profile (after_group fraction s dates far.earlier (time_group_of g)) rest ≡ Err fault
        go None fails_here = fails _ _ rest fault fails_here
        go (Some fraction) fails_here = fails _ _ rest fault fails_here

    pub times_end_with : (stop : Reason) (found : TimeDurationRecord) → seen stop rest ≡ Ok None → IsTimeRecord values r g.fraction found
        → (s : Sign) (dates : List Group) → first_times s dates ≡ Ok (dated s (date_duration dates) (Some found), rest)
    times_end_with stop found none is s dates =
        far.leads s dates ∙ go g.fraction ∙ rw (is g.letter (time_group_of g ∷ far.earlier) far.ranked far.has.numbers) refl
      where
        go : (fraction : Option FractionParts)
            → run_from profile (after_group fraction s dates far.earlier (time_group_of g)) rest
            ≡ Ok (dated s (date_duration dates) (time_duration_to (unit_of time g.letter) g.fraction (time_group_of g ∷ far.earlier)), rest)
        go None = times_end profile rest stop none s dates (time_group_of g) far.earlier
        go (Some fraction) = fraction_end profile rest stop none s dates far.earlier (time_group_of g)
