-- The canonical text of a duration stands for it.
use Rattle.std.proofs.Common.{ℕ, ◌+◌, ◌<◌, ◌≤◌, ◌≡◌, ◌^◌, IsTrue, Bool, true, false, cond, nat_eq, nat_le, ◌&&◌, List, [], ◌∷◌, ◌++◌, map, codes, Option, Some, None, refl}
use Rattle.std.proofs.{Common.{sym, ◌∙◌, ap, inl, inr, arith, append-nil, append_assoc, subst}, lemmas.{Bool.Decides.nat_tests, Fmt.decimal_digit}}
use Rattle.ixdtf_grammar.specs.declared.{profile.Profile.{Profile, TheVariants.{Crate, Strict}}, records.Sign.{Sign, TheVariants.{Positive, Negative}}}
use Rattle.ixdtf_grammar.specs.declared.records.{DurationParseRecord.DurationParseRecord, DateDurationRecord.DateDurationRecord}
use Rattle.ixdtf_grammar.specs.declared.records.TimeDurationRecord.{TimeDurationRecord, TheVariants.{Hours, Minutes, Seconds}}
use Rattle.ixdtf.specs.language.{Letters.{Text, Letter.Plain}, Fractions.FractionParts}
use Rattle.ixdtf.specs.language.Durations.{Half, Half.{date, time}, DurationUnit, DurationUnit.{years, months, weeks, days, hours, minutes, seconds}}
use Rattle.ixdtf.specs.language.Durations.{unit_index, same_unit, designator, unit_of, greatest, greatest_value, Group, IntegerGroup, may_follow, in_order}
use Rattle.ixdtf.specs.language.Durations.{Groups, SignedDesignator, TimeGroups, TimePart, AtLeastOne, number_of, date_duration, time_duration, IsDuration}
use Rattle.ixdtf_print.specs.{Canonical.{fraction_text, fraction_digits}, Spelled.HasDigits}
use Rattle.ixdtf_print.specs.Durations.{number_text, unit_text, date_units_text, has_no_unit, date_part_text, last_text, time_units_text, time_part_text}
use Rattle.ixdtf_print.specs.{Durations.{start_text, duration_text}, SpelledDurations.{AreDateUnits, HasDateUnits, AreTimeUnits, HasTimeUnits, HasPart, AreParts}}
use Rattle.ixdtf_print.proofs.{code.PlainNumbers.is_number, theorems.ReadBack.is_fraction}

-- ---- one more group

abbrev group_of : DurationUnit → ℕ → Option FractionParts → Group
group_of unit value fraction = record { unit = unit; value = value; fraction = fraction }

-- The groups, and after them a group of the duration unit if its number is not zero.
abbrev with_unit : DurationUnit → ℕ → List Group → List Group
with_unit unit value earlier = cond (nat_eq value 0) earlier (group_of unit value None ∷ earlier)

-- A duration unit can follow one with a smaller index, whether or not a unit may be repeated.
follows : (profile : Profile) (before after : DurationUnit) → IsTrue (nat_le (unit_index before + 1) (unit_index after)) → IsTrue (may_follow profile before after)
follows Crate before after h = grind (arith, nat_tests, h)
follows Strict before after h = h

in_order_with : (profile : Profile) (unit later : DurationUnit) (value : ℕ) (earlier : List Group) → IsTrue (may_follow profile unit later)
    → IsTrue (in_order profile earlier later) → IsTrue (in_order profile (with_unit unit value earlier) later)
in_order_with profile unit later value earlier f h = by_test (nat_eq value 0)
  where
    by_test : (b : Bool) → IsTrue (in_order profile (cond b earlier (group_of unit value None ∷ earlier)) later)
    by_test true = h
    by_test false = rw (f, h) refl

integer_group : (half : Half) (unit : DurationUnit) (value c : ℕ) → value < 2 ^ 64 → IsTrue (designator half c) → unit ≡ unit_of half c
    → IntegerGroup half (number_text value ++ (Plain c ∷ [])) (group_of unit value None)
integer_group half unit value c small ends is =
    record { ds = number_text value; c = c; is = refl; number = is_number value small; ends = ends; unit = is; fraction = refl }

more_groups : (profile : Profile) (half : Half) (unit : DurationUnit) (value c : ℕ) (before : Text) (earlier : List Group) → value ≤ greatest unit → value < 2 ^ 64
    → IsTrue (designator half c) → unit ≡ unit_of half c → Groups profile half before earlier → IsTrue (in_order profile earlier unit)
    → Groups profile half (before ++ unit_text value c) (with_unit unit value earlier)
more_groups profile half unit value c before earlier most small ends is groups order = by_test (nat_eq value 0)
  where
    by_test : (b : Bool) → Groups profile half (before ++ cond b [] (number_text value ++ (Plain c ∷ []))) (cond b earlier (group_of unit value None ∷ earlier))
    by_test true = rw (append-nil before) groups
    by_test false = (before, number_text value ++ (Plain c ∷ []), refl, groups, integer_group half unit value c small ends is, order, most)

number_of_same : (unit : DurationUnit) (value : ℕ) (earlier : List Group) → same_unit unit unit ≡ true → number_of unit earlier ≡ 0
    → number_of unit (with_unit unit value earlier) ≡ value
number_of_same unit value earlier same none = by_test (nat_eq value 0) refl
  where
    by_test : (b : Bool) → nat_eq value 0 ≡ b → number_of unit (cond b earlier (group_of unit value None ∷ earlier)) ≡ value
    by_test true h = let zero_value : value ≡ 0 = grind (arith, nat_tests, h) in none ∙ sym zero_value
    by_test false h = rw same refl

number_of_other : (unit other : DurationUnit) (value : ℕ) (earlier : List Group) → same_unit unit other ≡ false
    → number_of other (with_unit unit value earlier) ≡ number_of other earlier
number_of_other unit other value earlier different = by_test (nat_eq value 0)
  where
    by_test : (b : Bool) → number_of other (cond b earlier (group_of unit value None ∷ earlier)) ≡ number_of other earlier
    by_test true = refl
    by_test false = rw different refl

-- ---- dates

-- There are groups that stand for the date, if there is one.
abbrev DateGroups : Profile → Text → Option DateDurationRecord → Type 0
DateGroups profile text found = (groups : List Group) × Groups profile date text groups × (date_duration groups ≡ found)

abbrev to_years : DateDurationRecord → List Group
to_years found = with_unit years found.years []

abbrev to_months : DateDurationRecord → List Group
to_months found = with_unit months found.months (to_years found)

abbrev to_weeks : DateDurationRecord → List Group
to_weeks found = with_unit weeks found.weeks (to_months found)

abbrev to_days : DateDurationRecord → List Group
to_days found = with_unit days found.days (to_weeks found)

-- The text of the duration units of a date consists of one group for each unit that is not zero.
are_units : (profile : Profile) (found : DateDurationRecord) → AreDateUnits found → Groups profile date (date_units_text found) (to_days found)
unfolding date_units_text greatest_value
are_units profile found h =
    let no_order : (unit : DurationUnit) → IsTrue (in_order profile [] unit) = λ unit. refl in
    let years_before : (unit : DurationUnit) → IsTrue (may_follow profile years unit) → IsTrue (in_order profile (to_years found) unit)
    = λ unit f. in_order_with profile years unit found.years [] f refl in
    let months_before : (unit : DurationUnit) → IsTrue (may_follow profile years unit) → IsTrue (may_follow profile months unit)
    → IsTrue (in_order profile (to_months found) unit)
    = λ unit f g. in_order_with profile months unit found.months (to_years found) g (years_before unit f) in
    let at_years = more_groups profile date years found.years 89 [] [] (omega (arith, h.years)) (omega (arith, h.years)) refl refl refl refl in
    let at_months = more_groups profile date months found.months 77 _ (to_years found) (omega (arith, h.months)) (omega (arith, h.months)) refl refl at_years
    (years_before months (follows profile years months refl)) in
    let at_weeks = more_groups profile date weeks found.weeks 87 _ (to_months found) (omega (arith, h.weeks)) (omega (arith, h.weeks)) refl refl at_months
    (months_before weeks (follows profile years weeks refl) (follows profile months weeks refl)) in
    let at_days = more_groups profile date days found.days 68 _ (to_weeks found) (omega (arith, h.days)) (omega (arith, h.days)) refl refl at_weeks
    (in_order_with profile weeks days found.weeks (to_months found) (follows profile weeks days refl)
    (months_before days (follows profile years days refl) (follows profile months days refl))) in
    subst (λ t. Groups profile date t (to_days found)) (simp append_assoc) at_days

have_numbers : (groups : List Group) (found : DateDurationRecord) → number_of years groups ≡ found.years → number_of months groups ≡ found.months
    → number_of weeks groups ≡ found.weeks → number_of days groups ≡ found.days → has_no_unit found ≡ false → date_duration groups ≡ Some found
have_numbers [] found y m w d some =
    let none : has_no_unit found ≡ true = rw (← y, ← m, ← w, ← d) refl in absurd cc
have_numbers (g ∷ earlier) found y m w d some = λ i. Some (record { years = y i; months = m i; weeks = w i; days = d i })

units_stand : (found : DateDurationRecord) → has_no_unit found ≡ false → date_duration (to_days found) ≡ Some found
units_stand found some =
    have_numbers (to_days found) found
    (number_of_other days years found.days (to_weeks found) refl ∙ number_of_other weeks years found.weeks (to_months found) refl
    ∙ number_of_other months years found.months (to_years found) refl ∙ number_of_same years found.years [] refl refl)
    (number_of_other days months found.days (to_weeks found) refl ∙ number_of_other weeks months found.weeks (to_months found) refl
    ∙ number_of_same months found.months (to_years found) refl (number_of_other years months found.years [] refl))
    (number_of_other days weeks found.days (to_weeks found) refl
    ∙ number_of_same weeks found.weeks (to_months found) refl (number_of_other months weeks found.months (to_years found) refl
    ∙ number_of_other years weeks found.years [] refl))
    (number_of_same days found.days (to_weeks found) refl (number_of_other weeks days found.weeks (to_months found) refl
    ∙ number_of_other months days found.months (to_years found) refl ∙ number_of_other years days found.years [] refl))
    some

-- The text `0D` is one group.
no_days : (profile : Profile) → Groups profile date (map Plain (codes "0D")) (group_of days 0 None ∷ [])
unfolding greatest_value
no_days profile =
    let zero_days = integer_group date days 0 68 (omega arith) refl refl in
    let spelled : number_text 0 ++ (Plain 68 ∷ []) ≡ map Plain (codes "0D") = ap (λ (l : List ℕ). map Plain l ++ (Plain 68 ∷ [])) (decimal_digit 0 (omega arith)) in
    ([], map Plain (codes "0D"), refl, refl, subst (λ t. IntegerGroup date t (group_of days 0 None)) spelled zero_days, refl, omega arith)

is_zero : (n : ℕ) → IsTrue (nat_eq n 0) → 0 ≡ n
is_zero n h = grind (arith, nat_tests, h)

both_true : (a b : Bool) → a && b ≡ true → (a ≡ true) × (b ≡ true)
both_true true true h = (refl, refl)
both_true true false h = absurd cc
both_true false b h = absurd cc

all_zero : (found : DateDurationRecord) → has_no_unit found ≡ true → date_duration (group_of days 0 None ∷ []) ≡ Some found
all_zero found none =
    let three = both_true _ _ none in
    let two = both_true _ _ three.0 in
    let one = both_true _ _ two.0 in
    λ i. Some (record {
      years = is_zero found.years one.0 i;
      months = is_zero found.months one.1 i;
      weeks = is_zero found.weeks two.1 i;
      days = is_zero found.days three.1 i;
    })

of_date : (profile : Profile) (found : Option DateDurationRecord) → HasDateUnits found → DateGroups profile (date_part_text found) found
of_date profile None h = ([], refl, refl)
of_date profile (Some found) h = by_test (has_no_unit found) refl
  where
    by_test : (b : Bool) → has_no_unit found ≡ b → DateGroups profile (cond b (map Plain (codes "0D")) (date_units_text found)) (Some found)
    by_test true none = (group_of days 0 None ∷ [], no_days profile, all_zero found none)
    by_test false some = (to_days found, are_units profile found h, units_stand found some)

-- ---- times

-- The last group follows other groups.
last_group : (profile : Profile) (unit : DurationUnit) (value c : ℕ) (fraction : Option FractionParts) (before : Text) (earlier : List Group) → value ≤ greatest unit
    → value < 2 ^ 64 → IsTrue (designator time c) → unit ≡ unit_of time c → HasDigits fraction → Groups profile time before earlier
    → IsTrue (in_order profile earlier unit) → TimeGroups profile (before ++ last_text value fraction c) (group_of unit value fraction ∷ earlier)
unfolding last_text
last_group profile unit value c None before earlier most small ends is d groups order =
    inl (before, _, refl, groups, integer_group time unit value c small ends is, order, most)
last_group profile unit value c (Some fraction) before earlier most small ends is d groups order =
    inr (
      before,
      number_text value ++ (fraction_text (Some fraction) ++ (Plain c ∷ [])),
      refl,
      groups,
      record {
        ds = number_text value;
        fs = Plain 46 ∷ fraction_digits fraction;
        c = c;
        parts = fraction;
        is = refl;
        number = is_number value small;
        is_fraction = is_fraction fraction d;
        ends = ends;
        unit = is;
        fraction = refl;
      },
      order,
    )

-- There are groups that stand for the time.
abbrev TimesOf : Profile → TimeDurationRecord → Type 0
TimesOf profile found = (groups : List Group) × TimeGroups profile (time_units_text found) groups × (time_duration groups ≡ Some found)

of_units : (profile : Profile) (found : TimeDurationRecord) → AreTimeUnits found → TimesOf profile found
unfolding greatest_value
of_units profile (Hours h fraction) at =
    (group_of hours h fraction ∷ [], last_group profile hours h 72 fraction [] [] (omega (arith, at.0)) at.0 refl refl at.1 refl refl, refl)
of_units profile (Minutes h m fraction) at =
    let before = with_unit hours h [] in
    let at_hours = more_groups profile time hours h 72 [] [] (omega (arith, at.0)) at.0 refl refl refl refl in
    let order = in_order_with profile hours minutes h [] (follows profile hours minutes refl) refl in (
      group_of minutes m fraction ∷ before,
      last_group profile minutes m 77 fraction (unit_text h 72) before (omega (arith, at.1)) at.1 refl refl at.2 at_hours order,
      ap (λ n. Some (Minutes n m fraction)) (number_of_same hours h [] refl refl),
    )
of_units profile (Seconds h m s fraction) at =
    let to_hours = with_unit hours h [] in
    let to_minutes = with_unit minutes m to_hours in
    let at_hours = more_groups profile time hours h 72 [] [] (omega (arith, at.0)) at.0 refl refl refl refl in
    let hours_before : (unit : DurationUnit) → IsTrue (may_follow profile hours unit) → IsTrue (in_order profile to_hours unit)
    = λ unit f. in_order_with profile hours unit h [] f refl in
    let at_minutes = more_groups profile time minutes m 77 (unit_text h 72) to_hours (omega (arith, at.1)) at.1 refl refl at_hours
    (hours_before minutes (follows profile hours minutes refl)) in
    let order = in_order_with profile minutes seconds m to_hours (follows profile minutes seconds refl) (hours_before seconds (follows profile hours seconds refl)) in
    let whole = last_group profile seconds s 83 fraction (unit_text h 72 ++ unit_text m 77) to_minutes (omega (arith, at.2)) at.2 refl refl at.3 at_minutes order in
    let h_is = number_of_other minutes hours m to_hours refl ∙ number_of_same hours h [] refl refl in
    let m_is = number_of_same minutes m to_hours refl (number_of_other hours minutes h [] refl) in (
      group_of seconds s fraction ∷ to_minutes,
      subst (λ t. TimeGroups profile t (group_of seconds s fraction ∷ to_minutes)) (simp append_assoc) whole,
      λ i. Some (Seconds (h_is i) (m_is i) s fraction),
    )

of_time : (profile : Profile) (found : Option TimeDurationRecord) → HasTimeUnits found
    → (groups : List Group) × TimePart profile (time_part_text found) groups × (time_duration groups ≡ found)
of_time profile None h = ([], inl (refl, refl), refl)
of_time profile (Some found) h = let whole = of_units profile found h in (whole.0, inr (84, time_units_text found, refl, refl, whole.1), whole.2)

-- ---- the complete duration

is_start : (s : Sign) → SignedDesignator (start_text s) s
is_start Positive = inl ((80, refl, refl), refl)
is_start Negative = inr (45, Plain 80 ∷ [], refl, refl, (80, refl, refl), refl)

at_least_one : (dates times : List Group) (d : Option DateDurationRecord) (t : Option TimeDurationRecord) → date_duration dates ≡ d → time_duration times ≡ t
    → HasPart d t → AtLeastOne dates times
at_least_one [] [] d t is_date is_time h = rw (← is_date, ← is_time) at h
at_least_one [] (g ∷ times) d t is_date is_time h = tt
at_least_one (g ∷ dates) times d t is_date is_time h = tt

pub duration_reads_back : (profile : Profile) (duration : DurationParseRecord) → AreParts duration.date duration.time → IsDuration profile (duration_text duration) duration
unfolding duration_text
duration_reads_back profile duration h =
    let dates = of_date profile duration.date h.date in
    let times = of_time profile duration.time h.time in
    record {
      start = start_text duration.sign;
      date_text = date_part_text duration.date;
      time_text = time_part_text duration.time;
      sign = duration.sign;
      dates = dates.0;
      times = times.0;
      is = refl;
      is_start = is_start duration.sign;
      are_dates = dates.1;
      are_times = times.1;
      least = at_least_one dates.0 times.0 duration.date duration.time dates.2 times.2 h.part;
      value = λ i. record { sign = duration.sign; date = sym dates.2 i; time = sym times.2 i };
    }
