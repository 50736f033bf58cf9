-- A duration that is derived from a text has a canonical text, which is at most as long as the text.
use Rattle.std.proofs.Common.{ℕ, suc, ◌+◌, ◌<◌, ◌≤◌, ◌≡◌, ◌^◌, IsTrue, Bool, true, false, cond, nat_eq, nat_le, List, [], ◌∷◌, ◌++◌, length, map, codes, Option, Some, None, refl}
use Rattle.std.proofs.{Common.{sym, ◌∙◌, ap, inl, inr, arith}, lemmas.{Bool.Decides.nat_tests, List.length-append}}
use Rattle.ixdtf_grammar.specs.declared.{profile.Profile.{Profile}, records.Sign.{Sign, TheVariants.{Positive, Negative}}}
use Rattle.ixdtf_grammar.specs.declared.records.{DurationParseRecord.DurationParseRecord, DateDurationRecord.DateDurationRecord}
use Rattle.ixdtf_grammar.specs.declared.records.TimeDurationRecord.{TimeDurationRecord}
use Rattle.ixdtf.specs.language.{Letters.{Letter, Text, hour_letter, minute_letter, Letter.Plain}, Fractions.FractionParts}
use Rattle.ixdtf.specs.language.Durations.{Half, Half.{date, time}, DurationUnit, DurationUnit.{years, months, weeks, days, hours, minutes, seconds}}
use Rattle.ixdtf.specs.language.Durations.{unit_index, same_unit, unit_of, greatest, greatest_value, Number, Group, IntegerGroup, FractionGroup}
use Rattle.ixdtf.specs.language.Durations.{Groups, SignedDesignator, TimeGroups, TimePart, AtLeastOne, number_of, date_duration, time_duration, IsDuration}
use Rattle.ixdtf_print.specs.{Canonical.fraction_text, Spelled.HasDigits}
use Rattle.ixdtf_print.specs.Durations.{number_text, unit_text, date_units_text, has_no_unit, date_part_text, last_text, time_units_text, time_part_text}
use Rattle.ixdtf_print.specs.{Durations.{start_text, duration_text}, SpelledDurations.{AreDateUnits, HasDateUnits, AreTimeUnits, HasTimeUnits, HasPart, AreParts}}
use Rattle.ixdtf_grammar.proofs.theorems.CoreSizes.{digits_long}
use Rattle.ixdtf_print.proofs.{code.PlainNumbers.no_longer, parts.DerivedDates.of_fraction}

-- ---- numbers and units

-- Without leading zeros, a number is at most as long as its digits, and it has at least one digit.
of_number : (text : Text) (n : ℕ) → Number text n → (n < 2 ^ 64) × (length (number_text n) ≤ length text) × (1 ≤ length text)
unfolding greatest_value
of_number text n h =
    let small : n < 2 ^ 64 = omega (arith, h.2) in
    let long = digits_long (suc h.0.0) text h.0.1 in
    (small, omega (arith, long, no_longer h.0.0 n text h.0.1 h.1 small), omega (arith, long))

pub unit_most : (n c : ℕ) → length (unit_text n c) ≤ length (number_text n) + 1
unit_most n c = by_test (nat_eq n 0)
  where
    by_test : (b : Bool) → length (cond b [] (number_text n ++ (Plain c ∷ []))) ≤ length (number_text n) + 1
    by_test true = omega arith
    by_test false = omega (arith, length-append (number_text n) (Plain c ∷ []))

-- The index of a duration unit gives an upper bound of its numbers.
greatest_at : (unit : DurationUnit) → greatest unit ≡ cond (nat_le (unit_index unit) 2) 4294967295 greatest_value
greatest_at years = refl
greatest_at months = refl
greatest_at weeks = refl
greatest_at days = refl
greatest_at hours = refl
greatest_at minutes = refl
greatest_at seconds = refl

same_greatest : (a b : DurationUnit) → same_unit a b ≡ true → greatest a ≡ greatest b
same_greatest a b h =
    let here : unit_index a ≡ unit_index b = grind (arith, nat_tests, h) in
    greatest_at a ∙ ap (λ p. cond (nat_le p 2) 4294967295 greatest_value) here ∙ sym (greatest_at b)

number_in_range : (profile : Profile) (half : Half) (unit : DurationUnit) (text : Text) (groups : List Group) → Groups profile half text groups
    → number_of unit groups ≤ greatest unit
number_in_range profile half unit text [] h = omega arith
number_in_range profile half unit text (g ∷ earlier) h = by_test (same_unit g.unit unit) refl (number_in_range profile half unit h.0 earlier h.3)
  where
    by_test : (b : Bool) → same_unit g.unit unit ≡ b → number_of unit earlier ≤ greatest unit → cond b g.value (number_of unit earlier) ≤ greatest unit
    by_test true same before = omega (arith, h.6, same_greatest g.unit unit same)
    by_test false different before = before

-- ---- the lengths of the units

abbrev dates_long : List Group → ℕ
dates_long groups = length (unit_text (number_of years groups) 89) + length (unit_text (number_of months groups) 77)
    + length (unit_text (number_of weeks groups) 87) + length (unit_text (number_of days groups) 68)

abbrev times_long : List Group → ℕ
times_long groups = length (unit_text (number_of hours groups) 72) + length (unit_text (number_of minutes groups) 77)

abbrev group_of : DurationUnit → ℕ → Option FractionParts → Group
group_of unit value fraction = record { unit = unit; value = value; fraction = fraction }

one_date_more : (unit : DurationUnit) (value : ℕ) (fraction : Option FractionParts) (earlier : List Group)
    → dates_long (group_of unit value fraction ∷ earlier) ≤ dates_long earlier + length (number_text value) + 1
one_date_more years value fraction earlier = omega (arith, unit_most value 89)
one_date_more months value fraction earlier = omega (arith, unit_most value 77)
one_date_more weeks value fraction earlier = omega (arith, unit_most value 87)
one_date_more days value fraction earlier = omega (arith, unit_most value 68)
one_date_more hours value fraction earlier = omega arith
one_date_more minutes value fraction earlier = omega arith
one_date_more seconds value fraction earlier = omega arith

one_time_more : (unit : DurationUnit) (value : ℕ) (fraction : Option FractionParts) (earlier : List Group)
    → times_long (group_of unit value fraction ∷ earlier) ≤ times_long earlier + length (number_text value) + 1
one_time_more hours value fraction earlier = omega (arith, unit_most value 72)
one_time_more minutes value fraction earlier = omega (arith, unit_most value 77)
one_time_more seconds value fraction earlier = omega arith
one_time_more years value fraction earlier = omega arith
one_time_more months value fraction earlier = omega arith
one_time_more weeks value fraction earlier = omega arith
one_time_more days value fraction earlier = omega arith

of_group : (half : Half) (text : Text) (g : Group) → IntegerGroup half text g → (length (number_text g.value) + 1 ≤ length text) × (2 ≤ length text)
of_group half text g h =
    let number = of_number h.ds g.value h.number in
    rw h.is (omega (arith, number.1, length-append {A = Letter}), omega (arith, number.2, length-append {A = Letter}))

-- If one more group raises a measure of groups by at most the length of the group, the measure is at most the length of the text.
groups_long : (profile : Profile) (half : Half) (long : List Group → ℕ)
    → ((unit : DurationUnit) (value : ℕ) (fraction : Option FractionParts) (earlier : List Group)
    → long (group_of unit value fraction ∷ earlier) ≤ long earlier + length (number_text value) + 1)
    → long [] ≤ 0 → (text : Text) (groups : List Group) → Groups profile half text groups → long groups ≤ length text
groups_long profile half long more none text [] h = omega arith
groups_long profile half long more none text (g ∷ earlier) h =
    let before = groups_long profile half long more none h.0 earlier h.3 in
    let last = of_group half h.1 g h.4 in
    rw h.2 (omega (arith, before, last.0, more g.unit g.value g.fraction earlier, length-append h.0 h.1))

-- ---- dates

pub units_long : (found : DateDurationRecord) → length (date_units_text found)
    ≡ length (unit_text found.years 89) + length (unit_text found.months 77) + length (unit_text found.weeks 87) + length (unit_text found.days 68)
unfolding date_units_text
units_long found = omega (arith, length-append {A = Letter})

pub some_units_long : (found : DateDurationRecord) → has_no_unit found ≡ false → length (date_part_text (Some found))
    ≡ length (unit_text found.years 89) + length (unit_text found.months 77) + length (unit_text found.weeks 87) + length (unit_text found.days 68)
some_units_long found some = rw some (units_long found)

pub part_long : (found : DateDurationRecord) (most : ℕ) → 2 ≤ most → length (date_units_text found) ≤ most → length (date_part_text (Some found)) ≤ most
part_long found most two all = by_test (has_no_unit found)
  where
    by_test : (b : Bool) → length (cond b (map Plain (codes "0D")) (date_units_text found)) ≤ most
    by_test true = two
    by_test false = all

-- The duration units of one or more groups.
abbrev units_of : List Group → DateDurationRecord
units_of groups = record {
  years = number_of years groups;
  months = number_of months groups;
  weeks = number_of weeks groups;
  days = number_of days groups;
}

in_ranges : (profile : Profile) (text : Text) (groups : List Group) → Groups profile date text groups → AreDateUnits (units_of groups)
unfolding greatest_value
in_ranges profile text groups h = record {
  years = omega (arith, number_in_range profile date years text groups h);
  months = omega (arith, number_in_range profile date months text groups h);
  weeks = omega (arith, number_in_range profile date weeks text groups h);
  days = omega (arith, number_in_range profile date days text groups h);
}

of_dates : (profile : Profile) (text : Text) (groups : List Group) → Groups profile date text groups
    → HasDateUnits (date_duration groups) × (length (date_part_text (date_duration groups)) ≤ length text)
of_dates profile text [] h = (tt, omega arith)
of_dates profile text (g ∷ earlier) h =
    let found = units_of (g ∷ earlier) in
    let last = of_group date h.1 g h.4 in
    let two : 2 ≤ length text = rw h.2 (omega (arith, last.1, length-append h.0 h.1)) in
    let all = groups_long profile date dates_long one_date_more (omega arith) text (g ∷ earlier) h in
    (in_ranges profile text (g ∷ earlier) h, part_long found (length text) two (omega (arith, units_long found, all)))

-- ---- times

abbrev IsTimeUnit : DurationUnit → Type 0
IsTimeUnit unit = IsTrue (nat_le 4 (unit_index unit))

time_unit : (c : ℕ) → IsTimeUnit (unit_of time c)
time_unit c = by_test (hour_letter c) (minute_letter c)
  where
    by_test : (h m : Bool) → IsTimeUnit (cond h hours (cond m minutes seconds))
    by_test true m = refl
    by_test false true = refl
    by_test false false = refl

-- The group is the last one of a time, and the text is its text.
record IsLast (text : Text) (g : Group) : Type 0 where
  unit : IsTimeUnit g.unit
  value : g.value < 2 ^ 64
  fraction : HasDigits g.fraction
  long : length (number_text g.value) + length (fraction_text g.fraction) + 1 ≤ length text

of_integer : (text : Text) (g : Group) → IntegerGroup time text g → IsLast text g
of_integer text g h =
    let number = of_number h.ds g.value h.number in
    record {
      unit = rw h.unit (time_unit h.c);
      value = number.0;
      fraction = rw h.fraction tt;
      long = rw (h.fraction, h.is) (omega (arith, number.1, length-append {A = Letter}));
    }

of_fraction_group : (text : Text) (g : Group) → FractionGroup text g → IsLast text g
of_fraction_group text g h =
    let number = of_number h.ds g.value h.number in
    let part = of_fraction h.fs h.parts h.is_fraction in
    record {
      unit = rw h.unit (time_unit h.c);
      value = number.0;
      fraction = rw h.fraction part.0;
      long = rw (h.fraction, h.is) (omega (arith, number.1, part.1, length-append {A = Letter}));
    }

pub last_long : (value : ℕ) (fraction : Option FractionParts) (c : ℕ)
    → length (last_text value fraction c) ≡ length (number_text value) + length (fraction_text fraction) + 1
unfolding last_text
last_long value fraction c = omega (arith, length-append {A = Letter})

-- There is a time, and the text of its duration units has at most `most` code units.
abbrev IsTimed : ℕ → Option TimeDurationRecord → Type 0
IsTimed most None = ⊥
IsTimed most (Some found) = AreTimeUnits found × (length (time_units_text found) ≤ most)

small_number : (profile : Profile) (unit : DurationUnit) (text : Text) (groups : List Group) → Groups profile time text groups → greatest unit ≡ greatest_value
    → number_of unit groups < 2 ^ 64
unfolding greatest_value
small_number profile unit text groups h is = omega (arith, number_in_range profile time unit text groups h, is)

of_last : (profile : Profile) (before last : Text) (unit : DurationUnit) (value : ℕ) (fraction : Option FractionParts) (earlier : List Group)
    → Groups profile time before earlier → IsLast last (group_of unit value fraction)
    → IsTimed (length before + length last) (time_duration (group_of unit value fraction ∷ earlier))
of_last profile before last hours value fraction earlier groups l =
    ((l.value, l.fraction), omega (arith, last_long value fraction 72, l.long))
of_last profile before last minutes value fraction earlier groups l =
    let all = groups_long profile time times_long one_time_more (omega arith) before earlier groups in (
      (small_number profile hours before earlier groups refl, l.value, l.fraction),
      omega (arith, last_long value fraction 77, l.long, all, length-append {A = Letter}),
    )
of_last profile before last seconds value fraction earlier groups l =
    let all = groups_long profile time times_long one_time_more (omega arith) before earlier groups in (
      (small_number profile hours before earlier groups refl, small_number profile minutes before earlier groups refl, l.value, l.fraction),
      omega (arith, last_long value fraction 83, l.long, all, length-append {A = Letter}),
    )
of_last profile before last years value fraction earlier groups l = let no = l.unit in absurd cc
of_last profile before last months value fraction earlier groups l = let no = l.unit in absurd cc
of_last profile before last weeks value fraction earlier groups l = let no = l.unit in absurd cc
of_last profile before last days value fraction earlier groups l = let no = l.unit in absurd cc

of_time_groups : (profile : Profile) (text : Text) (groups : List Group) → TimeGroups profile text groups → IsTimed (length text) (time_duration groups)
of_time_groups profile text [] h = absurd h
of_time_groups profile text (g ∷ earlier) (inl h) =
    rw (h.2, length-append h.0 h.1) (of_last profile h.0 h.1 g.unit g.value g.fraction earlier h.3 (of_integer h.1 g h.4))
of_time_groups profile text (g ∷ earlier) (inr h) =
    rw (h.2, length-append h.0 h.1) (of_last profile h.0 h.1 g.unit g.value g.fraction earlier h.3 (of_fraction_group h.1 g h.4))

timed_part : (most : ℕ) (found : Option TimeDurationRecord) → IsTimed most found
    → HasTimeUnits found × (length (time_part_text found) ≤ most + 1) × HasPart None found
timed_part most None h = absurd h
timed_part most (Some found) h = (h.0, omega (arith, h.1), tt)

-- ---- the complete duration

of_start : (text : Text) (s : Sign) → SignedDesignator text s → length (start_text s) ≤ length text
of_start text s (inl (p, is)) = rw (is, p.1) (omega arith)
of_start text s (inr (c, rest, is, signed, p, _)) = rw (is, p.1) (most s)
  where
    most : (s : Sign) → length (start_text s) ≤ 2
    most Positive = omega arith
    most Negative = omega arith

-- The time of a duration, if it has one, has a text that is not longer than the text of its groups.
of_times : (profile : Profile) (text : Text) (times : List Group) → TimePart profile text times
    → HasTimeUnits (time_duration times) × (length (time_part_text (time_duration times)) ≤ length text)
of_times profile text times (inl (none, no_times)) = rw (no_times, none) (tt, omega arith)
of_times profile text times (inr (c, groups, is, letter, h)) =
    let part = timed_part (length groups) (time_duration times) (of_time_groups profile groups times h) in
    (part.0, rw is (omega (arith, part.1)))

has_part : (profile : Profile) (text : Text) (dates times : List Group) → TimePart profile text times → AtLeastOne dates times
    → HasPart (date_duration dates) (time_duration times)
has_part profile text (g ∷ dates) times h least = tt
has_part profile text [] [] h least = absurd least
has_part profile text [] (g ∷ times) (inl (none, no_times)) least = absurd cc
has_part profile text [] (g ∷ times) (inr (c, groups, is, letter, h)) least =
    (timed_part (length groups) (time_duration (g ∷ times)) (of_time_groups profile groups (g ∷ times) h)).2

pub duration_long : (duration : DurationParseRecord) → length (duration_text duration)
    ≡ length (start_text duration.sign) + length (date_part_text duration.date) + length (time_part_text duration.time)
unfolding duration_text
duration_long duration = omega (arith, length-append {A = Letter})

pub of_duration : (profile : Profile) (text : Text) (duration : DurationParseRecord) → IsDuration profile text duration
    → AreParts duration.date duration.time × (length (duration_text duration) ≤ length text)
unfolding duration_text
of_duration profile text duration h =
    let dates = of_dates profile h.date_text h.dates h.are_dates in
    let times = of_times profile h.time_text h.times h.are_times in
    rw h.value (
      record { date = dates.0; time = times.0; part = has_part profile h.time_text h.dates h.times h.are_times h.least },
      rw h.is (omega (arith, of_start h.start h.sign h.is_start, dates.1, times.1, length-append {A = Letter})),
    )
