-- Durations: which texts stand for which durations (ISO 8601 section 5.5.2, `TemporalDurationString` of the Temporal grammar).
-- Under the profile `Crate`, unlike in this grammar, a duration unit can be repeated. Under the strict profile it cannot.
use Rattle.std.specs.Prelude.{◌≡◌, ℕ, ◌+◌, ◌≤◌, ◌⊎◌, Bool, true, IsTrue, List, [], ◌∷◌, ◌++◌, Option, Some, None, nat_eq, nat_le, ◌&&◌, if◌then◌else◌}
use Rattle.ixdtf_grammar.specs.declared.{profile.Profile.{Profile, TheVariants.{Crate, Strict}}, records.Sign.{Sign, TheVariants.Positive}}
use Rattle.ixdtf_grammar.specs.declared.records.{DurationParseRecord.DurationParseRecord, DateDurationRecord.DateDurationRecord}
use Rattle.ixdtf_grammar.specs.{declared.records.TimeDurationRecord.{TimeDurationRecord, TheVariants.{Hours, Minutes, Seconds}}, language.Letters.Text}
use Rattle.ixdtf_grammar.specs.language.Letters.{Class, ◌or◌, sign, duration_designator, time_letter, year_letter, month_letter, week_letter, day_letter}
use Rattle.ixdtf_grammar.specs.language.{Letters.{hour_letter, minute_letter, second_letter, Letter.Plain}, Shapes.one, Digits.decimal}
use Rattle.ixdtf_grammar.specs.language.{Fractions.{FractionParts, SomeDigits, IsFraction}, Offsets.sign_of}

-- ---- units

-- A duration has two halves: date groups, and time groups after a `T` (`DurationDate` and `DurationTime`).
pub data Half : Type 0 where
  date time : Half

-- These are the duration units of both halves (`YearsDesignator` to `SecondsDesignator`).
pub data DurationUnit : Type 0 where
  years months weeks days hours minutes seconds : DurationUnit

-- This is the index of a duration unit in the list of all duration units, from the longest to the shortest.
abbrev pub unit_index : DurationUnit → ℕ
unit_index years = 0
unit_index months = 1
unit_index weeks = 2
unit_index days = 3
unit_index hours = 4
unit_index minutes = 5
unit_index seconds = 6

abbrev pub same_unit : DurationUnit → DurationUnit → Bool
same_unit a b = nat_eq (unit_index a) (unit_index b)

-- The class has the letters of the duration units of the half.
abbrev pub designator : Half → Class
designator date = year_letter or month_letter or week_letter or day_letter
designator time = hour_letter or minute_letter or second_letter

-- This is the duration unit that a letter of the half stands for.
abbrev pub unit_of : Half → ℕ → DurationUnit
unit_of date c = if year_letter c then years else (if month_letter c then months else (if week_letter c then weeks else days))
unit_of time c = if hour_letter c then hours else (if minute_letter c then minutes else seconds)

-- The greatest number of a group is 2 ^ 64 - 1.
unfoldable pub greatest_value : ℕ
greatest_value = 18446744073709551615

-- This is the greatest number of a duration unit: 2 ^ 32 - 1 for years, months and weeks, and 2 ^ 64 - 1 for the other units.
abbrev pub greatest : DurationUnit → ℕ
greatest years = 4294967295
greatest months = 4294967295
greatest weeks = 4294967295
greatest days = greatest_value
greatest hours = greatest_value
greatest minutes = greatest_value
greatest seconds = greatest_value

-- ---- groups

-- A group has a duration unit, a number, and an optional fraction (`DurationYearsPart` to `DurationSecondsPart`).
pub record Group : Type 0 where
  pub unit : DurationUnit
  pub value : ℕ
  pub fraction : Option FractionParts

-- The text has one or more digits. They stand for the number, which is at most the greatest number of a group.
abbrev pub Number : Text → ℕ → Type 0
Number text n = SomeDigits text × (n ≡ decimal text) × (n ≤ greatest_value)

-- The text is a number, and the letter of a duration unit of the half.
pub record IntegerGroup (half : Half) (text : Text) (g : Group) : Type 0 where
  pub ds : Text
  pub c : ℕ
  pub is : text ≡ ds ++ (Plain c ∷ [])
  pub number : Number ds g.value
  pub ends : IsTrue (designator half c)
  pub unit : g.unit ≡ unit_of half c
  pub fraction : g.fraction ≡ None

-- The text is a number, a fraction (`TemporalDecimalFraction`), and the letter of a time unit.
pub record FractionGroup (text : Text) (g : Group) : Type 0 where
  pub ds : Text
  pub fs : Text
  pub c : ℕ
  pub parts : FractionParts
  pub is : text ≡ ds ++ (fs ++ (Plain c ∷ []))
  pub number : Number ds g.value
  pub is_fraction : IsFraction fs parts
  pub ends : IsTrue (designator time c)
  pub unit : g.unit ≡ unit_of time c
  pub fraction : g.fraction ≡ Some parts

-- This is the least difference between the indices of two duration units, one directly after the other. It is 0 if a unit can be
-- repeated, and otherwise 1.
abbrev pub least_step : Profile → ℕ
least_step Crate = 0
least_step Strict = 1

-- This says whether a group with the unit `after` can follow a group with the unit `before`.
abbrev pub may_follow : Profile → DurationUnit → DurationUnit → Bool
may_follow profile before after = nat_le (unit_index before + least_step profile) (unit_index after)

-- This says whether a group with the duration unit can follow all of these groups.
abbrev pub in_order : Profile → List Group → DurationUnit → Bool
in_order profile [] unit = true
in_order profile (g ∷ earlier) unit = may_follow profile g.unit unit && in_order profile earlier unit

-- The text has groups of the half without fractions. They are in order, and their numbers are in the ranges of their units. The last
-- group of the text is the first of the list.
abbrev pub Groups : Profile → Half → Text → List Group → Type 0
Groups profile half text [] = text ≡ []
Groups profile half text (g ∷ earlier) =
    (before last : Text) × (text ≡ before ++ last) × Groups profile half before earlier × IntegerGroup half last g
    × IsTrue (in_order profile earlier g.unit) × (g.value ≤ greatest g.unit)

-- ---- the parts of a duration

-- The text is an optional sign, and `P` (`DurationDesignator`).
abbrev pub SignedDesignator : Text → Sign → Type 0
SignedDesignator text s =
    (one duration_designator text × (s ≡ Positive))
    ⊎ ((c : ℕ) × (rest : Text) × (text ≡ Plain c ∷ rest) × IsTrue (sign c) × one duration_designator rest × (s ≡ sign_of c))

-- The text has one or more time groups. Only the last group of the text can have a fraction. It is the first of the list.
abbrev pub TimeGroups : Profile → Text → List Group → Type 0
TimeGroups profile text [] = ⊥
TimeGroups profile text (g ∷ earlier) =
    Groups profile time text (g ∷ earlier)
    ⊎ ((before last : Text) × (text ≡ before ++ last) × Groups profile time before earlier × FractionGroup last g × IsTrue (in_order profile earlier g.unit))

-- The text is empty, or it is `T` and time groups (`DurationTime`).
abbrev pub TimePart : Profile → Text → List Group → Type 0
TimePart profile text times =
    ((text ≡ []) × (times ≡ []))
    ⊎ ((c : ℕ) × (groups : Text) × (text ≡ Plain c ∷ groups) × IsTrue (time_letter c) × TimeGroups profile groups times)

-- There is at least one group, in the dates or in the times.
abbrev pub AtLeastOne : List Group → List Group → Type 0
AtLeastOne [] [] = ⊥
AtLeastOne [] (t ∷ times) = Unit {0}
AtLeastOne (d ∷ dates) times = Unit {0}

-- ---- the record; the last group of the text is the first of each list

-- This is the number of the last group with the duration unit, or 0 if there is no such group.
abbrev pub number_of : DurationUnit → List Group → ℕ
number_of unit [] = 0
number_of unit (g ∷ earlier) = if same_unit g.unit unit then g.value else number_of unit earlier

abbrev pub date_duration : List Group → Option DateDurationRecord
date_duration [] = None
date_duration (g ∷ earlier) =
    let groups = g ∷ earlier in
    Some (record { years = number_of years groups; months = number_of months groups; weeks = number_of weeks groups; days = number_of days groups })

-- This is the record of time groups, the last of which has this duration unit and this fraction. It is `None` for a date unit.
abbrev pub time_duration_to : DurationUnit → Option FractionParts → List Group → Option TimeDurationRecord
time_duration_to hours fraction groups = Some (Hours (number_of hours groups) fraction)
time_duration_to minutes fraction groups = Some (Minutes (number_of hours groups) (number_of minutes groups) fraction)
time_duration_to seconds fraction groups = Some (Seconds (number_of hours groups) (number_of minutes groups) (number_of seconds groups) fraction)
time_duration_to years fraction groups = None
time_duration_to months fraction groups = None
time_duration_to weeks fraction groups = None
time_duration_to days fraction groups = None

abbrev pub time_duration : List Group → Option TimeDurationRecord
time_duration [] = None
time_duration (g ∷ earlier) = time_duration_to g.unit g.fraction (g ∷ earlier)

abbrev pub duration_of : Sign → List Group → List Group → DurationParseRecord
duration_of s dates times = record { sign = s; date = date_duration dates; time = time_duration times }

-- The text is an optional sign, `P`, date groups, and optionally `T` and time groups. It has at least one group (`Duration`).
pub record IsDuration (profile : Profile) (text : Text) (duration : DurationParseRecord) : Type 0 where
  pub start : Text
  pub date_text : Text
  pub time_text : Text
  pub sign : Sign
  pub dates : List Group
  pub times : List Group
  pub is : text ≡ start ++ (date_text ++ time_text)
  pub is_start : SignedDesignator start sign
  pub are_dates : Groups profile date date_text dates
  pub are_times : TimePart profile time_text times
  pub least : AtLeastOne dates times
  pub value : duration ≡ duration_of sign dates times
