-- The prefixes of the lines of durations.
use Rattle.std.specs.Prelude.{◌≡◌, ◌⊎◌, ℕ, ◌≤◌, ◌<◌, IsTrue, IsFalse, List, [], ◌∷◌, ◌++◌}
use Rattle.ixdtf_grammar.specs.{declared.{profile.Profile.Profile, records.Sign.Sign}, language.Letters.{Text, Class, none, decimal_mark, time_letter}}
use Rattle.ixdtf_grammar.specs.language.{Letters.Letter.Plain, Shapes.Shape, Digits.decimal, Fractions.SomeDigits}
use Rattle.ixdtf_grammar.specs.language.Durations.{Half, Group, IntegerGroup, FractionGroup, Groups, SignedDesignator, in_order, greatest, greatest_value}
use Rattle.ixdtf_grammar.specs.language.Durations.Half.{date, time}

-- A context describes the text before a group: the sign and the date groups, and for a time group also the time groups after the `T`.
-- No group has a fraction. The last group of the text is the first of each list.
pub data Context : Type 0 where
  in_dates : Sign → List Group → Context
  in_times : Sign → List Group → List Group → Context

-- This is the half of the duration to which the group after the context belongs.
abbrev pub half_of : Context → Half
half_of (in_dates s dates) = date
half_of (in_times s dates times) = time

-- These are the groups before it in the same half.
abbrev pub groups_of : Context → List Group
groups_of (in_dates s dates) = dates
groups_of (in_times s dates times) = times

-- The text has the sign and the groups of the context, and a group can follow it.
abbrev pub IsContext : Profile → Text → Context → Type 0
IsContext profile text (in_dates s dates) =
    (start date_text : Text) × (text ≡ start ++ date_text) × SignedDesignator start s × Groups profile date date_text dates
IsContext profile text (in_times s dates times) =
    (start date_text time_text : Text) × (c : ℕ) × (text ≡ start ++ (date_text ++ (Plain c ∷ time_text))) × SignedDesignator start s
    × Groups profile date date_text dates × IsTrue (time_letter c) × Groups profile time time_text times

-- The text has two parts: the text of a context of the half, and a text with the shape for this context.
abbrev pub InContext : Profile → Half → (Context → Shape) → Shape
InContext profile half shape text =
    (context : Context) × (before rest : Text) × (half_of context ≡ half) × (text ≡ before ++ rest) × IsContext profile before context × shape context rest

-- The text ends after one or more date groups.
abbrev pub AfterDateGroups : Profile → Shape
AfterDateGroups profile text = (s : Sign) × (g : Group) × (earlier : List Group) × IsContext profile text (in_dates s (g ∷ earlier))

-- The text ends after the `T`.
abbrev pub AfterTimeDesignator : Profile → Shape
AfterTimeDesignator profile text = (s : Sign) × (dates : List Group) × IsContext profile text (in_times s dates [])

-- The text ends after one or more time groups, without fractions.
abbrev pub AfterTimeGroups : Profile → Shape
AfterTimeGroups profile text =
    (s : Sign) × (dates : List Group) × (g : Group) × (earlier : List Group) × IsContext profile text (in_times s dates (g ∷ earlier))

-- The digits stand for a number greater than the greatest one. Without the last digit, the number is not greater than the greatest one.
abbrev pub ValuePast : Shape
ValuePast text =
    (ds : Text) × (c : ℕ) × (text ≡ ds ++ (Plain c ∷ [])) × SomeDigits text × (decimal ds ≤ greatest_value) × (greatest_value < decimal text)

-- The text is a group of the half. A time group can have a fraction.
abbrev pub AnyGroup : Half → Text → Group → Type 0
AnyGroup date text g = IntegerGroup date text g
AnyGroup time text g = IntegerGroup time text g ⊎ FractionGroup text g

-- The text is a group that cannot follow the groups before it.
abbrev pub OutOfOrder : Profile → Half → Context → Shape
OutOfOrder profile half context text = (g : Group) × AnyGroup half text g × IsFalse (in_order profile (groups_of context) g.unit)

-- The text is a date group in order, and its number is greater than the greatest number of its duration unit.
abbrev pub UnitPast : Profile → Context → Shape
UnitPast profile context text = (g : Group) × IntegerGroup date text g × IsTrue (in_order profile (groups_of context) g.unit) × (greatest g.unit < g.value)

-- The text is a group with a fraction, in order.
abbrev pub LastGroup : Profile → Context → Shape
LastGroup profile context text = (g : Group) × FractionGroup text g × IsTrue (in_order profile (groups_of context) g.unit)

-- Only after a number of a time group, a fraction can begin.
abbrev pub group_mark : Half → Class
group_mark date = none
group_mark time = decimal_mark
