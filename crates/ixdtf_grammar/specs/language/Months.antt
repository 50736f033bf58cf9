-- Year-months and month-days: a year and a month, and a month and a day (ISO 8601, Temporal grammar).
use Rattle.std.specs.Prelude.{◌≡◌, ℕ, ◌≤◌, ◌++◌, pos}
use Rattle.ixdtf_grammar.specs.declared.{profile.Profile.{Profile, TheVariants.{Crate, Strict}}, records.DateRecord.DateRecord}
use Rattle.ixdtf_grammar.specs.language.{Letters.{Text, hyphen}, Shapes.{Shape, nothing, one, ◌then◌, ◌either◌}, Digits.TwoDigits}
use Rattle.ixdtf_grammar.specs.language.Dates.{Year, Month, month_length}

abbrev pub OptionalHyphen : Shape
OptionalHyphen = nothing either one hyphen

-- The text is two hyphens, or empty.
abbrev pub Marks : Shape
Marks = nothing either (one hyphen then one hyphen)

-- The text is a year, an optional hyphen and a month. The day of the record is 1.
pub record IsYearMonth (text : Text) (date : DateRecord) : Type 0 where
  pub years : Text
  pub hyphens : Text
  pub months : Text
  pub is : text ≡ years ++ (hyphens ++ months)
  pub year : Year years date.year
  pub hyphen : OptionalHyphen hyphens
  pub month : Month months date.month
  pub first_day : date.day ≡ 1

-- The text is two hyphens or none, a month, an optional hyphen, and any two digits as the day. The year of the record is 0.
pub record MonthDayText (text : Text) (date : DateRecord) : Type 0 where
  pub marks : Text
  pub months : Text
  pub hyphens : Text
  pub days : Text
  pub is : text ≡ marks ++ (months ++ (hyphens ++ days))
  pub mark : Marks marks
  pub month : Month months date.month
  pub hyphen : OptionalHyphen hyphens
  pub day : TwoDigits days date.day
  pub no_year : date.year ≡ pos 0

-- This is the greatest day that a month has in any year. It is computed for year 0, which is a leap year.
abbrev pub greatest_day : ℕ → ℕ
greatest_day month = month_length (pos 0) month

-- This is the least day of a month-day under the profile.
abbrev pub least_day : Profile → ℕ
least_day Crate = 0
least_day Strict = 1

abbrev pub IsDayOfSomeYear : Profile → DateRecord → Type 0
IsDayOfSomeYear profile date = (least_day profile ≤ date.day) × (date.day ≤ greatest_day date.month)

abbrev pub IsMonthDay : Profile → Text → DateRecord → Type 0
IsMonthDay profile text date = MonthDayText text date × IsDayOfSomeYear profile date
