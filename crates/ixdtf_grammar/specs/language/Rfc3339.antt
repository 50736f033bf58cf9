-- The date-times of RFC 3339 section 5.6, written with the productions of this section.
use Rattle.std.specs.Prelude.{◌≡◌, ◌≤◌, ℕ, suc, [], ◌∷◌, ◌++◌, pos}
use Rattle.ixdtf_grammar.specs.language.{Letters.{Text, sign, zulu, time_letter, Letter.Plain}, Shapes.{Shape, nothing, one, ◌then◌, ◌either◌, digits}}
use Rattle.ixdtf_grammar.specs.language.{Digits.{decimal, TwoDigits, UpTo}, Dates.{Month, month_length}}

-- The text is `date-fullyear "-" date-month "-" date-mday`, and the month has the day.
pub record FullDate (text : Text) : Type 0 where
  pub years : Text
  pub months : Text
  pub days : Text
  pub month : ℕ
  pub day : ℕ
  pub is : text ≡ years ++ (Plain 45 ∷ (months ++ (Plain 45 ∷ days)))
  pub is_year : digits 4 years
  pub is_month : Month months month
  pub is_day : TwoDigits days day
  pub from_one : 1 ≤ day
  pub in_month : day ≤ month_length (pos (decimal years)) month

-- The text is `:`.
abbrev pub colon_mark : Shape
colon_mark text = text ≡ Plain 58 ∷ []

-- The text has two digits, and their number is at most `greatest`.
abbrev pub AtMost : ℕ → Shape
AtMost greatest text = (n : ℕ) × UpTo greatest text n

-- The text is `time-hour ":" time-minute ":" time-second`.
abbrev pub WholeTime : Shape
WholeTime = AtMost 23 then colon_mark then AtMost 59 then colon_mark then AtMost 60

-- The text is a `time-secfrac`: `.` and one or more digits.
abbrev pub SecondFraction : Shape
SecondFraction text = (ds : Text) × (n : ℕ) × (text ≡ Plain 46 ∷ ds) × digits (suc n) ds

-- The text is a `time-offset`: `Z`, or a sign, hours, `:` and minutes.
abbrev pub TimeOffset : Shape
TimeOffset = one zulu either (one sign then AtMost 23 then colon_mark then AtMost 59)

-- The text is `full-date "T" full-time`. `T` and `Z` can be uppercase or lowercase.
abbrev pub IsRfcDateTime : Shape
IsRfcDateTime = FullDate then one time_letter then WholeTime then (nothing either SecondFraction) then TimeOffset
