-- A date and a time in fixed columns, such as `2024-03-02T08:48:00`: `YYYY-MM-DD`, a separator, and `HH:MM:SS`. They are `full-date`
-- and `partial-time` of RFC 3339 section 5.6, without a fraction.
use Rattle.std.specs.Prelude.{◌≡◌, ℕ, IsTrue, ◌∷◌, ◌++◌}
use Rattle.ixdtf_grammar.specs.{declared.records.{DateRecord.DateRecord, TimeRecord.TimeRecord}, language.Letters.{Text, date_time_separator, Letter.Plain}}
use Rattle.ixdtf_grammar.specs.language.{Digits.TwoDigits, Dates.{FourDigitYear, Month, IsDayOfMonth}, Times.{ColonSecondText, Clock.Time}}

-- The date has ten code units. Its year has four digits, and it has two hyphens.
pub record FixedDate (text : Text) (date : DateRecord) : Type 0 where
  pub years : Text
  pub months : Text
  pub days : Text
  pub is : text ≡ years ++ (Plain 45 ∷ (months ++ (Plain 45 ∷ days)))
  pub year : FourDigitYear years date.year
  pub month : Month months date.month
  pub day : TwoDigits days date.day
  pub in_month : IsDayOfMonth date

-- The time has eight code units.
abbrev pub FixedTime : Text → TimeRecord → Type 0
FixedTime = ColonSecondText Time

-- The first nineteen code units are the date, a separator and the time. `rest` is the text after them.
pub record FixedDateTime (text : Text) (date : DateRecord) (time : TimeRecord) (rest : Text) : Type 0 where
  pub dates : Text
  pub separator : ℕ
  pub times : Text
  pub is : text ≡ dates ++ (Plain separator ∷ (times ++ rest))
  pub is_date : FixedDate dates date
  pub separates : IsTrue (date_time_separator separator)
  pub is_time : FixedTime times time
