-- Dates: which texts stand for which dates (RFC 3339 section 5.6, ISO 8601). Years with a sign are from the Temporal grammar.
use Rattle.std.specs.Prelude.{◌≡◌, ◌≢◌, ℕ, ◌≤◌, IsTrue, ◌⊎◌, ◌∷◌, ◌++◌, ℤ, pos, neg_ℤ, if◌then◌else◌}
use Rattle.ixdtf_grammar.specs.{declared.records.DateRecord.DateRecord, language.{Letters.{Text, sign, hyphen, Letter.Plain}, Shapes.digits}}
use Rattle.ixdtf_grammar.specs.language.Digits.{decimal, TwoDigits}
pub use Rattle.ixdtf_instants.specs.Calendar.{is_leap, month_length}

-- This is the number with its sign: it is negative after a hyphen.
abbrev pub signed : ℕ → ℕ → ℤ
signed c n = if hyphen c then neg_ℤ (pos n) else pos n

-- The year has four digits.
abbrev pub FourDigitYear : Text → ℤ → Type 0
FourDigitYear text year = digits 4 text × (year ≡ pos (decimal text))

-- The year has a sign and six digits, and is not `-000000`.
pub record ExtendedYear (text : Text) (year : ℤ) : Type 0 where
  pub c : ℕ
  pub ds : Text
  pub is : text ≡ Plain c ∷ ds
  pub sign : IsTrue (sign c)
  pub digits : digits 6 ds
  pub no_minus_zero : IsTrue (hyphen c) → decimal ds ≢ 0
  pub value : year ≡ signed c (decimal ds)

abbrev pub Year : Text → ℤ → Type 0
Year text year = FourDigitYear text year ⊎ ExtendedYear text year

-- The month has two digits, and is from 01 to 12.
abbrev pub Month : Text → ℕ → Type 0
Month text month = TwoDigits text month × (1 ≤ month) × (month ≤ 12)

-- The text is a year, a month and a day without hyphens. The day is any two digits.
pub record BasicDate (text : Text) (date : DateRecord) : Type 0 where
  pub years : Text
  pub months : Text
  pub days : Text
  pub is : text ≡ years ++ (months ++ days)
  pub year : Year years date.year
  pub month : Month months date.month
  pub day : TwoDigits days date.day

-- The text is a year, a month and a day, with two hyphens between them. The day is any two digits.
pub record HyphenedDate (text : Text) (date : DateRecord) : Type 0 where
  pub years : Text
  pub months : Text
  pub days : Text
  pub is : text ≡ years ++ (Plain 45 ∷ (months ++ (Plain 45 ∷ days)))
  pub year : Year years date.year
  pub month : Month months date.month
  pub day : TwoDigits days date.day

-- The text has the form of a date, with any two digits as the day.
abbrev pub DateText : Text → DateRecord → Type 0
DateText text date = BasicDate text date ⊎ HyphenedDate text date

abbrev pub IsDayOfMonth : DateRecord → Type 0
IsDayOfMonth date = (1 ≤ date.day) × (date.day ≤ month_length date.year date.month)

abbrev pub IsDate : Text → DateRecord → Type 0
IsDate text date = DateText text date × IsDayOfMonth date
