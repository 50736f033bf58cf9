-- Fractions of a second or of another unit of time (ISO 8601, Temporal grammar).
use Rattle.std.specs.Prelude.{◌≡◌, ℕ, suc, ◌-◌, ◌*◌, ◌^◌, min, IsTrue, if◌then◌else◌, nat_le, ◌∷◌, ◌++◌, length, take, Option, Some, None}
use Rattle.ixdtf_grammar.specs.language.{Letters.{Text, decimal_mark, Letter.Plain}, Shapes.digits, Digits.{decimal, padded_digits}}

-- A fraction is stored as the number of its digits, and the value of its first digits.
pub record FractionParts : Type 0 where
  pub count : ℕ
  pub value : ℕ

-- The count is the number of digits, but at most 255.
abbrev pub count_of : Text → ℕ
count_of ds = min (length ds) 255

-- The value is the number that the first 18 digits stand for, or all digits if there are fewer.
abbrev pub value_of : Text → ℕ
value_of ds = decimal (take 18 ds)

abbrev pub fraction_of : Text → FractionParts
fraction_of ds = record { count = count_of ds; value = value_of ds }

-- The text has one or more digits.
abbrev pub SomeDigits : Text → Type 0
SomeDigits text = (n : ℕ) × digits (suc n) text

-- The text is `.` or `,`, and one or more digits.
pub record IsFraction (text : Text) (fraction : FractionParts) : Type 0 where
  pub mark : ℕ
  pub ds : Text
  pub is : text ≡ Plain mark ∷ ds
  pub marks : IsTrue (decimal_mark mark)
  pub some : SomeDigits ds
  pub value : fraction ≡ fraction_of ds

-- This is the number of digits of the value, including its leading zeros.
abbrev pub places_of : FractionParts → ℕ
places_of fraction = min fraction.count 18

-- The complete nanoseconds of a fraction are the number of its first nine digits, filled with zeros on the right.
abbrev pub nanoseconds_of : FractionParts → ℕ
nanoseconds_of fraction = decimal (take 9 (padded_digits (places_of fraction) fraction.value ++ padded_digits 9 0))

-- These are the nanoseconds of a fraction with at most nine digits. The result is `None` for a longer fraction.
abbrev pub exact_nanoseconds_of : FractionParts → Option ℕ
exact_nanoseconds_of fraction = if nat_le fraction.count 9 then Some (fraction.value * 10 ^ (9 - fraction.count)) else None
