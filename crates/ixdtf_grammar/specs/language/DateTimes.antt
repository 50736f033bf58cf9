-- The parts of the date-times of RFC 3339 section 5.6, production by production, and the values that they stand for. The ABNF of
-- the section is quoted. Its letters can be uppercase or lowercase.
use Rattle.std.specs.Prelude.{◌≡◌, ℕ, IsTrue, ◌⊎◌, [], ◌∷◌, ◌++◌, Option, Some, None}
use Rattle.ixdtf_grammar.specs.declared.records.{DateRecord.DateRecord, TimeRecord.TimeRecord, MinutePrecisionOffset.MinutePrecisionOffset}
use Rattle.ixdtf_grammar.specs.declared.records.UtcOffsetRecordOrZ.{UtcOffsetRecordOrZ, TheVariants.{Offset, Z}}
use Rattle.ixdtf_grammar.specs.declared.records.UtcOffsetRecord.TheVariants.{MinutePrecision}
use Rattle.ixdtf_grammar.specs.language.{Letters.{Text, sign, zulu, Letter.Plain}, Shapes.one, Digits.{TwoDigits, UpTo}}
use Rattle.ixdtf_grammar.specs.language.{Dates.{FourDigitYear, Month, IsDayOfMonth}, Fractions.{FractionParts, SomeDigits, fraction_of}, Offsets.sign_of}

-- The text is `full-date = date-fullyear "-" date-month "-" date-mday`, with any two digits as the day.
pub record FullDateText (text : Text) (date : DateRecord) : Type 0 where
  pub years : Text
  pub months : Text
  pub days : Text
  pub is : text ≡ years ++ (Plain 45 ∷ (months ++ (Plain 45 ∷ days)))
  pub year : FourDigitYear years date.year
  pub month : Month months date.month
  pub day : TwoDigits days date.day

-- The text is a `full-date`, and the month has the day (section 5.7).
abbrev pub IsFullDate : Text → DateRecord → Type 0
IsFullDate text date = FullDateText text date × IsDayOfMonth date

-- The text is `time-secfrac = "." 1*DIGIT`.
pub record IsSecfrac (text : Text) (fraction : FractionParts) : Type 0 where
  pub ds : Text
  pub is : text ≡ Plain 46 ∷ ds
  pub some : SomeDigits ds
  pub value : fraction ≡ fraction_of ds

abbrev pub OptionalSecfrac : Text → Option FractionParts → Type 0
OptionalSecfrac text None = text ≡ []
OptionalSecfrac text (Some fraction) = IsSecfrac text fraction

-- The text is `partial-time = time-hour ":" time-minute ":" time-second [time-secfrac]`.
pub record IsPartialTime (text : Text) (time : TimeRecord) : Type 0 where
  pub hs : Text
  pub ms : Text
  pub ss : Text
  pub part : Text
  pub is : text ≡ hs ++ (Plain 58 ∷ (ms ++ (Plain 58 ∷ (ss ++ part))))
  pub hour : UpTo 23 hs time.hour
  pub minute : UpTo 59 ms time.minute
  pub second : UpTo 60 ss time.second
  pub fraction : OptionalSecfrac part time.fraction

-- The text is `time-numoffset = ("+" / "-") time-hour ":" time-minute`.
pub record IsNumOffset (text : Text) (offset : MinutePrecisionOffset) : Type 0 where
  pub c : ℕ
  pub hs : Text
  pub ms : Text
  pub is : text ≡ Plain c ∷ (hs ++ (Plain 58 ∷ ms))
  pub signed : IsTrue (sign c)
  pub hour : UpTo 23 hs offset.hour
  pub minute : UpTo 59 ms offset.minute
  pub value : offset.sign ≡ sign_of c

-- The text is `time-offset = "Z" / time-numoffset`.
abbrev pub IsTimeOffset : Text → UtcOffsetRecordOrZ → Type 0
IsTimeOffset text found = (one zulu text × (found ≡ Z)) ⊎ ((offset : MinutePrecisionOffset) × IsNumOffset text offset × (found ≡ Offset (MinutePrecision offset)))
