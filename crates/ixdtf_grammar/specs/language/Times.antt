-- Times: which texts stand for which times (RFC 3339 section 5.6, ISO 8601, Temporal grammar). Second 60 stays 60. After its sign, an
-- offset is written like a time.
use Rattle.std.specs.Prelude.{◌≡◌, ℕ, Bool, true, false, IsTrue, ◌⊎◌, ◌∷◌, ◌++◌, Some, None}
use Rattle.ixdtf_grammar.specs.{declared.records.TimeRecord.TimeRecord, language.{Letters.{Text, Letter.Plain}, Digits.UpTo}}
use Rattle.ixdtf_grammar.specs.language.Fractions.{FractionParts, IsFraction}

-- Three things are written like a time: a time of day, an offset after its sign, and an offset without seconds after its sign.
pub data Clock : Type 0 where
  Time Offset MinuteOffset : Clock

-- This is the greatest second. Only a time of day can have a leap second.
abbrev pub greatest_second : Clock → ℕ
greatest_second Time = 60
greatest_second Offset = 59
greatest_second MinuteOffset = 59

-- This says whether the text can have seconds.
abbrev pub has_seconds : Clock → Bool
has_seconds Time = true
has_seconds Offset = true
has_seconds MinuteOffset = false

-- A time has one of five shapes. The shape is named after the last part of the time.
pub data TimeShape : Type 0 where
  hours basic_minutes colon_minutes seconds fractions : TimeShape

-- This says whether a time of the shape has a second.
abbrev pub writes_seconds : TimeShape → Bool
writes_seconds hours = false
writes_seconds basic_minutes = false
writes_seconds colon_minutes = false
writes_seconds seconds = true
writes_seconds fractions = true

-- The text is `Hour`.
pub record HourText (text : Text) (time : TimeRecord) : Type 0 where
  pub hour : UpTo 23 text time.hour
  pub no_minute : time.minute ≡ 0
  pub no_second : time.second ≡ 0
  pub no_fraction : time.fraction ≡ None

-- The text is `Hour Min`, without a colon.
pub record BasicMinuteText (text : Text) (time : TimeRecord) : Type 0 where
  pub hs : Text
  pub ms : Text
  pub is : text ≡ hs ++ ms
  pub hour : UpTo 23 hs time.hour
  pub minute : UpTo 59 ms time.minute
  pub no_second : time.second ≡ 0
  pub no_fraction : time.fraction ≡ None

-- The text is `Hour : Min`.
pub record ColonMinuteText (text : Text) (time : TimeRecord) : Type 0 where
  pub hs : Text
  pub ms : Text
  pub is : text ≡ hs ++ (Plain 58 ∷ ms)
  pub hour : UpTo 23 hs time.hour
  pub minute : UpTo 59 ms time.minute
  pub no_second : time.second ≡ 0
  pub no_fraction : time.fraction ≡ None

-- The text is `Hour Min Sec`, without colons.
pub record BasicSecondText (clock : Clock) (text : Text) (time : TimeRecord) : Type 0 where
  pub hs : Text
  pub ms : Text
  pub ss : Text
  pub is : text ≡ hs ++ (ms ++ ss)
  pub may : IsTrue (has_seconds clock)
  pub hour : UpTo 23 hs time.hour
  pub minute : UpTo 59 ms time.minute
  pub second : UpTo (greatest_second clock) ss time.second
  pub no_fraction : time.fraction ≡ None

-- The text is `Hour : Min : Sec`.
pub record ColonSecondText (clock : Clock) (text : Text) (time : TimeRecord) : Type 0 where
  pub hs : Text
  pub ms : Text
  pub ss : Text
  pub is : text ≡ hs ++ (Plain 58 ∷ (ms ++ (Plain 58 ∷ ss)))
  pub may : IsTrue (has_seconds clock)
  pub hour : UpTo 23 hs time.hour
  pub minute : UpTo 59 ms time.minute
  pub second : UpTo (greatest_second clock) ss time.second
  pub no_fraction : time.fraction ≡ None

abbrev pub SecondText : Clock → Text → TimeRecord → Type 0
SecondText clock text time = BasicSecondText clock text time ⊎ ColonSecondText clock text time

-- The text is a time with seconds, and the fraction of its second.
pub record FractionText (clock : Clock) (text : Text) (time : TimeRecord) : Type 0 where
  pub whole : Text
  pub part : Text
  pub fraction : FractionParts
  pub is : text ≡ whole ++ part
  pub second : SecondText clock whole (record time { fraction = None })
  pub is_fraction : IsFraction part fraction
  pub value : time.fraction ≡ Some fraction

abbrev pub ClockOf : Clock → TimeShape → Text → TimeRecord → Type 0
ClockOf clock hours text time = HourText text time
ClockOf clock basic_minutes text time = BasicMinuteText text time
ClockOf clock colon_minutes text time = ColonMinuteText text time
ClockOf clock seconds text time = SecondText clock text time
ClockOf clock fractions text time = FractionText clock text time

-- The text is a time of one of the five shapes.
abbrev pub IsTime : Text → TimeRecord → Type 0
IsTime text time = (shape : TimeShape) × ClockOf Time shape text time
