-- Offsets from UTC: which texts stand for which offsets (RFC 3339 section 5.6, Temporal grammar).
use Rattle.std.specs.Prelude.{◌≡◌, ℕ, Bool, IsTrue, ◌⊎◌, ◌∷◌, if◌then◌else◌}
use Rattle.ixdtf_grammar.specs.language.{Times.{Clock as clocks, Clock, TimeShape, ClockOf, writes_seconds}, Letters.{Text, sign, hyphen, zulu, Letter.Plain}}
use Rattle.ixdtf_grammar.specs.{language.Shapes.one, declared.records.{Sign.{Sign, TheVariants.{Positive, Negative}}, TimeRecord.TimeRecord}}
use Rattle.ixdtf_grammar.specs.declared.records.{MinutePrecisionOffset.MinutePrecisionOffset, UtcOffsetRecord.UtcOffsetRecord}
use Rattle.ixdtf_grammar.specs.declared.records.{UtcOffsetRecord.TheVariants.{MinutePrecision, FullPrecisionOffset}, UtcOffsetRecordOrZ.UtcOffsetRecordOrZ}
use Rattle.ixdtf_grammar.specs.declared.records.UtcOffsetRecordOrZ.TheVariants.{Offset, Z}

-- The sign is `Negative` for `-`, and otherwise `Positive`.
abbrev pub sign_of : ℕ → Sign
sign_of c = if hyphen c then Negative else Positive

-- This is the offset with the sign `c`, and the hour and the minute of the time.
abbrev pub minutes_of : ℕ → TimeRecord → MinutePrecisionOffset
minutes_of c time = record { sign = sign_of c; hour = time.hour; minute = time.minute }

-- This is the offset with the sign `c`, and the hour, the minute, the second and the fraction of the time.
abbrev pub full_of : ℕ → TimeRecord → UtcOffsetRecord
full_of c time = FullPrecisionOffset (record { minute_precision_offset = minutes_of c time; second = time.second; fraction = time.fraction })

-- This is the offset with the sign `c` and the parts of the time. It has full precision if the text has seconds.
abbrev pub offset_of : ℕ → Bool → TimeRecord → UtcOffsetRecord
offset_of c in_full time = if in_full then full_of c time else MinutePrecision (minutes_of c time)

-- The text is a sign, and after it a time with a shape that is allowed for `written_as`. `record_of` makes the offset from them.
pub record IsSigned {O : Type 0} (written_as : Clock) (record_of : ℕ → TimeShape → TimeRecord → O) (text : Text) (offset : O) : Type 0 where
  pub c : ℕ
  pub body : Text
  pub shape : TimeShape
  pub time : TimeRecord
  pub is : text ≡ Plain c ∷ body
  pub sign : IsTrue (sign c)
  pub clock : ClockOf written_as shape body time
  pub value : offset ≡ record_of c shape time

-- The text is a sign, and a time with one of the five shapes.
abbrev pub IsOffset : Text → UtcOffsetRecord → Type 0
IsOffset text offset = IsSigned clocks.Offset (λ c shape time. offset_of c (writes_seconds shape) time) text offset

abbrev pub IsOffsetOrZ : Text → UtcOffsetRecordOrZ → Type 0
IsOffsetOrZ text found = ((offset : UtcOffsetRecord) × IsOffset text offset × (found ≡ Offset offset)) ⊎ (one zulu text × (found ≡ Z))

-- The text is a sign, and a time without seconds.
abbrev pub IsMinuteOffset : Text → MinutePrecisionOffset → Type 0
IsMinuteOffset text offset = IsSigned clocks.MinuteOffset (λ c shape time. minutes_of c time) text offset
