-- Offset records: the parts of an offset from UTC (RFC 3339 section 5.6, RFC 9557 section 2).
use Rattle.ixdtf_grammar.specs.declared.records.UtcOffsetRecord.TheVariants as offsets
use Rattle.ixdtf_grammar.specs.declared.records.UtcOffsetRecordOrZ.TheVariants as stands
use Rattle.std.specs.Prelude.{ℕ, Bool, true, false, Option, Some, None}
use Rattle.ixdtf_grammar.specs.declared.records.{Sign.{Sign, TheVariants.{Positive, Negative}}, MinutePrecisionOffset.MinutePrecisionOffset}
use Rattle.ixdtf_grammar.specs.{declared.records.{UtcOffsetRecord.UtcOffsetRecord, UtcOffsetRecordOrZ.UtcOffsetRecordOrZ}, language.Fractions.FractionParts}

-- The sign is `Positive` for `true`, and `Negative` for `false`.
abbrev pub sign_for : Bool → Sign
sign_for true = Positive
sign_for false = Negative

-- This is the offset `+00:00`.
abbrev pub zero_offset : MinutePrecisionOffset
zero_offset = record { sign = Positive; hour = 0; minute = 0 }

-- This is the offset `-00:00`. It means that UTC is known, and the local offset is not.
abbrev pub unknown_offset : MinutePrecisionOffset
unknown_offset = record { sign = Negative; hour = 0; minute = 0 }

-- These are the sign, the hours and the minutes of an offset. An offset of either precision has them.
abbrev pub minute_part_of : UtcOffsetRecord → MinutePrecisionOffset
minute_part_of (offsets.MinutePrecision minutes) = minutes
minute_part_of (offsets.FullPrecisionOffset full) = full.minute_precision_offset

abbrev pub is_minute_precision : UtcOffsetRecord → Bool
is_minute_precision (offsets.MinutePrecision _) = true
is_minute_precision (offsets.FullPrecisionOffset _) = false

-- Only an offset of full precision has seconds.
abbrev pub second_of : UtcOffsetRecord → Option ℕ
second_of (offsets.MinutePrecision _) = None
second_of (offsets.FullPrecisionOffset full) = Some full.second

-- Only an offset of full precision can have a fraction.
abbrev pub fraction_of_offset : UtcOffsetRecord → Option FractionParts
fraction_of_offset (offsets.MinutePrecision _) = None
fraction_of_offset (offsets.FullPrecisionOffset full) = full.fraction

-- `Z` has the same meaning as `-00:00`: the local offset is not known.
abbrev pub resolved_offset : UtcOffsetRecordOrZ → UtcOffsetRecord
resolved_offset (stands.Offset offset) = offset
resolved_offset stands.Z = offsets.MinutePrecision unknown_offset
