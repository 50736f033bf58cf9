-- Computes the outcomes of offsets with and without seconds, and the rows of the table lines of offsets.
use Rattle.std.proofs.Common.{ℕ, Bool, true, false, List, [], ◌∷◌, ◌++◌, map, codes, Option, Some, None, refl}
use Rattle.ixdtf_grammar.specs.declared.records.Sign.{Sign}
use Rattle.ixdtf_grammar.specs.declared.records.Sign.TheVariants.{Positive, Negative}
use Rattle.ixdtf_grammar.specs.declared.records.UtcOffsetRecord.{UtcOffsetRecord}
use Rattle.ixdtf_grammar.specs.declared.records.UtcOffsetRecord.TheVariants.{MinutePrecision, FullPrecisionOffset}
use Rattle.ixdtf_grammar.specs.declared.records.UtcOffsetRecordOrZ.TheVariants.{Offset, Z}
use Rattle.ixdtf.specs.language.Times.Clock.{Offset as OffsetClock, MinuteOffset}
use Rattle.ixdtf.specs.language.Fractions.{FractionParts}
use Rattle.ixdtf.specs.language.ZoneNames.Zone.{Offset as zone_offset}
use Rattle.ixdtf.specs.language.Brackets.{ZoneNote}
use Rattle.ixdtf.specs.language.Readers.{parse}
use Rattle.ixdtf.specs.language.Readers.Reader.{parse_offset, parse_identifier}
use Rattle.ixdtf.specs.language.Languages.Found.{shifted, identified}
use Rattle.ixdtf.specs.table.Faults.Fault.{InvalidEnd, TimeHour, TimeMinuteSecond, FractionPart, UtcTimeSeparator, InvalidMinutePrecisionOffset}
use Rattle.ixdtf.specs.table.Faults.Fault.{OffsetNeedsSign, AnnotationClose}
use Rattle.ixdtf.specs.table.LineNames.{ClockLine, LineName}
use Rattle.ixdtf.specs.table.LineNames.LineName.{of_clock, of_offset}
use Rattle.ixdtf.specs.table.LineNames.OffsetLine.{offset_start, after_zulu}
use Rattle.ixdtf.specs.table.LineNames.ClockLine.{hour_start, hour_digit, hour_range, after_hour, minute_digits, minute_range, after_basic_minute}
use Rattle.ixdtf.specs.table.LineNames.ClockLine.{after_colon_minute, second_digits, second_range, after_second, fraction_start, after_fraction}
use Rattle.ixdtf.specs.table.Lines.{abrupt_digit, abrupt_offset}
use Rattle.ixdtf.specs.table.Outcomes.{Outcome}
use Rattle.ixdtf.specs.table.Outcomes.Outcome.{derived}
use Rattle.ixdtf_reading.specs.reading.Times.{time_of}
use Rattle.ixdtf_tests.proofs.Times.{minute_lines, clock_lines}
use Rattle.ixdtf_tests.proofs.Helpers.{all_readings, morning, new_years_day, with, Example, Compute, gives, ends, goes_off, stands, stands_before_bad, cut_off}
use Rattle.ixdtf_tests.proofs.Helpers.{one, two, three, ShowEachRow}

-- `of_full` is a table line of an offset that may have seconds. `of_short` is one of an offset without seconds.
abbrev of_full : ClockLine → LineName
of_full line = of_clock OffsetClock line

abbrev of_short : ClockLine → LineName
of_short line = of_clock MinuteOffset line

-- This text is a date, a time and the sign of an offset, and then these code units.
abbrev at : List ℕ → List ℕ
at units = codes "2020-01-01T00:00+" ++ units

-- ---- each row of the lines of offsets, in `parse`

abbrev pub full_lines : List LineName
full_lines = map of_full clock_lines

-- These are the rows of hours and minutes. `before` is the text before an offset, `zero` is a sign and a zero, and `letter` is a
-- code unit that ends the offset.
abbrev minute_rows : (ClockLine → LineName) → List ℕ → List ℕ → List ℕ → List Example
minute_rows of_line before zero letter =
    three (of_line hour_start) (before ++ codes "+") abrupt_digit (codes "x") TimeHour
    ++ three (of_line hour_digit) (before ++ zero) abrupt_digit (codes ":") TimeHour
    ++ one (of_line hour_range) (before ++ codes "+24") TimeHour
    ++ two (of_line after_hour) (before ++ codes "+05") letter InvalidEnd
    ++ three (of_line minute_digits) (before ++ codes "+05:") abrupt_digit (codes "x") TimeMinuteSecond
    ++ one (of_line minute_range) (before ++ codes "+05:60") TimeMinuteSecond
    ++ two (of_line after_basic_minute) (before ++ codes "+0530") letter InvalidEnd
    ++ two (of_line after_colon_minute) (before ++ codes "+05:30") letter InvalidEnd

-- These are the same rows with the rows of seconds.
abbrev second_rows : List ℕ → List ℕ → List ℕ → List Example
second_rows before zero letter =
    minute_rows of_full before zero letter
    ++ three (of_full second_digits) (before ++ codes "+05:30:") abrupt_digit (codes "x") TimeMinuteSecond
    ++ one (of_full second_range) (before ++ codes "+05:30:60") TimeMinuteSecond
    ++ two (of_full after_second) (before ++ codes "+05:30:00") letter InvalidEnd
    ++ three (of_full fraction_start) (before ++ codes "+05:30:00.") FractionPart (codes "x") FractionPart
    ++ two (of_full after_fraction) (before ++ codes "+05:30:00.5") letter InvalidEnd

-- These are the rows of an offset after this text.
abbrev pub full_rows : List ℕ → List Example
full_rows before = second_rows before (codes "+0") (codes "x") ++ two (of_offset after_zulu) (before ++ codes "Z") (codes "x") InvalidEnd

each_row_after_times : ShowEachRow parse (full_lines ++ (of_offset after_zulu ∷ [])) (full_rows (codes "2020-01-01T00:00"))
unfolding all_readings
each_row_after_times = (refl, refl)

-- ---- each row in `parse_offset`, after which no bracket may follow

abbrev rows_alone : List Example
rows_alone =
    three (of_offset offset_start) [] abrupt_offset (codes "0") OffsetNeedsSign
    ++ second_rows [] (codes "-0") (codes "[")

each_row_alone : ShowEachRow parse_offset (of_offset offset_start ∷ full_lines) rows_alone
unfolding all_readings
each_row_alone = (refl, refl)

-- ---- each row of the lines of offsets without seconds, in a bracket and in `parse_identifier`

-- An offset without seconds has no text for `second_digits`, `second_range`, `after_second`, `fraction_start` and `after_fraction`.
-- So the rows of these lines fit no text.
abbrev short_lines : List LineName
short_lines = map of_short minute_lines

-- This text is a date, a bracket and the sign of an offset, and then these code units.
abbrev inside : List ℕ → List ℕ
inside units = codes "2020-01-01[+" ++ units

abbrev rows_in_brackets : List Example
rows_in_brackets =
    three (of_short hour_start) (inside []) abrupt_digit (codes "]") TimeHour
    ++ three (of_short hour_digit) (inside (codes "0")) abrupt_digit (codes "]") TimeHour
    ++ one (of_short hour_range) (inside (codes "24")) TimeHour
    ++ three (of_short after_hour) (inside (codes "05")) AnnotationClose (codes "x") AnnotationClose
    ++ three (of_short minute_digits) (inside (codes "05:")) abrupt_digit (codes "]") TimeMinuteSecond
    ++ one (of_short minute_range) (inside (codes "05:60")) TimeMinuteSecond
    ++ three (of_short after_basic_minute) (inside (codes "0530")) AnnotationClose (codes "x") AnnotationClose
    ++ three (of_short after_colon_minute) (inside (codes "05:30")) AnnotationClose (codes "x") AnnotationClose

each_row_in_brackets : ShowEachRow parse short_lines rows_in_brackets
unfolding all_readings
each_row_in_brackets = (refl, refl)

abbrev rows_of_zones : List Example
rows_of_zones = minute_rows of_short [] (codes "-0") (codes "]")

each_row_of_zones : ShowEachRow parse_identifier short_lines rows_of_zones
unfolding all_readings
each_row_of_zones = (refl, refl)

-- ---- offsets

abbrev short : Sign → ℕ → ℕ → UtcOffsetRecord
short sign hour minute = MinutePrecision (record { sign = sign; hour = hour; minute = minute })

abbrev long : Sign → ℕ → ℕ → ℕ → Option FractionParts → UtcOffsetRecord
long sign hour minute second fraction =
    FullPrecisionOffset (record { minute_precision_offset = record { sign = sign; hour = hour; minute = minute }; second = second; fraction = fraction })

-- The outcome is an offset on its own.
abbrev alone : UtcOffsetRecord → Outcome
alone offset = derived (shifted offset) []

offsets : Compute parse_offset (
    gives (codes "+05") (alone (short Positive 5 0))
    ∷ gives (codes "+0530") (alone (short Positive 5 30))
    ∷ gives (codes "-05:30") (alone (short Negative 5 30))
    ∷ gives (codes "-00:00") (alone (short Negative 0 0))
    ∷ gives (codes "+235959") (alone (long Positive 23 59 59 None))
    ∷ gives (codes "+01:00:00") (alone (long Positive 1 0 0 None))
    ∷ gives (codes "-050030,25") (alone (long Negative 5 0 30 (Some (record { count = 2; value = 25 }))))
    ∷ gives (codes "-05:00:30.5") (alone (long Negative 5 0 30 (Some (record { count = 1; value = 5 }))))
    ∷ gives (codes "-05:00:30.123456789") (alone (long Negative 5 0 30 (Some (record { count = 9; value = 123456789 }))))
    -- These texts are not offsets.
    ∷ map (goes_off (of_offset offset_start) OffsetNeedsSign) (codes "|00:00" ∷ codes "|Z" ∷ [])
    ++ (goes_off (of_full after_hour) InvalidEnd (codes "+05|.5") ∷ [])
    ++ map (ends (of_full minute_digits) abrupt_digit) (codes "+08:0" ∷ codes "+080" ∷ [])
    ++ map (goes_off (of_full minute_digits) TimeMinuteSecond) (codes "+08:0|x" ∷ codes "+080|x" ∷ [])
    ++ (stands (of_full minute_range) TimeMinuteSecond (codes "+0860|") ∷ [])
    ++ (goes_off (of_full after_basic_minute) UtcTimeSeparator (codes "+0800|:00") ∷ [])
    ++ (goes_off (of_full after_colon_minute) UtcTimeSeparator (codes "+08:00|00") ∷ [])
    ++ (goes_off (of_full second_digits) TimeMinuteSecond (codes "+08:00:5|x") ∷ [])
    ++ cut_off (of_full second_digits) abrupt_digit (codes "+08005" ∷ [])
    ++ (stands (of_full second_range) TimeMinuteSecond (codes "+080060|") ∷ [])
    ++ (goes_off (of_full after_second) InvalidEnd (codes "+08:00:00|[") ∷ [])
    ++ stands_before_bad (of_full hour_range) TimeHour (codes "+24|") ∷ [])
unfolding all_readings
offsets = refl

-- The outcome is a zone that is an offset.
abbrev zone : Sign → ℕ → ℕ → Outcome
zone sign hour minute = derived (identified (zone_offset (record { sign = sign; hour = hour; minute = minute }))) []

zones : Compute parse_identifier (
    gives (codes "+05:30") (zone Positive 5 30)
    ∷ gives (codes "-0530") (zone Negative 5 30)
    ∷ gives (codes "+08") (zone Positive 8 0)
    -- These offsets have seconds or a fraction, or are out of range.
    ∷ map (goes_off (of_short after_colon_minute) InvalidMinutePrecisionOffset) (codes "+00:00|:00" ∷ codes "+00:00|0" ∷ [])
    ++ map (goes_off (of_short after_basic_minute) InvalidMinutePrecisionOffset) (codes "+0000|00" ∷ codes "+0000|:00" ∷ [])
    ++ (goes_off (of_short after_colon_minute) InvalidEnd (codes "+00:00|.1") ∷ [])
    ++ (stands (of_short hour_range) TimeHour (codes "+24|:00") ∷ [])
    ++ stands (of_short minute_range) TimeMinuteSecond (codes "+0060|") ∷ [])
unfolding all_readings
zones = refl

abbrev zone_at : Bool → Sign → ℕ → ℕ → Option ZoneNote
zone_at critical sign hour minute = Some (record { critical = critical; zone = zone_offset (record { sign = sign; hour = hour; minute = minute }) })

offsets_beside_dates : Compute parse (
    gives (codes "2024-03-02T08:48:00-05:00") (morning (Some (Offset (short Negative 5 0))) None)
    ∷ gives (codes "2024-03-02T08:48-05") (morning (Some (Offset (short Negative 5 0))) None)
    ∷ gives (codes "2024-03-02T08:48:00-00:00") (morning (Some (Offset (short Negative 0 0))) None)
    ∷ gives (codes "2024-03-02 08:48:00+01:00:00") (morning (Some (Offset (long Positive 1 0 0 None))) None)
    ∷ gives (codes "2020-01-01T00:00z") (with new_years_day (Some (time_of 0 0 0 None)) (Some Z) None)
    ∷ gives (codes "2024-03-02T08:48:00Z") (morning (Some Z) None)
    ∷ gives (codes "2020-01-01[-05:00]") (with new_years_day None None (zone_at false Negative 5 0))
    ∷ gives (codes "2020-01-01[!+0530]") (with new_years_day None None (zone_at true Positive 5 30))
    ∷ gives (codes "2020-01-01[+08]") (with new_years_day None None (zone_at false Positive 8 0))
    ∷ gives (codes "2024-03-02T08:48:00-05:00[-05:00]") (morning (Some (Offset (short Negative 5 0))) (zone_at false Negative 5 0))
    -- These texts after a time are not offsets.
    ∷ (goes_off (of_full after_colon_minute) InvalidEnd (codes "2020-01-01T00:00:00+01:00|Z") ∷ [])
    ++ map (stands (of_full second_range) TimeMinuteSecond) (codes "2024-08-24T14:00:00-05:00:60|" ∷ codes "2024-08-24T14:00:00-050060|" ∷ [])
    ++ (goes_off (of_full after_colon_minute) UtcTimeSeparator (codes "2024-08-24T14:00:00-05:00|60") ∷ [])
    ++ (goes_off (of_full after_basic_minute) UtcTimeSeparator (codes "2024-08-24T14:00:00-0500|:60") ∷ [])
    ++ (goes_off (of_full hour_digit) TimeHour (codes "2024-08-24T14:00:00-5|:00") ∷ [])
    ++ goes_off (of_offset after_zulu) InvalidEnd (codes "2024-08-24T14:00:00Z|+") ∷ []
    -- In a bracket, an offset has no seconds.
    ++ map (goes_off (of_short after_colon_minute) InvalidMinutePrecisionOffset) (codes "2020-01-01[-05:00|:60]" ∷ codes "2020-01-01[-05:00|0]" ∷ [])
    ++ map (goes_off (of_short after_basic_minute) InvalidMinutePrecisionOffset) (codes "2020-01-01[-0500|00]" ∷ codes "2020-01-01[!-0500|:]" ∷ [])
    ++ (goes_off (of_short after_colon_minute) AnnotationClose (codes "2024-08-24T14:00:00-05:00[-05:00|.1]") ∷ [])
    ++ goes_off (of_short after_hour) AnnotationClose (codes "2020-01-01[+05|=]") ∷ [])
unfolding all_readings
offsets_beside_dates = refl
