-- Computes the outcomes of date-times of RFC 3339, and the rows of their table lines.
use Rattle.std.proofs.Common.{ℕ, List, [], ◌∷◌, ◌++◌, map, codes, pos, Some, None, refl}
use Rattle.ixdtf_grammar.specs.declared.records.Sign.TheVariants.{Negative}
use Rattle.ixdtf_grammar.specs.declared.records.UtcOffsetRecord.TheVariants.{MinutePrecision}
use Rattle.ixdtf_grammar.specs.declared.records.UtcOffsetRecordOrZ.{UtcOffsetRecordOrZ}
use Rattle.ixdtf_grammar.specs.declared.records.UtcOffsetRecordOrZ.TheVariants.{Offset, Z}
use Rattle.ixdtf.specs.language.Fractions.{FractionParts}
use Rattle.ixdtf.specs.language.Cores.{core_of}
use Rattle.ixdtf.specs.language.Readers.{parse_rfc9557}
use Rattle.ixdtf.specs.language.Readers.Reader.{parse_rfc3339}
use Rattle.ixdtf.specs.language.Languages.{parsed_with}
use Rattle.ixdtf.specs.language.Languages.Found.{dated}
use Rattle.ixdtf.specs.table.DateTimeFronts.{Field}
use Rattle.ixdtf.specs.table.DateTimeFronts.Field.{month_field, day_field, hour_field, minute_field, second_field, offset_hour_field}
use Rattle.ixdtf.specs.table.DateTimeFronts.Field.{offset_minute_field}
use Rattle.ixdtf.specs.table.Faults.Fault.{DateYear, DateMonth, DateDay, DateSeparator, InvalidMonthRange, InvalidDayRange, TimeSeparator, TimeHour}
use Rattle.ixdtf.specs.table.Faults.Fault.{TimeMinuteSecond, TimeSecond, FractionPart, OffsetNeedsSign, UtcTimeSeparator, InvalidEnd, IanaChar}
use Rattle.ixdtf.specs.table.Faults.Fault.{InvalidMinutePrecisionOffset}
use Rattle.ixdtf.specs.table.LineNames.{LineName}
use Rattle.ixdtf.specs.table.LineNames.LineName.{of_date_time, of_bracket}
use Rattle.ixdtf.specs.table.LineNames.BracketLine.{first_dots_form, first_name_form, first_offset_form}
use Rattle.ixdtf.specs.table.LineNames.DateTimeLine.{four_digits, after_four_digits, field_digits, field_range, after_field, after_point}
use Rattle.ixdtf.specs.table.LineNames.DateTimeLine.{after_secfrac, after_utc}
use Rattle.ixdtf.specs.table.Lines.{abrupt_digit, abrupt_date, abrupt_offset}
use Rattle.ixdtf.specs.table.Outcomes.{Outcome}
use Rattle.ixdtf.specs.table.Outcomes.Outcome.{derived}
use Rattle.ixdtf_reading.specs.reading.Dates.{date_of}
use Rattle.ixdtf_reading.specs.reading.Times.{time_of}
use Rattle.ixdtf_reading.specs.reading.DateTimes.{num_offset, date_time_line_readings}
use Rattle.ixdtf_tests.proofs.Helpers.{all_readings, Example, Compute, gives, goes_off, stands, one, two, three, ShowEachRow}

-- These are the table lines of a number: its digits, its range, and what follows it.
abbrev number_lines : Field → List LineName
number_lines field = map of_date_time (field_digits field ∷ field_range field ∷ after_field field ∷ [])

abbrev date_time_lines : List LineName
date_time_lines =
    map of_date_time (four_digits ∷ after_four_digits ∷ [])
    ++ number_lines month_field
    ++ number_lines day_field
    ++ number_lines hour_field
    ++ number_lines minute_field
    ++ number_lines second_field
    ++ map of_date_time (after_point ∷ after_secfrac ∷ [])
    ++ number_lines offset_hour_field
    ++ number_lines offset_minute_field
    ++ map of_date_time (after_utc ∷ [])

-- These are the rows before those of what may follow a date-time.
abbrev rows_up_to_the_end : List Example
rows_up_to_the_end =
    three (of_date_time four_digits) (codes "202") abrupt_digit (codes "-06") DateYear
    ++ three (of_date_time after_four_digits) (codes "2024") abrupt_date (codes "0302") DateSeparator
    ++ three (of_date_time (field_digits month_field)) (codes "2024-0") abrupt_digit (codes "x") DateMonth
    ++ one (of_date_time (field_range month_field)) (codes "2024-13") InvalidMonthRange
    ++ three (of_date_time (after_field month_field)) (codes "2024-03") DateSeparator (codes "02") DateSeparator
    ++ three (of_date_time (field_digits day_field)) (codes "2024-03-") abrupt_digit (codes "x") DateDay
    ++ one (of_date_time (field_range day_field)) (codes "2023-02-29") InvalidDayRange
    ++ three (of_date_time (after_field day_field)) (codes "2024-03-02") TimeSeparator (codes " 08") TimeSeparator
    ++ three (of_date_time (field_digits hour_field)) (codes "2024-03-02T0") abrupt_digit (codes ":") TimeHour
    ++ one (of_date_time (field_range hour_field)) (codes "2024-03-02T24") TimeHour
    ++ three (of_date_time (after_field hour_field)) (codes "2024-03-02T08") TimeSeparator (codes "48") TimeSeparator
    ++ three (of_date_time (field_digits minute_field)) (codes "2024-03-02T08:") abrupt_digit (codes "x") TimeMinuteSecond
    ++ one (of_date_time (field_range minute_field)) (codes "2024-03-02T08:60") TimeMinuteSecond
    ++ three (of_date_time (after_field minute_field)) (codes "2024-03-02T08:48") TimeSeparator (codes "Z") TimeSeparator
    ++ three (of_date_time (field_digits second_field)) (codes "2024-03-02T08:48:0") abrupt_digit (codes "Z") TimeSecond
    ++ one (of_date_time (field_range second_field)) (codes "2024-03-02T08:48:61") TimeSecond
    ++ three (of_date_time (after_field second_field)) (codes "2024-03-02T08:48:00") abrupt_offset (codes "[") OffsetNeedsSign
    ++ three (of_date_time after_point) (codes "2024-03-02T08:48:00.") FractionPart (codes "Z") FractionPart
    ++ three (of_date_time after_secfrac) (codes "2024-03-02T08:48:00.25") abrupt_offset (codes " Z") OffsetNeedsSign
    ++ three (of_date_time (field_digits offset_hour_field)) (codes "2024-03-02T08:48:00+") abrupt_digit (codes "x") TimeHour
    ++ one (of_date_time (field_range offset_hour_field)) (codes "2024-03-02T08:48:00+24") TimeHour
    ++ three (of_date_time (after_field offset_hour_field)) (codes "2024-03-02T08:48:00-05") UtcTimeSeparator (codes "00") UtcTimeSeparator
    ++ three (of_date_time (field_digits offset_minute_field)) (codes "2024-03-02T08:48:00-05:0") abrupt_digit (codes "x") TimeMinuteSecond
    ++ one (of_date_time (field_range offset_minute_field)) (codes "2024-03-02T08:48:00-05:60") TimeMinuteSecond

abbrev date_time_rows : List Example
date_time_rows =
    rows_up_to_the_end
    ++ two (of_date_time (after_field offset_minute_field)) (codes "2024-03-02T08:48:00-05:00") (codes ":30.5") InvalidEnd
    ++ two (of_date_time after_utc) (codes "2024-03-02T08:48:00Z") (codes "[UTC]") InvalidEnd

-- These are the rows of `parse_rfc9557`. Brackets may follow its date-times.
abbrev extended_rows : List Example
extended_rows =
    rows_up_to_the_end
    ++ two (of_date_time (after_field offset_minute_field)) (codes "2024-03-02T08:48:00-05:00") (codes ":30[UTC]") InvalidEnd
    ++ two (of_date_time after_utc) (codes "2024-03-02T08:48:00Z") (codes "(UTC)") InvalidEnd

each_row_of_date_times : ShowEachRow parse_rfc3339 date_time_lines date_time_rows
unfolding all_readings date_time_line_readings
each_row_of_date_times = (refl, refl)

each_row_of_extended_date_times : ShowEachRow parse_rfc9557 date_time_lines extended_rows
unfolding all_readings date_time_line_readings
each_row_of_extended_date_times = (refl, refl)

-- These zones are not exactly those of RFC 9557.
inexact_zones : Compute parse_rfc9557 (
    stands (of_bracket first_name_form) IanaChar (codes "2024-03-02T08:48:00Z[a/1]|")
    ∷ stands (of_bracket first_name_form) IanaChar (codes "2024-03-02T08:48:00Z[a/1/...]|")
    ∷ stands (of_bracket first_dots_form) IanaChar (codes "2024-03-02T08:48:00Z[a/1/..]|")
    ∷ stands (of_bracket first_dots_form) IanaChar (codes "2024-03-02T08:48:00Z[.]|x")
    ∷ stands (of_bracket first_dots_form) IanaChar (codes "2024-03-02T08:48:00Z[!Europe/..]|[u-ca=hebrew]")
    ∷ stands (of_bracket first_offset_form) InvalidMinutePrecisionOffset (codes "2024-03-02T08:48:00Z[+05]|[")
    ∷ stands (of_bracket first_offset_form) InvalidMinutePrecisionOffset (codes "2024-03-02T08:48:00Z[!-0530]|")
    ∷ [])
unfolding all_readings date_time_line_readings
inexact_zones = refl

-- The outcome is 2 March 2024 at 8:48, with an offset.
abbrev at_offset : UtcOffsetRecordOrZ → Outcome
at_offset offset = derived (dated (parsed_with (core_of (Some (date_of (pos 2024) 3 2)) (Some (time_of 8 48 0 None)) (Some offset)) None)) []

date_times : Compute parse_rfc3339 (
    gives (codes "2024-03-02T08:48:00Z") (at_offset Z)
    ∷ gives (codes "2024-03-02t08:48:00z") (at_offset Z)
    ∷ gives (codes "2024-03-02T08:48:00-05:30") (at_offset (Offset (MinutePrecision (num_offset 45 5 30))))
    ∷ goes_off (of_date_time (after_field second_field)) FractionPart (codes "2024-03-02T08:48:00|,25Z")
    ∷ stands (of_date_time (field_range day_field)) InvalidDayRange (codes "2024-03-00|T08:48:00Z")
    ∷ [])
unfolding all_readings date_time_line_readings
date_times = refl
