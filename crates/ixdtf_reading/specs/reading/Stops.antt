-- The fault of a reason, by what follows the prefix of its line.
use Rattle.ixdtf_grammar.specs.declared.reason.Reason.{Reason}
use Rattle.ixdtf_grammar.specs.declared.reason.Reason.TheVariants as reasons
use Rattle.ixdtf_reading.specs.declared.error_code.Code.TheVariants as codes_of
use Rattle.ixdtf_reading.specs.declared.codes.Next.TheVariants as nexts
use Rattle.std.specs.Prelude.{◌≡◌, ◌⊎◌, ℕ, Bool, List, [], ◌∷◌}
use Rattle.ixdtf_grammar.specs.{declared.profile.Profile.{Profile, TheVariants.Crate}, language.{Letters.{Text, Letter.{Plain, Bad}}, Times.{Clock, Clock.{Time, Offset, MinuteOffset}}, Durations.{Half as halves}}}
use Rattle.ixdtf_grammar.specs.table.{Faults.{Fault, Fault as faults}, Lines.{Line, line_of, Line.{line, scanned, whole}, Ending, Ending.{ok, error}}}
use Rattle.ixdtf_grammar.specs.table.Lines.{abrupt_digit, abrupt_date, abrupt_month_day, abrupt_bracket, abrupt_offset, abrupt_zone, abrupt_duration_start}
use Rattle.ixdtf_grammar.specs.table.Lines.{abrupt_duration_designator, abrupt_duration, abrupt_date_designator, abrupt_time_designator}
use Rattle.ixdtf_grammar.specs.table.DateTimeFronts.Field.{month_field, day_field, hour_field, minute_field, second_field, offset_hour_field, offset_minute_field}
use Rattle.ixdtf_grammar.specs.table.LineNames.{DateLine, YearMonthLine, MonthDayLine, TimeLine, CoreLine, ClockLine, OffsetLine, DateTimeLine, ZoneLine, BracketLine, PairLine, DurationLine, LineName}
use Rattle.ixdtf_grammar.specs.table.LineNames.{CoreLine.{dates, year_months, month_days, times}, LineName.{of_core, of_clock, of_offset, of_date_time, of_zone, of_bracket, of_pair, of_duration}}
use Rattle.ixdtf_grammar.specs.table.LineNames.{of_date, of_year_month, of_month_day, of_time}
use Rattle.ixdtf_grammar.specs.table.LineNames.DateLine.{year_start, year_digits, extended_year_digits, minus_zero_year, after_year, month_digits, month_range, after_hyphened_month, after_basic_month, day_digits, day_range, after_date}
use Rattle.ixdtf_grammar.specs.table.LineNames.YearMonthLine.{after_year_in_year_month, after_year_month}
use Rattle.ixdtf_grammar.specs.table.LineNames.MonthDayLine.{month_day_start, month_day_hyphen, month_day_month_digits, month_day_month_range, after_month_day_month, month_day_day_digits, month_day_range, after_month_day}
use Rattle.ixdtf_grammar.specs.table.LineNames.TimeLine.{time_start, time_reads_as_month_day, time_reads_as_year_month}
use Rattle.ixdtf_grammar.specs.table.LineNames.ClockLine.{hour_start, hour_digit, hour_range, after_hour, minute_digits, minute_range, after_basic_minute, after_colon_minute, second_digits, second_range, after_second, fraction_start, after_fraction}
use Rattle.ixdtf_grammar.specs.table.LineNames.OffsetLine.{offset_start, after_zulu}
use Rattle.ixdtf_grammar.specs.table.LineNames.DateTimeLine.{four_digits, after_four_digits, field_digits, field_range, after_field, after_point, after_secfrac, after_utc}
use Rattle.ixdtf_grammar.specs.table.LineNames.ZoneLine.{identifier_start, zone_name_start, in_zone_name, after_zone_slash}
use Rattle.ixdtf_grammar.specs.table.LineNames.BracketLine.{first_bracket_start, first_critical_start, first_bracket_scan, first_dots_form, first_name_form, first_offset_form, after_bracket}
use Rattle.ixdtf_grammar.specs.table.LineNames.PairLine.{key_start, critical_key_start, in_key, value_start, in_value, after_value_hyphen}
use Rattle.ixdtf_grammar.specs.table.LineNames.DurationLine.{duration_start, after_duration_sign, after_duration_designator, after_date_groups, after_time_designator, after_time_groups, after_fraction_group, group_digits, group_value_range, unit_order, date_unit_range, group_fraction_start, group_fraction_digits}
use Rattle.ixdtf_reading.specs.declared.{codes.Next.Next, error_code.Code.Code}
pub use Rattle.ixdtf_grammar.specs.table.Reasons.{reason_of, core_reason, clock_reason, offset_reason, date_time_reason, zone_reason, bracket_reason, pair_reason, duration_reason, date_reason, year_month_reason, month_day_reason, time_reason, Refuses}

-- ---- the fault of a `Reason`

-- The fault of a code.
abbrev pub fault_of_code : Code → Fault
fault_of_code codes_of.NonAsciiCodePoint = faults.NonAsciiCodePoint
fault_of_code codes_of.AbruptDigit = abrupt_digit
fault_of_code codes_of.AbruptDate = abrupt_date
fault_of_code codes_of.AbruptBracket = abrupt_bracket
fault_of_code codes_of.AbruptOffset = abrupt_offset
fault_of_code codes_of.AbruptZone = abrupt_zone
fault_of_code codes_of.InvalidEnd = faults.InvalidEnd
fault_of_code codes_of.InvalidMonthRange = faults.InvalidMonthRange
fault_of_code codes_of.InvalidDayRange = faults.InvalidDayRange
fault_of_code codes_of.DateYear = faults.DateYear
fault_of_code codes_of.DateExtendedYear = faults.DateExtendedYear
fault_of_code codes_of.DateMonth = faults.DateMonth
fault_of_code codes_of.DateDay = faults.DateDay
fault_of_code codes_of.TimeHour = faults.TimeHour
fault_of_code codes_of.TimeMinuteSecond = faults.TimeMinuteSecond
fault_of_code codes_of.TimeSecond = faults.TimeSecond
fault_of_code codes_of.FractionPart = faults.FractionPart
fault_of_code codes_of.DateSeparator = faults.DateSeparator
fault_of_code codes_of.TimeSeparator = faults.TimeSeparator
fault_of_code codes_of.AnnotationClose = faults.AnnotationClose
fault_of_code codes_of.AnnotationKeyValueSeparator = faults.AnnotationKeyValueSeparator
fault_of_code codes_of.AnnotationKeyLeadingChar = faults.AnnotationKeyLeadingChar
fault_of_code codes_of.AnnotationKeyChar = faults.AnnotationKeyChar
fault_of_code codes_of.AnnotationValueCharPostHyphen = faults.AnnotationValueCharPostHyphen
fault_of_code codes_of.AnnotationValueChar = faults.AnnotationValueChar
fault_of_code codes_of.InvalidMinutePrecisionOffset = faults.InvalidMinutePrecisionOffset
fault_of_code codes_of.CriticalDuplicateCalendar = faults.CriticalDuplicateCalendar
fault_of_code codes_of.UnrecognizedCritical = faults.UnrecognizedCritical
fault_of_code codes_of.TzLeadingChar = faults.TzLeadingChar
fault_of_code codes_of.IanaCharPostSeparator = faults.IanaCharPostSeparator
fault_of_code codes_of.IanaChar = faults.IanaChar
fault_of_code codes_of.UtcTimeSeparator = faults.UtcTimeSeparator
fault_of_code codes_of.OffsetNeedsSign = faults.OffsetNeedsSign
fault_of_code codes_of.AbruptMonthDay = abrupt_month_day
fault_of_code codes_of.MonthDayHyphen = faults.MonthDayHyphen
fault_of_code codes_of.InvalidMonthDay = faults.InvalidMonthDay
fault_of_code codes_of.AmbiguousTimeMonthDay = faults.AmbiguousTimeMonthDay
fault_of_code codes_of.AmbiguousTimeYearMonth = faults.AmbiguousTimeYearMonth
fault_of_code codes_of.AbruptDurationStart = abrupt_duration_start
fault_of_code codes_of.AbruptDurationDesignator = abrupt_duration_designator
fault_of_code codes_of.AbruptDuration = abrupt_duration
fault_of_code codes_of.AbruptDateDesignator = abrupt_date_designator
fault_of_code codes_of.AbruptTimeDesignator = abrupt_time_designator
fault_of_code codes_of.DurationDisgnator = faults.DurationDisgnator
fault_of_code codes_of.DurationValueExceededRange = faults.DurationValueExceededRange
fault_of_code codes_of.DateDurationPartOrder = faults.DateDurationPartOrder
fault_of_code codes_of.TimeDurationPartOrder = faults.TimeDurationPartOrder
fault_of_code codes_of.TimeDurationDesignator = faults.TimeDurationDesignator

-- What follows the prefix of a line.
abbrev pub IsNext : Next → Text → Type 0
IsNext nexts.End text = text ≡ []
IsNext nexts.Bad text = (rest : Text) × (text ≡ Bad ∷ rest)
IsNext (nexts.Byte byte) text = (rest : Text) × (text ≡ Plain byte ∷ rest)

-- The fault at the end of the text. If the text may end, it does not matter.
abbrev pub end_fault : Ending → Fault
end_fault ok = faults.InvalidEnd
end_fault (error fault) = fault

-- The fault of a line whose prefix this text follows.
abbrev pub line_fault : Line → Text → Fault
line_fault (line front goes_on at_end at_other) [] = end_fault at_end
line_fault (line front goes_on at_end at_other) (Bad ∷ rest) = faults.NonAsciiCodePoint
line_fault (line front goes_on at_end at_other) (Plain c ∷ rest) = at_other c
line_fault (scanned front fault) [] = fault
line_fault (scanned front fault) (Bad ∷ rest) = faults.NonAsciiCodePoint
line_fault (scanned front fault) (Plain c ∷ rest) = fault
line_fault (whole front fault) text = fault

-- The fault of a `Reason` of a reader, if this text follows the prefix of its line. The first argument says whether the reader reads
-- brackets.
abbrev pub fault_at : Bool → Reason → Text → Fault
fault_at brackets reasons.YearStart text = line_fault (line_of brackets (of_date year_start)) text
fault_at brackets reasons.YearDigits text = line_fault (line_of brackets (of_date year_digits)) text
fault_at brackets reasons.ExtendedYearDigits text = line_fault (line_of brackets (of_date extended_year_digits)) text
fault_at brackets reasons.MinusZeroYear text = line_fault (line_of brackets (of_date minus_zero_year)) text
fault_at brackets reasons.AfterYear text = line_fault (line_of brackets (of_date after_year)) text
fault_at brackets reasons.MonthDigits text = line_fault (line_of brackets (of_date month_digits)) text
fault_at brackets reasons.MonthRange text = line_fault (line_of brackets (of_date month_range)) text
fault_at brackets reasons.AfterHyphenedMonth text = line_fault (line_of brackets (of_date after_hyphened_month)) text
fault_at brackets reasons.AfterBasicMonth text = line_fault (line_of brackets (of_date after_basic_month)) text
fault_at brackets reasons.DayDigits text = line_fault (line_of brackets (of_date day_digits)) text
fault_at brackets reasons.DayRange text = line_fault (line_of brackets (of_date day_range)) text
fault_at brackets reasons.AfterDate text = line_fault (line_of brackets (of_date after_date)) text
fault_at brackets reasons.AfterYearInYearMonth text = line_fault (line_of brackets (of_year_month after_year_in_year_month)) text
fault_at brackets reasons.AfterYearMonth text = line_fault (line_of brackets (of_year_month after_year_month)) text
fault_at brackets reasons.MonthDayStart text = line_fault (line_of brackets (of_month_day month_day_start)) text
fault_at brackets reasons.MonthDayHyphen text = line_fault (line_of brackets (of_month_day month_day_hyphen)) text
fault_at brackets reasons.MonthDayMonthDigits text = line_fault (line_of brackets (of_month_day month_day_month_digits)) text
fault_at brackets reasons.MonthDayMonthRange text = line_fault (line_of brackets (of_month_day month_day_month_range)) text
fault_at brackets reasons.AfterMonthDayMonth text = line_fault (line_of brackets (of_month_day after_month_day_month)) text
fault_at brackets reasons.MonthDayDayDigits text = line_fault (line_of brackets (of_month_day month_day_day_digits)) text
fault_at brackets reasons.MonthDayRange text = line_fault (line_of brackets (of_month_day (month_day_range Crate))) text
fault_at brackets reasons.AfterMonthDay text = line_fault (line_of brackets (of_month_day (after_month_day Crate))) text
fault_at brackets reasons.TimeStart text = line_fault (line_of brackets (of_time time_start)) text
fault_at brackets reasons.TimeReadsAsMonthDay text = line_fault (line_of brackets (of_time (time_reads_as_month_day Crate))) text
fault_at brackets reasons.TimeReadsAsYearMonth text = line_fault (line_of brackets (of_time time_reads_as_year_month)) text
fault_at brackets reasons.HourStart text = line_fault (line_of brackets (of_clock Time hour_start)) text
fault_at brackets reasons.HourDigit text = line_fault (line_of brackets (of_clock Time hour_digit)) text
fault_at brackets reasons.HourRange text = line_fault (line_of brackets (of_clock Time hour_range)) text
fault_at brackets reasons.AfterHour text = line_fault (line_of brackets (of_clock Time after_hour)) text
fault_at brackets reasons.MinuteDigits text = line_fault (line_of brackets (of_clock Time minute_digits)) text
fault_at brackets reasons.MinuteRange text = line_fault (line_of brackets (of_clock Time minute_range)) text
fault_at brackets reasons.AfterBasicMinute text = line_fault (line_of brackets (of_clock Time after_basic_minute)) text
fault_at brackets reasons.AfterColonMinute text = line_fault (line_of brackets (of_clock Time after_colon_minute)) text
fault_at brackets reasons.SecondDigits text = line_fault (line_of brackets (of_clock Time second_digits)) text
fault_at brackets reasons.SecondRange text = line_fault (line_of brackets (of_clock Time second_range)) text
fault_at brackets reasons.AfterSecond text = line_fault (line_of brackets (of_clock Time after_second)) text
fault_at brackets reasons.FractionStart text = line_fault (line_of brackets (of_clock Time fraction_start)) text
fault_at brackets reasons.AfterFraction text = line_fault (line_of brackets (of_clock Time after_fraction)) text
fault_at brackets reasons.OffsetHourStart text = line_fault (line_of brackets (of_clock Offset hour_start)) text
fault_at brackets reasons.OffsetHourDigit text = line_fault (line_of brackets (of_clock Offset hour_digit)) text
fault_at brackets reasons.OffsetHourRange text = line_fault (line_of brackets (of_clock Offset hour_range)) text
fault_at brackets reasons.OffsetAfterHour text = line_fault (line_of brackets (of_clock Offset after_hour)) text
fault_at brackets reasons.OffsetMinuteDigits text = line_fault (line_of brackets (of_clock Offset minute_digits)) text
fault_at brackets reasons.OffsetMinuteRange text = line_fault (line_of brackets (of_clock Offset minute_range)) text
fault_at brackets reasons.OffsetAfterBasicMinute text = line_fault (line_of brackets (of_clock Offset after_basic_minute)) text
fault_at brackets reasons.OffsetAfterColonMinute text = line_fault (line_of brackets (of_clock Offset after_colon_minute)) text
fault_at brackets reasons.OffsetSecondDigits text = line_fault (line_of brackets (of_clock Offset second_digits)) text
fault_at brackets reasons.OffsetSecondRange text = line_fault (line_of brackets (of_clock Offset second_range)) text
fault_at brackets reasons.OffsetAfterSecond text = line_fault (line_of brackets (of_clock Offset after_second)) text
fault_at brackets reasons.OffsetFractionStart text = line_fault (line_of brackets (of_clock Offset fraction_start)) text
fault_at brackets reasons.OffsetAfterFraction text = line_fault (line_of brackets (of_clock Offset after_fraction)) text
fault_at brackets reasons.ZoneOffsetHourStart text = line_fault (line_of brackets (of_clock MinuteOffset hour_start)) text
fault_at brackets reasons.ZoneOffsetHourDigit text = line_fault (line_of brackets (of_clock MinuteOffset hour_digit)) text
fault_at brackets reasons.ZoneOffsetHourRange text = line_fault (line_of brackets (of_clock MinuteOffset hour_range)) text
fault_at brackets reasons.ZoneOffsetAfterHour text = line_fault (line_of brackets (of_clock MinuteOffset after_hour)) text
fault_at brackets reasons.ZoneOffsetMinuteDigits text = line_fault (line_of brackets (of_clock MinuteOffset minute_digits)) text
fault_at brackets reasons.ZoneOffsetMinuteRange text = line_fault (line_of brackets (of_clock MinuteOffset minute_range)) text
fault_at brackets reasons.ZoneOffsetAfterBasicMinute text = line_fault (line_of brackets (of_clock MinuteOffset after_basic_minute)) text
fault_at brackets reasons.ZoneOffsetAfterColonMinute text = line_fault (line_of brackets (of_clock MinuteOffset after_colon_minute)) text
fault_at brackets reasons.ZoneOffsetSecondDigits text = line_fault (line_of brackets (of_clock MinuteOffset second_digits)) text
fault_at brackets reasons.ZoneOffsetSecondRange text = line_fault (line_of brackets (of_clock MinuteOffset second_range)) text
fault_at brackets reasons.ZoneOffsetAfterSecond text = line_fault (line_of brackets (of_clock MinuteOffset after_second)) text
fault_at brackets reasons.ZoneOffsetFractionStart text = line_fault (line_of brackets (of_clock MinuteOffset fraction_start)) text
fault_at brackets reasons.ZoneOffsetAfterFraction text = line_fault (line_of brackets (of_clock MinuteOffset after_fraction)) text
fault_at brackets reasons.OffsetStart text = line_fault (line_of brackets (of_offset offset_start)) text
fault_at brackets reasons.AfterZulu text = line_fault (line_of brackets (of_offset after_zulu)) text
fault_at brackets reasons.FourDigits text = line_fault (line_of brackets (of_date_time four_digits)) text
fault_at brackets reasons.AfterFourDigits text = line_fault (line_of brackets (of_date_time after_four_digits)) text
fault_at brackets reasons.MonthFieldDigits text = line_fault (line_of brackets (of_date_time (field_digits month_field))) text
fault_at brackets reasons.DayFieldDigits text = line_fault (line_of brackets (of_date_time (field_digits day_field))) text
fault_at brackets reasons.HourFieldDigits text = line_fault (line_of brackets (of_date_time (field_digits hour_field))) text
fault_at brackets reasons.MinuteFieldDigits text = line_fault (line_of brackets (of_date_time (field_digits minute_field))) text
fault_at brackets reasons.SecondFieldDigits text = line_fault (line_of brackets (of_date_time (field_digits second_field))) text
fault_at brackets reasons.OffsetHourFieldDigits text = line_fault (line_of brackets (of_date_time (field_digits offset_hour_field))) text
fault_at brackets reasons.OffsetMinuteFieldDigits text = line_fault (line_of brackets (of_date_time (field_digits offset_minute_field))) text
fault_at brackets reasons.MonthFieldRange text = line_fault (line_of brackets (of_date_time (field_range month_field))) text
fault_at brackets reasons.DayFieldRange text = line_fault (line_of brackets (of_date_time (field_range day_field))) text
fault_at brackets reasons.HourFieldRange text = line_fault (line_of brackets (of_date_time (field_range hour_field))) text
fault_at brackets reasons.MinuteFieldRange text = line_fault (line_of brackets (of_date_time (field_range minute_field))) text
fault_at brackets reasons.SecondFieldRange text = line_fault (line_of brackets (of_date_time (field_range second_field))) text
fault_at brackets reasons.OffsetHourFieldRange text = line_fault (line_of brackets (of_date_time (field_range offset_hour_field))) text
fault_at brackets reasons.OffsetMinuteFieldRange text = line_fault (line_of brackets (of_date_time (field_range offset_minute_field))) text
fault_at brackets reasons.AfterMonthField text = line_fault (line_of brackets (of_date_time (after_field month_field))) text
fault_at brackets reasons.AfterDayField text = line_fault (line_of brackets (of_date_time (after_field day_field))) text
fault_at brackets reasons.AfterHourField text = line_fault (line_of brackets (of_date_time (after_field hour_field))) text
fault_at brackets reasons.AfterMinuteField text = line_fault (line_of brackets (of_date_time (after_field minute_field))) text
fault_at brackets reasons.AfterSecondField text = line_fault (line_of brackets (of_date_time (after_field second_field))) text
fault_at brackets reasons.AfterOffsetHourField text = line_fault (line_of brackets (of_date_time (after_field offset_hour_field))) text
fault_at brackets reasons.AfterOffsetMinuteField text = line_fault (line_of brackets (of_date_time (after_field offset_minute_field))) text
fault_at brackets reasons.AfterPoint text = line_fault (line_of brackets (of_date_time after_point)) text
fault_at brackets reasons.AfterSecfrac text = line_fault (line_of brackets (of_date_time after_secfrac)) text
fault_at brackets reasons.AfterUtc text = line_fault (line_of brackets (of_date_time after_utc)) text
fault_at brackets reasons.IdentifierStart text = line_fault (line_of brackets (of_zone identifier_start)) text
fault_at brackets reasons.ZoneNameStart text = line_fault (line_of brackets (of_zone zone_name_start)) text
fault_at brackets reasons.InZoneName text = line_fault (line_of brackets (of_zone in_zone_name)) text
fault_at brackets reasons.AfterZoneSlash text = line_fault (line_of brackets (of_zone after_zone_slash)) text
fault_at brackets reasons.FirstBracketStart text = line_fault (line_of brackets (of_bracket first_bracket_start)) text
fault_at brackets reasons.FirstCriticalStart text = line_fault (line_of brackets (of_bracket first_critical_start)) text
fault_at brackets reasons.FirstBracketScan text = line_fault (line_of brackets (of_bracket first_bracket_scan)) text
fault_at brackets reasons.FirstNameForm text = line_fault (line_of brackets (of_bracket first_name_form)) text
fault_at brackets reasons.FirstOffsetForm text = line_fault (line_of brackets (of_bracket first_offset_form)) text
fault_at brackets reasons.AfterBracket text = line_fault (line_of brackets (of_bracket after_bracket)) text
fault_at brackets reasons.KeyStart text = line_fault (line_of brackets (of_pair key_start)) text
fault_at brackets reasons.CriticalKeyStart text = line_fault (line_of brackets (of_pair critical_key_start)) text
fault_at brackets reasons.InKey text = line_fault (line_of brackets (of_pair in_key)) text
fault_at brackets reasons.ValueStart text = line_fault (line_of brackets (of_pair value_start)) text
fault_at brackets reasons.InValue text = line_fault (line_of brackets (of_pair in_value)) text
fault_at brackets reasons.AfterValueHyphen text = line_fault (line_of brackets (of_pair after_value_hyphen)) text
fault_at brackets reasons.DurationStart text = line_fault (line_of brackets (of_duration Crate duration_start)) text
fault_at brackets reasons.AfterDurationSign text = line_fault (line_of brackets (of_duration Crate after_duration_sign)) text
fault_at brackets reasons.AfterDurationDesignator text = line_fault (line_of brackets (of_duration Crate after_duration_designator)) text
fault_at brackets reasons.AfterDateGroups text = line_fault (line_of brackets (of_duration Crate after_date_groups)) text
fault_at brackets reasons.AfterTimeDesignator text = line_fault (line_of brackets (of_duration Crate after_time_designator)) text
fault_at brackets reasons.AfterTimeGroups text = line_fault (line_of brackets (of_duration Crate after_time_groups)) text
fault_at brackets reasons.AfterFractionGroup text = line_fault (line_of brackets (of_duration Crate after_fraction_group)) text
fault_at brackets reasons.DateGroupDigits text = line_fault (line_of brackets (of_duration Crate (group_digits halves.date))) text
fault_at brackets reasons.TimeGroupDigits text = line_fault (line_of brackets (of_duration Crate (group_digits halves.time))) text
fault_at brackets reasons.DateGroupRange text = line_fault (line_of brackets (of_duration Crate (group_value_range halves.date))) text
fault_at brackets reasons.TimeGroupRange text = line_fault (line_of brackets (of_duration Crate (group_value_range halves.time))) text
fault_at brackets reasons.DateUnitOrder text = line_fault (line_of brackets (of_duration Crate (unit_order halves.date))) text
fault_at brackets reasons.TimeUnitOrder text = line_fault (line_of brackets (of_duration Crate (unit_order halves.time))) text
fault_at brackets reasons.DateUnitRange text = line_fault (line_of brackets (of_duration Crate date_unit_range)) text
fault_at brackets reasons.GroupFractionStart text = line_fault (line_of brackets (of_duration Crate group_fraction_start)) text
fault_at brackets reasons.GroupFractionDigits text = line_fault (line_of brackets (of_duration Crate group_fraction_digits)) text
fault_at brackets reasons.UnrecognizedCritical text = faults.UnrecognizedCritical
fault_at brackets reasons.CriticalDuplicateCalendar text = faults.CriticalDuplicateCalendar
