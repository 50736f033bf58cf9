-- The reason of each line of the fault table. A reader returns it with the position of an error.
use Rattle.ixdtf_grammar.specs.declared.reason.Reason.{Reason}
use Rattle.ixdtf_grammar.specs.declared.reason.Reason.TheVariants as reasons
use Rattle.std.specs.Prelude.{◌≡◌, ◌⊎◌}
use Rattle.ixdtf_grammar.specs.table.Faults.{Fault, Fault as faults}
use Rattle.ixdtf_grammar.specs.language.{Times.{Clock, Clock.{Time, Offset, MinuteOffset}}, Durations.{Half as halves}}
use Rattle.ixdtf_grammar.specs.table.DateTimeFronts.Field.{month_field, day_field, hour_field, minute_field, second_field, offset_hour_field, offset_minute_field}
use Rattle.ixdtf_grammar.specs.table.LineNames.{DateLine, YearMonthLine, MonthDayLine, TimeLine, CoreLine, ClockLine, OffsetLine, DateTimeLine, ZoneLine, BracketLine, PairLine, DurationLine, LineName}
use Rattle.ixdtf_grammar.specs.table.LineNames.{CoreLine.{dates, year_months, month_days, times}, LineName.{of_core, of_clock, of_offset, of_date_time, of_zone, of_bracket, of_pair, of_duration}}
use Rattle.ixdtf_grammar.specs.table.LineNames.DateLine.{year_start, year_digits, extended_year_digits, minus_zero_year, after_year, month_digits, month_range, after_hyphened_month, after_basic_month, day_digits, day_range, after_date}
use Rattle.ixdtf_grammar.specs.table.LineNames.YearMonthLine.{after_year_in_year_month, after_year_month}
use Rattle.ixdtf_grammar.specs.table.LineNames.MonthDayLine.{month_day_start, month_day_hyphen, month_day_month_digits, month_day_month_range, after_month_day_month, month_day_day_digits, month_day_range, after_month_day}
use Rattle.ixdtf_grammar.specs.table.LineNames.TimeLine.{time_start, time_reads_as_month_day, time_reads_as_year_month}
use Rattle.ixdtf_grammar.specs.table.LineNames.ClockLine.{hour_start, hour_digit, hour_range, after_hour, minute_digits, minute_range, after_basic_minute, after_colon_minute, second_digits, second_range, after_second, fraction_start, after_fraction}
use Rattle.ixdtf_grammar.specs.table.LineNames.OffsetLine.{offset_start, after_zulu}
use Rattle.ixdtf_grammar.specs.table.LineNames.DateTimeLine.{four_digits, after_four_digits, field_digits, field_range, after_field, after_point, after_secfrac, after_utc}
use Rattle.ixdtf_grammar.specs.table.LineNames.ZoneLine.{identifier_start, zone_name_start, in_zone_name, after_zone_slash}
use Rattle.ixdtf_grammar.specs.table.LineNames.BracketLine.{first_bracket_start, first_critical_start, first_bracket_scan, first_dots_form, first_name_form, first_offset_form, after_bracket}
use Rattle.ixdtf_grammar.specs.table.LineNames.PairLine.{key_start, critical_key_start, in_key, value_start, in_value, after_value_hyphen}
use Rattle.ixdtf_grammar.specs.table.LineNames.DurationLine.{duration_start, after_duration_sign, after_duration_designator, after_date_groups, after_time_designator, after_time_groups, after_fraction_group, group_digits, group_value_range, unit_order, date_unit_range, group_fraction_start, group_fraction_digits}

abbrev pub date_reason : DateLine → Reason
date_reason year_start = reasons.YearStart
date_reason year_digits = reasons.YearDigits
date_reason extended_year_digits = reasons.ExtendedYearDigits
date_reason minus_zero_year = reasons.MinusZeroYear
date_reason after_year = reasons.AfterYear
date_reason month_digits = reasons.MonthDigits
date_reason month_range = reasons.MonthRange
date_reason after_hyphened_month = reasons.AfterHyphenedMonth
date_reason after_basic_month = reasons.AfterBasicMonth
date_reason day_digits = reasons.DayDigits
date_reason day_range = reasons.DayRange
date_reason after_date = reasons.AfterDate

abbrev pub year_month_reason : YearMonthLine → Reason
year_month_reason after_year_in_year_month = reasons.AfterYearInYearMonth
year_month_reason after_year_month = reasons.AfterYearMonth

abbrev pub month_day_reason : MonthDayLine → Reason
month_day_reason month_day_start = reasons.MonthDayStart
month_day_reason month_day_hyphen = reasons.MonthDayHyphen
month_day_reason month_day_month_digits = reasons.MonthDayMonthDigits
month_day_reason month_day_month_range = reasons.MonthDayMonthRange
month_day_reason after_month_day_month = reasons.AfterMonthDayMonth
month_day_reason month_day_day_digits = reasons.MonthDayDayDigits
month_day_reason (month_day_range profile) = reasons.MonthDayRange
month_day_reason (after_month_day profile) = reasons.AfterMonthDay

abbrev pub time_reason : TimeLine → Reason
time_reason time_start = reasons.TimeStart
time_reason (time_reads_as_month_day profile) = reasons.TimeReadsAsMonthDay
time_reason time_reads_as_year_month = reasons.TimeReadsAsYearMonth

abbrev pub offset_reason : OffsetLine → Reason
offset_reason offset_start = reasons.OffsetStart
offset_reason after_zulu = reasons.AfterZulu

abbrev pub date_time_reason : DateTimeLine → Reason
date_time_reason four_digits = reasons.FourDigits
date_time_reason after_four_digits = reasons.AfterFourDigits
date_time_reason (field_digits month_field) = reasons.MonthFieldDigits
date_time_reason (field_digits day_field) = reasons.DayFieldDigits
date_time_reason (field_digits hour_field) = reasons.HourFieldDigits
date_time_reason (field_digits minute_field) = reasons.MinuteFieldDigits
date_time_reason (field_digits second_field) = reasons.SecondFieldDigits
date_time_reason (field_digits offset_hour_field) = reasons.OffsetHourFieldDigits
date_time_reason (field_digits offset_minute_field) = reasons.OffsetMinuteFieldDigits
date_time_reason (field_range month_field) = reasons.MonthFieldRange
date_time_reason (field_range day_field) = reasons.DayFieldRange
date_time_reason (field_range hour_field) = reasons.HourFieldRange
date_time_reason (field_range minute_field) = reasons.MinuteFieldRange
date_time_reason (field_range second_field) = reasons.SecondFieldRange
date_time_reason (field_range offset_hour_field) = reasons.OffsetHourFieldRange
date_time_reason (field_range offset_minute_field) = reasons.OffsetMinuteFieldRange
date_time_reason (after_field month_field) = reasons.AfterMonthField
date_time_reason (after_field day_field) = reasons.AfterDayField
date_time_reason (after_field hour_field) = reasons.AfterHourField
date_time_reason (after_field minute_field) = reasons.AfterMinuteField
date_time_reason (after_field second_field) = reasons.AfterSecondField
date_time_reason (after_field offset_hour_field) = reasons.AfterOffsetHourField
date_time_reason (after_field offset_minute_field) = reasons.AfterOffsetMinuteField
date_time_reason after_point = reasons.AfterPoint
date_time_reason after_secfrac = reasons.AfterSecfrac
date_time_reason after_utc = reasons.AfterUtc

abbrev pub zone_reason : ZoneLine → Reason
zone_reason identifier_start = reasons.IdentifierStart
zone_reason zone_name_start = reasons.ZoneNameStart
zone_reason in_zone_name = reasons.InZoneName
zone_reason after_zone_slash = reasons.AfterZoneSlash

abbrev pub bracket_reason : BracketLine → Reason
bracket_reason first_bracket_start = reasons.FirstBracketStart
bracket_reason first_critical_start = reasons.FirstCriticalStart
bracket_reason first_bracket_scan = reasons.FirstBracketScan
bracket_reason first_dots_form = reasons.FirstNameForm
bracket_reason first_name_form = reasons.FirstNameForm
bracket_reason first_offset_form = reasons.FirstOffsetForm
bracket_reason after_bracket = reasons.AfterBracket

abbrev pub pair_reason : PairLine → Reason
pair_reason key_start = reasons.KeyStart
pair_reason critical_key_start = reasons.CriticalKeyStart
pair_reason in_key = reasons.InKey
pair_reason value_start = reasons.ValueStart
pair_reason in_value = reasons.InValue
pair_reason after_value_hyphen = reasons.AfterValueHyphen

abbrev pub duration_reason : DurationLine → Reason
duration_reason duration_start = reasons.DurationStart
duration_reason after_duration_sign = reasons.AfterDurationSign
duration_reason after_duration_designator = reasons.AfterDurationDesignator
duration_reason after_date_groups = reasons.AfterDateGroups
duration_reason after_time_designator = reasons.AfterTimeDesignator
duration_reason after_time_groups = reasons.AfterTimeGroups
duration_reason after_fraction_group = reasons.AfterFractionGroup
duration_reason (group_digits halves.date) = reasons.DateGroupDigits
duration_reason (group_digits halves.time) = reasons.TimeGroupDigits
duration_reason (group_value_range halves.date) = reasons.DateGroupRange
duration_reason (group_value_range halves.time) = reasons.TimeGroupRange
duration_reason (unit_order halves.date) = reasons.DateUnitOrder
duration_reason (unit_order halves.time) = reasons.TimeUnitOrder
duration_reason date_unit_range = reasons.DateUnitRange
duration_reason group_fraction_start = reasons.GroupFractionStart
duration_reason group_fraction_digits = reasons.GroupFractionDigits

abbrev pub clock_reason : Clock → ClockLine → Reason
clock_reason Time hour_start = reasons.HourStart
clock_reason Time hour_digit = reasons.HourDigit
clock_reason Time hour_range = reasons.HourRange
clock_reason Time after_hour = reasons.AfterHour
clock_reason Time minute_digits = reasons.MinuteDigits
clock_reason Time minute_range = reasons.MinuteRange
clock_reason Time after_basic_minute = reasons.AfterBasicMinute
clock_reason Time after_colon_minute = reasons.AfterColonMinute
clock_reason Time second_digits = reasons.SecondDigits
clock_reason Time second_range = reasons.SecondRange
clock_reason Time after_second = reasons.AfterSecond
clock_reason Time fraction_start = reasons.FractionStart
clock_reason Time after_fraction = reasons.AfterFraction
clock_reason Offset hour_start = reasons.OffsetHourStart
clock_reason Offset hour_digit = reasons.OffsetHourDigit
clock_reason Offset hour_range = reasons.OffsetHourRange
clock_reason Offset after_hour = reasons.OffsetAfterHour
clock_reason Offset minute_digits = reasons.OffsetMinuteDigits
clock_reason Offset minute_range = reasons.OffsetMinuteRange
clock_reason Offset after_basic_minute = reasons.OffsetAfterBasicMinute
clock_reason Offset after_colon_minute = reasons.OffsetAfterColonMinute
clock_reason Offset second_digits = reasons.OffsetSecondDigits
clock_reason Offset second_range = reasons.OffsetSecondRange
clock_reason Offset after_second = reasons.OffsetAfterSecond
clock_reason Offset fraction_start = reasons.OffsetFractionStart
clock_reason Offset after_fraction = reasons.OffsetAfterFraction
clock_reason MinuteOffset hour_start = reasons.ZoneOffsetHourStart
clock_reason MinuteOffset hour_digit = reasons.ZoneOffsetHourDigit
clock_reason MinuteOffset hour_range = reasons.ZoneOffsetHourRange
clock_reason MinuteOffset after_hour = reasons.ZoneOffsetAfterHour
clock_reason MinuteOffset minute_digits = reasons.ZoneOffsetMinuteDigits
clock_reason MinuteOffset minute_range = reasons.ZoneOffsetMinuteRange
clock_reason MinuteOffset after_basic_minute = reasons.ZoneOffsetAfterBasicMinute
clock_reason MinuteOffset after_colon_minute = reasons.ZoneOffsetAfterColonMinute
clock_reason MinuteOffset second_digits = reasons.ZoneOffsetSecondDigits
clock_reason MinuteOffset second_range = reasons.ZoneOffsetSecondRange
clock_reason MinuteOffset after_second = reasons.ZoneOffsetAfterSecond
clock_reason MinuteOffset fraction_start = reasons.ZoneOffsetFractionStart
clock_reason MinuteOffset after_fraction = reasons.ZoneOffsetAfterFraction

abbrev pub core_reason : CoreLine → Reason
core_reason (dates name) = date_reason name
core_reason (year_months name) = year_month_reason name
core_reason (month_days name) = month_day_reason name
core_reason (times name) = time_reason name

-- The reason of a line. It does not depend on the profile.
abbrev pub reason_of : LineName → Reason
reason_of (of_core name) = core_reason name
reason_of (of_clock clock name) = clock_reason clock name
reason_of (of_offset name) = offset_reason name
reason_of (of_date_time name) = date_time_reason name
reason_of (of_zone name) = zone_reason name
reason_of (of_bracket name) = bracket_reason name
reason_of (of_pair name) = pair_reason name
reason_of (of_duration profile name) = duration_reason name

-- The reason and the fault are those of the same refusal of an annotation.
abbrev pub Refuses : Reason → Fault → Type 0
Refuses reason fault = ((reason ≡ reasons.UnrecognizedCritical) × (fault ≡ faults.UnrecognizedCritical))
    ⊎ ((reason ≡ reasons.CriticalDuplicateCalendar) × (fault ≡ faults.CriticalDuplicateCalendar))
