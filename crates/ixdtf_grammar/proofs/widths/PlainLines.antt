-- The prefix of each line is plain.
use Rattle.std.proofs.Common.{Bool}
use Rattle.ixdtf_grammar.specs.{declared.{profile.Profile.Profile, records.DateRecord.DateRecord}, language.{Shapes.some, Dates.{Year, Month}}}
use Rattle.ixdtf_grammar.specs.language.{Months.MonthDayText, Times.{Clock, TimeShape, BasicMinuteText, ColonMinuteText, ClockOf}}
use Rattle.ixdtf_grammar.specs.{language.Times.{Clock.Time, TimeShape.{hours, basic_minutes, colon_minutes, seconds, fractions}}, table.LineNames.DateLine}
use Rattle.ixdtf_grammar.specs.table.LineNames.{YearMonthLine, MonthDayLine, TimeLine, CoreLine, ClockLine, OffsetLine, ZoneLine, BracketLine, PairLine}
use Rattle.ixdtf_grammar.specs.table.LineNames.{DurationLine, LineName, DateLine.{year_start, year_digits, extended_year_digits, minus_zero_year, after_year}}
use Rattle.ixdtf_grammar.specs.table.LineNames.DateLine.{month_digits, month_range, after_hyphened_month, after_basic_month, day_digits, day_range}
use Rattle.ixdtf_grammar.specs.table.LineNames.{DateLine.after_date, YearMonthLine.{after_year_in_year_month, after_year_month}, MonthDayLine.month_day_start}
use Rattle.ixdtf_grammar.specs.table.LineNames.MonthDayLine.{month_day_hyphen, month_day_month_digits, month_day_month_range, after_month_day_month}
use Rattle.ixdtf_grammar.specs.table.LineNames.MonthDayLine.{month_day_day_digits, month_day_range, after_month_day}
use Rattle.ixdtf_grammar.specs.table.LineNames.TimeLine.{time_start, time_reads_as_month_day, time_reads_as_year_month}
use Rattle.ixdtf_grammar.specs.table.LineNames.{CoreLine.{dates, year_months, month_days, times}, ClockLine.{hour_start, hour_digit, hour_range, after_hour}}
use Rattle.ixdtf_grammar.specs.table.LineNames.ClockLine.{minute_digits, minute_range, after_basic_minute, after_colon_minute, second_digits, second_range}
use Rattle.ixdtf_grammar.specs.table.LineNames.{ClockLine.{after_second, fraction_start, after_fraction}, OffsetLine.{offset_start, after_zulu}}
use Rattle.ixdtf_grammar.specs.table.LineNames.ZoneLine.{identifier_start, zone_name_start, in_zone_name, after_zone_slash}
use Rattle.ixdtf_grammar.specs.table.LineNames.BracketLine.{first_bracket_start, first_critical_start, first_bracket_scan, first_dots_form, first_name_form, first_offset_form, after_bracket}
use Rattle.ixdtf_grammar.specs.table.LineNames.PairLine.{key_start, critical_key_start, in_key, value_start, in_value, after_value_hyphen}
use Rattle.ixdtf_grammar.specs.table.LineNames.DurationLine.{duration_start, after_duration_sign, after_duration_designator, after_date_groups}
use Rattle.ixdtf_grammar.specs.table.LineNames.DurationLine.{after_time_designator, group_digits, group_value_range, unit_order, date_unit_range}
use Rattle.ixdtf_grammar.specs.table.LineNames.DurationLine.{group_fraction_start, group_fraction_digits, after_time_groups, after_fraction_group}
use Rattle.ixdtf_grammar.specs.table.{LineNames.LineName.{of_core, of_clock, of_offset, of_date_time, of_zone, of_bracket, of_pair, of_duration}, Lines.{Follow, date_line}}
use Rattle.ixdtf_grammar.specs.table.Lines.{year_month_line, month_day_line, time_line, core_line, clock_line, offset_line, zone_line, bracket_line}
use Rattle.ixdtf_grammar.specs.table.{Lines.{pair_line, duration_line, Hour, line_of}, Rows.front_of}
use Rattle.ixdtf_grammar.proofs.widths.PlainTexts.{PlainShape, plain_nothing, plain_one, ◌and_then◌, ◌or_else◌, plain_digits, plain_fewer, plain_some_digits}
use Rattle.ixdtf_grammar.proofs.widths.PlainTexts.{plain_many, plain_with, plain_where, zone_bracket_plain, plain_some, plain_inside, plain_shape, date_plain}
use Rattle.ixdtf_grammar.proofs.{parts.CoreLetters.{in_year, in_hyphens, in_marks, in_year_month, in_month_day}, theorems.CoreEnds.{in_date, in_clock}}
use Rattle.ixdtf_grammar.proofs.widths.{PlainTexts.{plain_name, plain_key, plain_value}, PlainDurations.{designator_plain, plain_number, plain_in_context}}
use Rattle.ixdtf_grammar.proofs.widths.PlainDurations.{plain_after_dates, plain_after_time, plain_after_times, plain_value_past, plain_out_of_order}
use Rattle.ixdtf_grammar.proofs.widths.{PlainDurations.{plain_unit_past, plain_last_group}, PlainDateTimes.plain_date_time_line}

-- ---- cores

plain_year : PlainShape (some Year)
plain_year = plain_inside in_year

plain_month : PlainShape (some Month)
plain_month = plain_some (λ text month h. (plain_digits 2).plain text h.0.0)

plain_month_day : {more : DateRecord → Type 0} → PlainShape (some (λ text date. MonthDayText text date × more date))
plain_month_day = plain_inside (λ text date h. in_month_day text date h.0)

plain_date_line : (name : DateLine) → PlainShape (front_of (date_line name))
plain_date_line year_start = plain_nothing
plain_date_line year_digits = plain_one and_then plain_fewer
plain_date_line extended_year_digits = plain_one and_then plain_fewer
plain_date_line minus_zero_year = plain_one and_then plain_with (plain_digits 6)
plain_date_line after_year = plain_year
plain_date_line month_digits = plain_year and_then (plain_one or_else plain_one and_then plain_one or_else plain_one)
plain_date_line month_range = plain_year and_then (plain_nothing or_else plain_one) and_then plain_with (plain_digits 2)
plain_date_line after_hyphened_month = plain_year and_then plain_one and_then plain_month
plain_date_line after_basic_month = plain_year and_then plain_month
plain_date_line day_digits =
    plain_year and_then plain_month and_then plain_one
    or_else plain_year and_then plain_one and_then plain_month and_then plain_one and_then plain_fewer
plain_date_line day_range = plain_inside (λ text date h. in_date text date h.0)
plain_date_line after_date = plain_some date_plain

plain_year_month_line : (name : YearMonthLine) → PlainShape (front_of (year_month_line name))
plain_year_month_line after_year_in_year_month = plain_year
plain_year_month_line after_year_month = plain_inside in_year_month

plain_month_day_line : (name : MonthDayLine) → PlainShape (front_of (month_day_line name))
plain_month_day_line month_day_start = plain_nothing
plain_month_day_line month_day_hyphen = plain_one
plain_month_day_line month_day_month_digits = plain_one and_then plain_one or_else plain_shape in_marks and_then plain_one
plain_month_day_line month_day_month_range = plain_shape in_marks and_then plain_with (plain_digits 2)
plain_month_day_line after_month_day_month = plain_shape in_marks and_then plain_month
plain_month_day_line month_day_day_digits = plain_shape in_marks and_then plain_month and_then (plain_one or_else plain_shape in_hyphens and_then plain_one)
plain_month_day_line (month_day_range profile) = plain_month_day
plain_month_day_line (after_month_day profile) = plain_month_day

plain_time_line : (name : TimeLine) → PlainShape (front_of (time_line name))
plain_time_line time_start = plain_nothing
plain_time_line (time_reads_as_month_day profile) = plain_month_day
plain_time_line time_reads_as_year_month = plain_inside in_year_month

plain_core_line : (name : CoreLine) → PlainShape (front_of (core_line name))
plain_core_line (dates name) = plain_date_line name
plain_core_line (year_months name) = plain_year_month_line name
plain_core_line (month_days name) = plain_month_day_line name
plain_core_line (times name) = plain_time_line name

-- ---- times, and offsets after their sign

plain_clock : (clock : Clock) (shape : TimeShape) → PlainShape (some (ClockOf clock shape))
plain_clock clock shape = plain_inside (in_clock clock shape)

plain_hour : PlainShape (some Hour)
plain_hour = plain_some (λ text hour h. (plain_digits 2).plain text h.0)

-- An hour and a minute are plain, before the digits of a second.
plain_minute : PlainShape (some BasicMinuteText)
plain_minute = plain_inside (in_clock Time basic_minutes)

colon_minute : PlainShape (some ColonMinuteText)
colon_minute = plain_inside (in_clock Time colon_minutes)

plain_clock_line : (follow : Follow) (clock : Clock) (name : ClockLine) → PlainShape (front_of (clock_line follow clock name))
plain_clock_line follow clock hour_start = plain_nothing
plain_clock_line follow clock hour_digit = plain_one
plain_clock_line follow clock hour_range = plain_with (plain_digits 2)
plain_clock_line follow clock after_hour = plain_clock clock hours
plain_clock_line follow clock minute_digits = plain_hour and_then (plain_one or_else plain_one and_then plain_one or_else plain_one)
plain_clock_line follow clock minute_range = plain_hour and_then (plain_nothing or_else plain_one) and_then plain_with (plain_digits 2)
plain_clock_line follow clock after_basic_minute = plain_clock clock basic_minutes
plain_clock_line follow clock after_colon_minute = plain_clock clock colon_minutes
plain_clock_line follow clock second_digits = plain_where (plain_minute and_then plain_one or_else colon_minute and_then plain_one and_then plain_fewer)
plain_clock_line follow clock second_range =
    plain_where (plain_minute and_then plain_with (plain_digits 2) or_else colon_minute and_then plain_one and_then plain_with (plain_digits 2))
plain_clock_line follow clock after_second = plain_clock clock seconds
plain_clock_line follow clock fraction_start = plain_clock clock seconds and_then plain_one
plain_clock_line follow clock after_fraction = plain_clock clock fractions

-- ---- offsets, zones and brackets

plain_offset_line : (name : OffsetLine) → PlainShape (front_of (offset_line name))
plain_offset_line offset_start = plain_nothing
plain_offset_line after_zulu = plain_one

plain_zone_line : (brackets : Bool) (name : ZoneLine) → PlainShape (front_of (zone_line brackets name))
plain_zone_line brackets identifier_start = plain_nothing
plain_zone_line brackets zone_name_start = plain_nothing
plain_zone_line brackets in_zone_name = plain_name
plain_zone_line brackets after_zone_slash = plain_name and_then plain_one

plain_bracket_line : (name : BracketLine) → PlainShape (front_of (bracket_line name))
plain_bracket_line first_bracket_start = plain_one
plain_bracket_line first_critical_start = plain_one and_then plain_one
plain_bracket_line first_bracket_scan = plain_one and_then plain_many plain_one
plain_bracket_line first_dots_form = record { plain = λ text h. zone_bracket_plain text _ h.2.0 }
plain_bracket_line first_name_form = record { plain = λ text h. zone_bracket_plain text _ h.2.0 }
plain_bracket_line first_offset_form = record { plain = λ text h. zone_bracket_plain text _ h.2.0 }
plain_bracket_line after_bracket = plain_nothing

plain_pair_line : (name : PairLine) → PlainShape (front_of (pair_line name))
plain_pair_line key_start = plain_one
plain_pair_line critical_key_start = plain_one and_then plain_one
plain_pair_line in_key = plain_key
plain_pair_line value_start = plain_key and_then plain_one
plain_pair_line in_value = plain_key and_then plain_one and_then plain_value
plain_pair_line after_value_hyphen = plain_key and_then plain_one and_then plain_value and_then plain_one

-- ---- durations

plain_duration_line : (profile : Profile) (name : DurationLine) → PlainShape (front_of (duration_line profile name))
plain_duration_line profile duration_start = plain_nothing
plain_duration_line profile after_duration_sign = plain_one
plain_duration_line profile after_duration_designator = plain_some designator_plain
plain_duration_line profile after_date_groups = plain_after_dates profile
plain_duration_line profile after_time_designator = plain_after_time profile
plain_duration_line profile after_time_groups = plain_after_times profile
plain_duration_line profile (group_digits half) = plain_in_context profile (λ context. plain_number)
plain_duration_line profile (group_value_range half) = plain_in_context profile (λ context. plain_value_past)
plain_duration_line profile (unit_order half) = plain_in_context profile (plain_out_of_order profile half)
plain_duration_line profile date_unit_range = plain_in_context profile (plain_unit_past profile)
plain_duration_line profile group_fraction_start = plain_in_context profile (λ context. plain_number and_then plain_one)
plain_duration_line profile group_fraction_digits = plain_in_context profile (λ context. plain_number and_then plain_one and_then plain_some_digits)
plain_duration_line profile after_fraction_group = plain_in_context profile (plain_last_group profile)

-- ---- any line

pub plain_line : (brackets : Bool) (name : LineName) → PlainShape (front_of (line_of brackets name))
plain_line brackets (of_core name) = plain_core_line name
plain_line brackets (of_clock clock name) = plain_clock_line _ clock name
plain_line brackets (of_offset name) = plain_offset_line name
plain_line brackets (of_date_time name) = plain_date_time_line brackets name
plain_line brackets (of_zone name) = plain_zone_line brackets name
plain_line brackets (of_bracket name) = plain_bracket_line name
plain_line brackets (of_pair name) = plain_pair_line name
plain_line brackets (of_duration profile name) = plain_duration_line profile name
