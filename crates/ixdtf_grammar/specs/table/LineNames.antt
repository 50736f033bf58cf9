-- The names of the lines of the fault table.
use Rattle.ixdtf_grammar.specs.{declared.profile.Profile.Profile, language.{Times.Clock, Durations.Half}, table.DateTimeFronts.Field}

-- These are the lines of dates.
pub data DateLine : Type 0 where
  year_start year_digits extended_year_digits minus_zero_year : DateLine
  after_year month_digits month_range : DateLine
  after_hyphened_month after_basic_month day_digits day_range after_date : DateLine

-- These are the other lines of year-months, besides the lines of dates.
pub data YearMonthLine : Type 0 where
  after_year_in_year_month after_year_month : YearMonthLine

-- These are the lines of month-days. The prefixes of two of them depend on a profile.
pub data MonthDayLine : Type 0 where
  month_day_start month_day_hyphen month_day_month_digits month_day_month_range : MonthDayLine
  after_month_day_month month_day_day_digits : MonthDayLine
  month_day_range after_month_day : Profile → MonthDayLine

-- These are the other lines of times without a date: the beginning of a time, and the two prefixes that can also be read as a
-- year-month or as a month-day. The line of month-days depends on a profile.
pub data TimeLine : Type 0 where
  time_start time_reads_as_year_month : TimeLine
  time_reads_as_month_day : Profile → TimeLine

-- These are the lines of cores without the lines of times and offsets, by the part that they are about.
pub data CoreLine : Type 0 where
  dates : DateLine → CoreLine
  year_months : YearMonthLine → CoreLine
  month_days : MonthDayLine → CoreLine
  times : TimeLine → CoreLine

-- These are the lines of times, and of offsets after their sign.
pub data ClockLine : Type 0 where
  hour_start hour_digit hour_range after_hour : ClockLine
  minute_digits minute_range after_basic_minute after_colon_minute : ClockLine
  second_digits second_range after_second fraction_start after_fraction : ClockLine

-- These are the other lines of offsets.
pub data OffsetLine : Type 0 where
  offset_start after_zulu : OffsetLine

-- These are the lines of date-times of RFC 3339. They are about the year, about the other numbers, and about the text after the seconds.
pub data DateTimeLine : Type 0 where
  four_digits after_four_digits : DateTimeLine
  field_digits field_range after_field : Field → DateTimeLine
  after_point after_secfrac after_utc : DateTimeLine

-- These are the lines of zone names.
pub data ZoneLine : Type 0 where
  identifier_start zone_name_start in_zone_name after_zone_slash : ZoneLine

-- These are the lines of brackets. Three of them are about a zone that has to be exact.
pub data BracketLine : Type 0 where
  first_bracket_start first_critical_start first_bracket_scan : BracketLine
  first_dots_form first_name_form first_offset_form after_bracket : BracketLine

-- These are the lines of annotations.
pub data PairLine : Type 0 where
  key_start critical_key_start in_key value_start in_value after_value_hyphen : PairLine

-- These are the lines of durations.
pub data DurationLine : Type 0 where
  duration_start after_duration_sign after_duration_designator : DurationLine
  after_date_groups after_time_designator after_time_groups after_fraction_group : DurationLine
  group_digits group_value_range unit_order : Half → DurationLine
  date_unit_range group_fraction_start group_fraction_digits : DurationLine

-- These are all lines, by the part that they are about. The lines of durations depend on a profile.
pub data LineName : Type 0 where
  of_core : CoreLine → LineName
  of_clock : Clock → ClockLine → LineName
  of_offset : OffsetLine → LineName
  of_date_time : DateTimeLine → LineName
  of_zone : ZoneLine → LineName
  of_bracket : BracketLine → LineName
  of_pair : PairLine → LineName
  of_duration : Profile → DurationLine → LineName

-- This is a line of dates.
pattern abbrev pub of_date : DateLine → LineName
of_date name = of_core (dates name)

-- This is a line of year-months.
pattern abbrev pub of_year_month : YearMonthLine → LineName
of_year_month name = of_core (year_months name)

-- This is a line of month-days.
pattern abbrev pub of_month_day : MonthDayLine → LineName
of_month_day name = of_core (month_days name)

-- This is one of the other lines of times without a date.
pattern abbrev pub of_time : TimeLine → LineName
of_time name = of_core (times name)
