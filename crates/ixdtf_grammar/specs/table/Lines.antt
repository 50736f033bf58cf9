-- The fault table, line by line. The comment on a line says what the prefix of the line is.
use Rattle.std.specs.Prelude.{◌≡◌, ◌⊎◌, IsTrue, IsFalse, ℕ, ◌<◌, ◌&&◌, ◌||◌, Bool, List, codes, if◌then◌else◌}
use Rattle.ixdtf_grammar.specs.{declared.{profile.Profile.Profile, records.{DateRecord.DateRecord, MinutePrecisionOffset.MinutePrecisionOffset}}, language.Letters.{Text, Class, ◌or◌, none, digit, sign}}
use Rattle.ixdtf_grammar.specs.language.Letters.{hyphen, colon, decimal_mark, date_time_separator, zulu, opening, closing, time_letter, exclamation, equals}
use Rattle.ixdtf_grammar.specs.language.Letters.{slash, zone_lead, zone_char, key_lead, key_char, value_char, duration_designator}
use Rattle.ixdtf_grammar.specs.language.{Shapes.{Shape, nothing, one, ◌then◌, ◌either◌, digits, fewer_digits_than, some, many}, Digits.{decimal, UpTo}}
use Rattle.ixdtf_grammar.specs.language.{Dates.{Year, Month, DateText, IsDayOfMonth, IsDate}, DateTimes.{FullDateText}, Rfc3339.SecondFraction}
use Rattle.ixdtf_grammar.specs.language.Months.{Marks, OptionalHyphen, IsYearMonth, MonthDayText, IsDayOfSomeYear, IsMonthDay}
use Rattle.ixdtf_grammar.specs.language.Times.{Clock, ClockOf, BasicMinuteText, ColonMinuteText, greatest_second, has_seconds}
use Rattle.ixdtf_grammar.specs.language.Times.{Clock.{Time, Offset, MinuteOffset}, TimeShape.{hours, basic_minutes, colon_minutes, seconds, fractions}}
use Rattle.ixdtf_grammar.specs.language.{ZoneNames.{ZoneName, Zone, Zone.{Name, Offset}, has_dots}, Brackets.{skipped, Key, Value, ZoneNote, IsZoneBracket, IsExactBracket}, Readers.{Reader, has_brackets}, Fractions.SomeDigits}
use Rattle.ixdtf_grammar.specs.{language.Durations.{Half, Number, SignedDesignator, designator, Half as halves}, table.Faults.{Fault, Fault.AbruptEnd}}
use Rattle.ixdtf_grammar.specs.table.Faults.Fault.{InvalidEnd, InvalidMonthRange, InvalidDayRange, DateYear, DateExtendedYear, DateMonth, DateDay}
use Rattle.ixdtf_grammar.specs.table.Faults.Fault.{DateSeparator, TimeHour, TimeMinuteSecond, TimeSecond, TimeSeparator, FractionPart, UtcTimeSeparator}
use Rattle.ixdtf_grammar.specs.table.Faults.Fault.{InvalidMinutePrecisionOffset, OffsetNeedsSign, TzLeadingChar, IanaChar, IanaCharPostSeparator}
use Rattle.ixdtf_grammar.specs.table.Faults.Fault.{AnnotationClose, AnnotationKeyLeadingChar, AnnotationKeyChar, AnnotationKeyValueSeparator}
use Rattle.ixdtf_grammar.specs.table.Faults.Fault.{AnnotationValueChar, DurationDisgnator, DurationValueExceededRange, DateDurationPartOrder}
use Rattle.ixdtf_grammar.specs.table.Faults.Fault.{TimeDurationPartOrder, TimeDurationDesignator, AnnotationValueCharPostHyphen, MonthDayHyphen}
use Rattle.ixdtf_grammar.specs.table.{Faults.Fault.{InvalidMonthDay, AmbiguousTimeMonthDay, AmbiguousTimeYearMonth}, DurationFronts.InContext}
use Rattle.ixdtf_grammar.specs.table.DurationFronts.{AfterDateGroups, AfterTimeDesignator, AfterTimeGroups, ValuePast, OutOfOrder, UnitPast, LastGroup}
use Rattle.ixdtf_grammar.specs.table.DateTimeFronts.{Field, point, UntilMonth, UntilHour, UntilMinute, UntilSecond, ThroughSecond, ThroughTime}
use Rattle.ixdtf_grammar.specs.table.DateTimeFronts.{UntilOffsetHour, UntilOffsetMinute, Until, Through}
use Rattle.ixdtf_grammar.specs.table.DateTimeFronts.Field.{month_field, day_field, hour_field, minute_field, second_field, offset_hour_field}
use Rattle.ixdtf_grammar.specs.table.DateTimeFronts.Field.{offset_minute_field}
use Rattle.ixdtf_grammar.specs.table.LineNames.{DateTimeLine, DateTimeLine.{four_digits, after_four_digits, field_digits, field_range, after_field}}
use Rattle.ixdtf_grammar.specs.table.LineNames.DateTimeLine.{after_point, after_secfrac, after_utc}
use Rattle.ixdtf_grammar.specs.table.{DurationFronts.group_mark, LineNames.{DateLine, YearMonthLine, MonthDayLine, TimeLine, CoreLine, ClockLine, OffsetLine}}
use Rattle.ixdtf_grammar.specs.table.LineNames.{ZoneLine, BracketLine, PairLine, DurationLine, LineName, DateLine.{year_start, year_digits}}
use Rattle.ixdtf_grammar.specs.table.LineNames.DateLine.{extended_year_digits, minus_zero_year, after_year, month_digits, month_range, after_hyphened_month}
use Rattle.ixdtf_grammar.specs.table.LineNames.DateLine.{after_basic_month, day_digits, day_range, after_date}
use Rattle.ixdtf_grammar.specs.table.LineNames.{YearMonthLine.{after_year_in_year_month, after_year_month}, MonthDayLine.{month_day_start, month_day_hyphen}}
use Rattle.ixdtf_grammar.specs.table.LineNames.MonthDayLine.{month_day_month_digits, month_day_month_range, after_month_day_month, month_day_day_digits}
use Rattle.ixdtf_grammar.specs.table.LineNames.MonthDayLine.{month_day_range, after_month_day}
use Rattle.ixdtf_grammar.specs.table.LineNames.TimeLine.{time_start, time_reads_as_month_day, time_reads_as_year_month}
use Rattle.ixdtf_grammar.specs.table.LineNames.{CoreLine.{dates, year_months, month_days, times}, ClockLine.{hour_start, hour_digit, hour_range, after_hour}}
use Rattle.ixdtf_grammar.specs.table.LineNames.ClockLine.{minute_digits, minute_range, after_basic_minute, after_colon_minute, second_digits, second_range}
use Rattle.ixdtf_grammar.specs.table.LineNames.{ClockLine.{after_second, fraction_start, after_fraction}, OffsetLine.{offset_start, after_zulu}}
use Rattle.ixdtf_grammar.specs.table.LineNames.ZoneLine.{identifier_start, zone_name_start, in_zone_name, after_zone_slash}
use Rattle.ixdtf_grammar.specs.table.LineNames.BracketLine.{first_bracket_start, first_critical_start, first_bracket_scan, first_dots_form, first_name_form, first_offset_form, after_bracket}
use Rattle.ixdtf_grammar.specs.table.LineNames.PairLine.{key_start, critical_key_start, in_key, value_start, in_value, after_value_hyphen}
use Rattle.ixdtf_grammar.specs.table.LineNames.DurationLine.{duration_start, after_duration_sign, after_duration_designator, after_date_groups}
use Rattle.ixdtf_grammar.specs.table.LineNames.DurationLine.{after_time_designator, group_digits, group_value_range, unit_order, date_unit_range}
use Rattle.ixdtf_grammar.specs.table.LineNames.DurationLine.{group_fraction_start, group_fraction_digits, after_time_groups, after_fraction_group}
use Rattle.ixdtf_grammar.specs.table.LineNames.LineName.{of_core, of_clock, of_offset, of_date_time, of_zone, of_bracket, of_pair, of_duration}

-- An ending says what the end of the text after a prefix is: no error, or an error.
pub data Ending : Type 0 where
  ok : Ending
  error : Fault → Ending

-- A `line` has a prefix, the code units that can follow it, an ending, and the error at each other code unit. A `scanned` line can be
-- followed by any code unit that is not bad, and its error is the error at the end of the text. A `whole` line has a prefix and one
-- error, whatever follows.
pub data Line : Type 1 where
  line : Shape → Class → Ending → (ℕ → Fault) → Line
  scanned : Shape → Fault → Line
  whole : Shape → Fault → Line

-- The error is the same at every other code unit.
abbrev pub always : Fault → ℕ → Fault
always fault c = fault

abbrev pub abrupt_digit : Fault
abrupt_digit = AbruptEnd (codes "digit")

abbrev pub abrupt_date : Fault
abrupt_date = AbruptEnd (codes "Date")

abbrev pub abrupt_month_day : Fault
abrupt_month_day = AbruptEnd (codes "MonthDay")

abbrev pub abrupt_offset : Fault
abrupt_offset = AbruptEnd (codes "time-numoffset")

abbrev pub abrupt_zone : Fault
abrupt_zone = AbruptEnd (codes "TimeZoneAnnotation")

abbrev pub abrupt_bracket : Fault
abrupt_bracket = AbruptEnd (codes "AmbiguousAnnotation")

abbrev pub abrupt_duration_start : Fault
abrupt_duration_start = AbruptEnd (codes "DurationStart")

abbrev pub abrupt_duration_designator : Fault
abrupt_duration_designator = AbruptEnd (codes "DurationDesignator")

abbrev pub abrupt_duration : Fault
abrupt_duration = AbruptEnd (codes "Duration")

abbrev pub abrupt_date_designator : Fault
abrupt_date_designator = AbruptEnd (codes "DateDurationDesignator")

abbrev pub abrupt_time_designator : Fault
abrupt_time_designator = AbruptEnd (codes "TimeDurationDesignator")

-- ---- shapes of prefixes

-- The text is `-000000`.
abbrev pub MinusZero : Shape
MinusZero = one hyphen then (λ ds. digits 6 ds × (decimal ds ≡ 0))

-- The text is a hyphen, a hyphen and a digit, or a digit.
abbrev pub HyphenOrDigit : Shape
HyphenOrDigit = one hyphen either (one hyphen then one digit) either one digit

-- The text has two digits, and their number is not from 1 to 12.
abbrev pub NoMonth : Shape
NoMonth text = digits 2 text × ((decimal text ≡ 0) ⊎ (12 < decimal text))

abbrev pub BasicDay : Shape
BasicDay = some Year then some Month then one digit

abbrev pub HyphenedDay : Shape
HyphenedDay = some Year then one hyphen then some Month then one hyphen then fewer_digits_than 2

-- The text has the form of a date, but the month does not have the day.
abbrev pub NoDayOfMonth : Text → DateRecord → Type 0
NoDayOfMonth text date = DateText text date × ¬ (IsDayOfMonth date)

-- The text has two digits, and their number is greater than `greatest`.
abbrev pub Past : ℕ → Shape
Past greatest text = digits 2 text × (greatest < decimal text)

abbrev pub Hour : Text → ℕ → Type 0
Hour = UpTo 23

-- The text is a colon, a colon and a digit, or a digit.
abbrev pub ColonOrDigit : Shape
ColonOrDigit = one colon either (one colon then one digit) either one digit

-- The text is an hour, a minute, and the beginning of a second: one digit, or after a second colon at most one digit. The clock must
-- allow seconds.
abbrev pub SecondDigits : Clock → Shape
SecondDigits clock text = IsTrue (has_seconds clock)
    × ((some BasicMinuteText then one digit) either (some ColonMinuteText then one colon then fewer_digits_than 2)) text

abbrev pub SecondPast : Clock → Shape
SecondPast clock text = IsTrue (has_seconds clock)
    × ((some BasicMinuteText then Past (greatest_second clock)) either (some ColonMinuteText then one colon then Past (greatest_second clock))) text

-- ---- dates

abbrev pub date_line : DateLine → Line
-- The prefix is empty: the year has not begun.
date_line year_start = line nothing (digit or sign) (error abrupt_digit) (always DateYear)
-- The prefix is one to three digits of a year.
date_line year_digits = line (one digit then fewer_digits_than 3) digit (error abrupt_digit) (always DateYear)
-- The prefix is a sign, and fewer than six digits.
date_line extended_year_digits = line (one sign then fewer_digits_than 6) digit (error abrupt_digit) (always DateExtendedYear)
-- The prefix is `-000000`.
date_line minus_zero_year = whole MinusZero DateExtendedYear
-- The prefix is a year.
date_line after_year = line (some Year) (hyphen or digit) (error abrupt_date) (always DateMonth)
-- The prefix is a year, and the beginning of a month: a hyphen, a hyphen and a digit, or a digit.
date_line month_digits = line (some Year then HyphenOrDigit) digit (error abrupt_digit) (always DateMonth)
-- The prefix is a year, an optional hyphen, and two digits that are not 01 to 12.
date_line month_range = whole (some Year then (nothing either one hyphen) then NoMonth) InvalidMonthRange
-- The prefix is a year, a hyphen and a month.
date_line after_hyphened_month = line (some Year then one hyphen then some Month) hyphen (error DateSeparator) (always DateSeparator)
-- The prefix is a year and a month, without a hyphen.
date_line after_basic_month = line (some Year then some Month) digit (error abrupt_digit) (λ c. if hyphen c then DateSeparator else DateDay)
-- The prefix is a year, a month and one digit of a day; or a year, a month, two hyphens and fewer than two digits of a day.
date_line day_digits = line (BasicDay either HyphenedDay) digit (error abrupt_digit) (always DateDay)
-- The prefix has the form of a date, but the month does not have the day.
date_line day_range = whole (some NoDayOfMonth) InvalidDayRange
-- The prefix is a date.
date_line after_date = line (some IsDate) (date_time_separator or opening) ok (always InvalidEnd)

-- ---- year-months

abbrev pub year_month_line : YearMonthLine → Line
-- The prefix is a year, in a text that must be a year-month.
year_month_line after_year_in_year_month = line (some Year) (hyphen or digit) (error abrupt_digit) (always DateMonth)
-- The prefix is a year-month.
year_month_line after_year_month = line (some IsYearMonth) opening ok (always InvalidEnd)

-- ---- month-days

-- The text is two hyphens, or two hyphens or none and one digit of a month.
abbrev pub MonthDayMonthDigits : Shape
MonthDayMonthDigits = (one hyphen then one hyphen) either (Marks then one digit)

-- The text is the beginning of a month-day up to its month, and then a hyphen, or an optional hyphen and one digit of a day.
abbrev pub MonthDayDayDigits : Shape
MonthDayDayDigits = Marks then some Month then (one hyphen either (OptionalHyphen then one digit))

-- The text has the form of a month-day, but its day is greater than every day of the month, or less than the least day.
abbrev pub NoMonthDay : Profile → Text → DateRecord → Type 0
NoMonthDay profile text date = MonthDayText text date × ¬ (IsDayOfSomeYear profile date)

abbrev pub month_day_line : MonthDayLine → Line
-- The prefix is empty: the month-day has not begun.
month_day_line month_day_start = line nothing (hyphen or digit) (error abrupt_month_day) (always DateMonth)
-- The prefix is the first of two hyphens.
month_day_line month_day_hyphen = line (one hyphen) hyphen (error abrupt_month_day) (always MonthDayHyphen)
-- The prefix is two hyphens, or two hyphens or none and one digit of a month.
month_day_line month_day_month_digits = line MonthDayMonthDigits digit (error abrupt_digit) (always DateMonth)
-- The prefix is two hyphens or none, and two digits that are not 01 to 12.
month_day_line month_day_month_range = whole (Marks then NoMonth) InvalidMonthRange
-- The prefix is two hyphens or none, and a month.
month_day_line after_month_day_month = line (Marks then some Month) (hyphen or digit) (error abrupt_digit) (always DateDay)
-- The prefix is the beginning of a month-day up to its month, and then a hyphen, or an optional hyphen and one digit of a day.
month_day_line month_day_day_digits = line MonthDayDayDigits digit (error abrupt_digit) (always DateDay)
-- The prefix has the form of a month-day, but its day is out of range.
month_day_line (month_day_range profile) = whole (some (NoMonthDay profile)) InvalidMonthDay
-- The prefix is a month-day.
month_day_line (after_month_day profile) = line (some (IsMonthDay profile)) opening ok (always InvalidEnd)

-- ---- the other lines of times without a date

abbrev pub time_line : TimeLine → Line
-- The prefix is empty: the time has not begun.
time_line time_start = line nothing (digit or time_letter) (error abrupt_digit) (always TimeHour)
-- The prefix is a month-day.
time_line (time_reads_as_month_day profile) = whole (some (IsMonthDay profile)) AmbiguousTimeMonthDay
-- The prefix is a year-month.
time_line time_reads_as_year_month = whole (some IsYearMonth) AmbiguousTimeYearMonth

abbrev pub core_line : CoreLine → Line
core_line (dates name) = date_line name
core_line (year_months name) = year_month_line name
core_line (month_days name) = month_day_line name
core_line (times name) = time_line name

-- ---- times, and offsets after their sign

-- This says what can follow a part: the code units, the ending, and the error at another code unit.
pub record Follow : Type 0 where
  pub letters : Class
  pub at_end : Ending
  pub at_other : Fault

-- The class is `class` if the clock allows seconds, and otherwise it has no code unit.
abbrev pub seconds_after : Clock → Class → Class
seconds_after clock class c = has_seconds clock && class c

-- This is the error at a colon or a digit that cannot follow a minute.
abbrev pub mixed : Clock → Fault
mixed Time = TimeSeparator
mixed Offset = UtcTimeSeparator
mixed MinuteOffset = InvalidMinutePrecisionOffset

-- This is the error of a second that is out of range or contains another code unit than a digit.
abbrev pub second_fault : Clock → Fault
second_fault Time = TimeSecond
second_fault Offset = TimeMinuteSecond
second_fault MinuteOffset = TimeMinuteSecond

-- This is the error at another code unit after a minute.
abbrev pub after_minute : Follow → Clock → ℕ → Fault
after_minute follow clock c = if colon c || digit c then mixed clock else follow.at_other

abbrev pub clock_line : Follow → Clock → ClockLine → Line
-- The prefix is empty: the hour has not begun.
clock_line follow clock hour_start = line nothing digit (error abrupt_digit) (always TimeHour)
-- The prefix is one digit of an hour.
clock_line follow clock hour_digit = line (one digit) digit (error abrupt_digit) (always TimeHour)
-- The prefix is two digits greater than 23.
clock_line follow clock hour_range = whole (Past 23) TimeHour
-- The prefix is an hour.
clock_line follow clock after_hour = line (some (ClockOf clock hours)) (colon or digit or follow.letters) follow.at_end (always follow.at_other)
-- The prefix is an hour, and the beginning of a minute: a colon, a colon and a digit, or a digit.
clock_line follow clock minute_digits = line (some Hour then ColonOrDigit) digit (error abrupt_digit) (always TimeMinuteSecond)
-- The prefix is an hour, an optional colon, and two digits greater than 59.
clock_line follow clock minute_range = whole (some Hour then (nothing either one colon) then Past 59) TimeMinuteSecond
-- The prefix is an hour and a minute, without a colon.
clock_line follow clock after_basic_minute =
    line (some (ClockOf clock basic_minutes)) (seconds_after clock digit or follow.letters) follow.at_end (after_minute follow clock)
-- The prefix is an hour, a colon and a minute.
clock_line follow clock after_colon_minute =
    line (some (ClockOf clock colon_minutes)) (seconds_after clock colon or follow.letters) follow.at_end (after_minute follow clock)
-- The prefix is an hour, a minute, and the beginning of a second: one digit, or after a second colon at most one digit.
clock_line follow clock second_digits = line (SecondDigits clock) digit (error abrupt_digit) (always (second_fault clock))
-- The prefix is an hour, a minute, and two digits greater than the greatest second.
clock_line follow clock second_range = whole (SecondPast clock) (second_fault clock)
-- The prefix is a time up to its second, without a fraction.
clock_line follow clock after_second = line (some (ClockOf clock seconds)) (decimal_mark or follow.letters) follow.at_end (always follow.at_other)
-- The prefix is a time up to its second, and a decimal mark.
clock_line follow clock fraction_start = line (some (ClockOf clock seconds) then one decimal_mark) digit (error FractionPart) (always FractionPart)
-- The prefix is a time with a fraction.
clock_line follow clock after_fraction = line (some (ClockOf clock fractions)) (digit or follow.letters) follow.at_end (always follow.at_other)

-- ---- the other lines of offsets

abbrev pub offset_line : OffsetLine → Line
-- The prefix is empty: the sign has not been read.
offset_line offset_start = line nothing sign (error abrupt_offset) (always OffsetNeedsSign)
-- The prefix is `Z` or `z`.
offset_line after_zulu = line (one zulu) opening ok (always InvalidEnd)

-- ---- date-times of RFC 3339

-- The text has the form of a `full-date`, but the month does not have the day.
abbrev pub NoDayOfFullDate : Text → DateRecord → Type 0
NoDayOfFullDate text date = FullDateText text date × ¬ (IsDayOfMonth date)

-- The text is a date-time up to the end of a number that is out of its range.
abbrev pub OutOfRange : Field → Shape
OutOfRange month_field = UntilMonth then NoMonth
OutOfRange day_field = some NoDayOfFullDate
OutOfRange hour_field = UntilHour then Past 23
OutOfRange minute_field = UntilMinute then Past 59
OutOfRange second_field = UntilSecond then Past 60
OutOfRange offset_hour_field = UntilOffsetHour then Past 23
OutOfRange offset_minute_field = UntilOffsetMinute then Past 59

-- This is the error at a code unit that is not a digit, in the number of the field.
abbrev pub digit_fault : Field → Fault
digit_fault month_field = DateMonth
digit_fault day_field = DateDay
digit_fault hour_field = TimeHour
digit_fault minute_field = TimeMinuteSecond
digit_fault second_field = TimeSecond
digit_fault offset_hour_field = TimeHour
digit_fault offset_minute_field = TimeMinuteSecond

-- This is the error of a number that is out of its range.
abbrev pub range_fault : Field → Fault
range_fault month_field = InvalidMonthRange
range_fault day_field = InvalidDayRange
range_fault hour_field = TimeHour
range_fault minute_field = TimeMinuteSecond
range_fault second_field = TimeSecond
range_fault offset_hour_field = TimeHour
range_fault offset_minute_field = TimeMinuteSecond

-- This is the error after the seconds, at a code unit that cannot follow them. A comma has the error of fractions. (A point cannot be
-- here, because it can follow.)
abbrev pub no_offset : ℕ → Fault
no_offset c = if decimal_mark c then FractionPart else OffsetNeedsSign

-- These code units can follow the complete date-time: `[` if the reader reads brackets, and otherwise none.
abbrev pub after_whole : Bool → Class
after_whole brackets = if brackets then opening else none

-- The prefix is a date-time up to the end of a number that is in its range.
abbrev pub after_field_line : Bool → Field → Line
after_field_line brackets month_field = line (Through month_field) hyphen (error DateSeparator) (always DateSeparator)
after_field_line brackets day_field = line (Through day_field) time_letter (error TimeSeparator) (always TimeSeparator)
after_field_line brackets hour_field = line (Through hour_field) colon (error TimeSeparator) (always TimeSeparator)
after_field_line brackets minute_field = line (Through minute_field) colon (error TimeSeparator) (always TimeSeparator)
after_field_line brackets second_field = line (Through second_field) (point or sign or zulu) (error abrupt_offset) no_offset
after_field_line brackets offset_hour_field = line (Through offset_hour_field) colon (error UtcTimeSeparator) (always UtcTimeSeparator)
after_field_line brackets offset_minute_field = line (Through offset_minute_field) (after_whole brackets) ok (always InvalidEnd)

abbrev pub date_time_line : Bool → DateTimeLine → Line
-- The prefix is fewer than four digits of a year.
date_time_line brackets four_digits = line (fewer_digits_than 4) digit (error abrupt_digit) (always DateYear)
-- The prefix is a year.
date_time_line brackets after_four_digits = line (digits 4) hyphen (error abrupt_date) (always DateSeparator)
-- The prefix is the text before a number, and fewer than two digits of the number.
date_time_line brackets (field_digits field) = line (Until field then fewer_digits_than 2) digit (error abrupt_digit) (always (digit_fault field))
-- The prefix is a date-time up to the end of a number that is out of its range.
date_time_line brackets (field_range field) = whole (OutOfRange field) (range_fault field)
-- The prefix is a date-time up to the end of a number that is in its range.
date_time_line brackets (after_field field) = after_field_line brackets field
-- The prefix is a date-time up to its seconds, and `.`.
date_time_line brackets after_point = line (ThroughSecond then one point) digit (error FractionPart) (always FractionPart)
-- The prefix is a date-time up to its seconds, and a fraction.
date_time_line brackets after_secfrac = line (ThroughSecond then SecondFraction) (digit or sign or zulu) (error abrupt_offset) (always OffsetNeedsSign)
-- The prefix is a date-time up to the end of its time, and `Z` or `z`.
date_time_line brackets after_utc = line (ThroughTime then one zulu) (after_whole brackets) ok (always InvalidEnd)

-- ---- zone names

-- These three definitions say what can follow a zone name: the ending, the code units, and the error at another code unit. `in_bracket`
-- says whether the name is in a bracket.
abbrev pub zone_end : Bool → Ending
zone_end in_bracket = if in_bracket then error AnnotationClose else ok

abbrev pub zone_letters : Bool → Class
zone_letters in_bracket = if in_bracket then zone_char or slash or closing else zone_char or slash

abbrev pub zone_other : Bool → ℕ → Fault
zone_other in_bracket c = if in_bracket then IanaChar else (if closing c then InvalidEnd else IanaChar)

abbrev pub zone_line : Bool → ZoneLine → Line
-- The prefix is empty: neither a name nor an offset has begun.
zone_line in_bracket identifier_start = line nothing (zone_lead or sign) (error abrupt_zone) (always TzLeadingChar)
-- The prefix is empty: the name has not begun.
zone_line in_bracket zone_name_start = line nothing zone_lead (error TzLeadingChar) (always TzLeadingChar)
-- The prefix is a zone name.
zone_line in_bracket in_zone_name = line ZoneName (zone_letters in_bracket) (zone_end in_bracket) (zone_other in_bracket)
-- The prefix is a zone name and a slash.
zone_line in_bracket after_zone_slash = line (ZoneName then one slash) zone_char (error IanaCharPostSeparator) (always IanaCharPostSeparator)

-- ---- brackets

-- The text is a code unit with which a key can begin, and any number of code units that are neither `=` nor `]`.
abbrev pub LetterOfKey : Shape
LetterOfKey = one key_lead then many (one skipped)

-- The text is a zone annotation of this library, but not a `time-zone` of RFC 9557 section 4.1.
abbrev pub Inexact : Bool → Zone → Shape
Inexact critical zone text =
    let note : ZoneNote = record { critical = critical; zone = zone } in IsZoneBracket text note × ¬ (IsExactBracket text note)

abbrev pub bracket_line : BracketLine → Line
-- The prefix is `[`.
bracket_line first_bracket_start = line (one opening) (zone_lead or sign or exclamation) (error abrupt_bracket) (always TzLeadingChar)
-- The prefix is `[!`.
bracket_line first_critical_start = line (one opening then one exclamation) (zone_lead or sign) (error abrupt_bracket) (always TzLeadingChar)
-- The prefix is a code unit with which a key can begin, and any number of code units that are neither `=` nor `]`.
bracket_line first_bracket_scan = scanned LetterOfKey abrupt_bracket
-- The prefix is a bracket with a zone name that RFC 9557 does not allow, and a part of the name is `.` or `..`.
bracket_line first_dots_form =
    whole (λ text. (critical : Bool) × (name : List ℕ) × Inexact critical (Name name) text × IsTrue (has_dots name)) IanaChar
-- The prefix is a bracket with a zone name that RFC 9557 does not allow, and no part of the name is `.` or `..`: a part begins with a
-- code unit that must not begin a part.
bracket_line first_name_form =
    whole (λ text. (critical : Bool) × (name : List ℕ) × Inexact critical (Name name) text × IsFalse (has_dots name)) IanaChar
-- The prefix is a bracket with an offset that does not have the form of RFC 9557.
bracket_line first_offset_form =
    whole (λ text. (critical : Bool) × (offset : MinutePrecisionOffset) × Inexact critical (Offset offset) text) InvalidMinutePrecisionOffset
-- The prefix is empty. It is after one or more complete brackets.
bracket_line after_bracket = line nothing opening ok (always InvalidEnd)

-- ---- annotations

abbrev pub pair_line : PairLine → Line
-- The prefix is the `[` of a bracket that is not the first one.
pair_line key_start = line (one opening) (key_lead or exclamation) (error AnnotationKeyLeadingChar) (always AnnotationKeyLeadingChar)
-- The prefix is the `[` of a bracket that is not the first one, and `!`.
pair_line critical_key_start = line (one opening then one exclamation) key_lead (error AnnotationKeyLeadingChar) (always AnnotationKeyLeadingChar)
-- The prefix is a key.
pair_line in_key = line Key (key_char or equals) (error AnnotationKeyValueSeparator) (always AnnotationKeyChar)
-- The prefix is a key and `=`.
pair_line value_start = line (Key then one equals) value_char (error AnnotationValueChar) (always AnnotationValueChar)
-- The prefix is a key, `=` and a value.
pair_line in_value = line (Key then one equals then Value) (value_char or hyphen or closing) (error AnnotationClose) (always AnnotationValueChar)
-- The prefix is a key, `=`, a value and a hyphen.
pair_line after_value_hyphen =
    line (Key then one equals then Value then one hyphen) value_char (error AnnotationValueCharPostHyphen) (always AnnotationValueCharPostHyphen)

-- ---- durations

-- This is the error if the letter of a duration unit of the half is missing in a group.
abbrev pub no_designator : Half → Fault
no_designator halves.date = abrupt_date_designator
no_designator halves.time = abrupt_time_designator

-- This is the error of a group out of order.
abbrev pub order_fault : Half → Fault
order_fault halves.date = DateDurationPartOrder
order_fault halves.time = TimeDurationPartOrder

abbrev pub duration_line : Profile → DurationLine → Line
-- The prefix is empty: the duration has not begun.
duration_line profile duration_start = line nothing (sign or duration_designator) (error abrupt_duration_start) (always DurationDisgnator)
-- The prefix is a sign.
duration_line profile after_duration_sign = line (one sign) duration_designator (error abrupt_duration_designator) (always DurationDisgnator)
-- The prefix is an optional sign and `P`.
duration_line profile after_duration_designator = line (some SignedDesignator) (digit or time_letter) (error abrupt_duration) (always InvalidEnd)
-- The prefix is a duration up to the end of a date group.
duration_line profile after_date_groups = line (AfterDateGroups profile) (digit or time_letter) ok (always InvalidEnd)
-- The prefix is a duration up to its `T`.
duration_line profile after_time_designator = line (AfterTimeDesignator profile) digit (error TimeDurationDesignator) (always TimeDurationDesignator)
-- The prefix is a duration up to a digit of the number of a group.
duration_line profile (group_digits half) =
    line (InContext profile half (λ context. some Number)) (digit or designator half or group_mark half) (error (no_designator half))
    (always (no_designator half))
-- The prefix is a duration up to the digit that makes a number too great for every duration unit.
duration_line profile (group_value_range half) = whole (InContext profile half (λ context. ValuePast)) DurationValueExceededRange
-- The prefix is a duration up to a group that cannot follow the groups before it.
duration_line profile (unit_order half) = whole (InContext profile half (OutOfOrder profile half)) (order_fault half)
-- The prefix is a duration up to a date group in order whose number is too great for its duration unit.
duration_line profile date_unit_range = whole (InContext profile halves.date (UnitPast profile)) DurationValueExceededRange
-- The prefix is a duration up to the number of a time group, and a decimal mark.
duration_line profile group_fraction_start =
    line (InContext profile halves.time (λ context. some Number then one decimal_mark)) digit (error FractionPart) (always FractionPart)
-- The prefix is a duration up to the number of a time group, a decimal mark, and one or more digits.
duration_line profile group_fraction_digits =
    line (InContext profile halves.time (λ context. some Number then one decimal_mark then SomeDigits)) (digit or designator halves.time)
    (error abrupt_time_designator) (always abrupt_time_designator)
-- The prefix is a duration up to the end of a time group, without fractions.
duration_line profile after_time_groups = line (AfterTimeGroups profile) digit ok (always InvalidEnd)
-- The prefix is a duration up to the end of a time group that has a fraction.
duration_line profile after_fraction_group = line (InContext profile halves.time (LastGroup profile)) none ok (always InvalidEnd)

-- ---- the table of a reader

-- This says what can follow a time or an offset, in a reader that reads brackets.
abbrev pub follow_before_brackets : Clock → Follow
follow_before_brackets Time = record { letters = sign or zulu or opening; at_end = ok; at_other = InvalidEnd }
follow_before_brackets Offset = record { letters = opening; at_end = ok; at_other = InvalidEnd }
follow_before_brackets MinuteOffset = record { letters = closing; at_end = error AnnotationClose; at_other = AnnotationClose }

-- Only the end of the text can follow.
abbrev pub end_alone : Follow
end_alone = record { letters = none; at_end = ok; at_other = InvalidEnd }

abbrev pub follow_of : Bool → Clock → Follow
follow_of brackets clock = if brackets then follow_before_brackets clock else end_alone

-- These are the lines of a reader. `brackets` says whether the reader reads brackets.
abbrev pub line_of : Bool → LineName → Line
line_of brackets (of_core name) = core_line name
line_of brackets (of_clock clock name) = clock_line (follow_of brackets clock) clock name
line_of brackets (of_offset name) = offset_line name
line_of brackets (of_date_time name) = date_time_line brackets name
line_of brackets (of_zone name) = zone_line brackets name
line_of brackets (of_bracket name) = bracket_line name
line_of brackets (of_pair name) = pair_line name
line_of brackets (of_duration profile name) = duration_line profile name

abbrev pub table : Reader → LineName → Line
table reader name = line_of (has_brackets reader) name
