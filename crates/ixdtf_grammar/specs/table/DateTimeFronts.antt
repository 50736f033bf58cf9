-- The prefixes of the lines of date-times of RFC 3339 section 5.6.
use Rattle.std.specs.Prelude.{nat_eq}
use Rattle.ixdtf_grammar.specs.language.{Letters.{Class, hyphen, colon, sign, time_letter}, Shapes.{Shape, nothing, one, ◌then◌, ◌either◌, digits, some}}
use Rattle.ixdtf_grammar.specs.language.{Digits.UpTo, Dates.Month, DateTimes.IsFullDate, Rfc3339.SecondFraction}

-- These are the numbers of two digits in a date-time, in the order of the text.
pub data Field : Type 0 where
  month_field day_field hour_field minute_field second_field offset_hour_field offset_minute_field : Field

-- The class has only `.`.
abbrev pub point : Class
point c = nat_eq c 46

-- ---- the text before a number

abbrev pub UntilMonth : Shape
UntilMonth = digits 4 then one hyphen

abbrev pub UntilDay : Shape
UntilDay = UntilMonth then some Month then one hyphen

abbrev pub UntilHour : Shape
UntilHour = some IsFullDate then one time_letter

abbrev pub UntilMinute : Shape
UntilMinute = UntilHour then some (UpTo 23) then one colon

abbrev pub UntilSecond : Shape
UntilSecond = UntilMinute then some (UpTo 59) then one colon

-- The text is a date-time up to the end of its seconds.
abbrev pub ThroughSecond : Shape
ThroughSecond = UntilSecond then some (UpTo 60)

-- The text is a date-time up to the end of its time, which can have a fraction.
abbrev pub ThroughTime : Shape
ThroughTime = ThroughSecond then (nothing either SecondFraction)

abbrev pub UntilOffsetHour : Shape
UntilOffsetHour = ThroughTime then one sign

abbrev pub UntilOffsetMinute : Shape
UntilOffsetMinute = UntilOffsetHour then some (UpTo 23) then one colon

abbrev pub Until : Field → Shape
Until month_field = UntilMonth
Until day_field = UntilDay
Until hour_field = UntilHour
Until minute_field = UntilMinute
Until second_field = UntilSecond
Until offset_hour_field = UntilOffsetHour
Until offset_minute_field = UntilOffsetMinute

-- The text is a date-time up to the end of the number, which is in its range.
abbrev pub Through : Field → Shape
Through month_field = UntilMonth then some Month
Through day_field = some IsFullDate
Through hour_field = UntilHour then some (UpTo 23)
Through minute_field = UntilMinute then some (UpTo 59)
Through second_field = ThroughSecond
Through offset_hour_field = UntilOffsetHour then some (UpTo 23)
Through offset_minute_field = UntilOffsetMinute then some (UpTo 59)
