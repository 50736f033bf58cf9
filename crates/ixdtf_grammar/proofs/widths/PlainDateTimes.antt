-- Date-times of RFC 3339 are plain, and the prefixes of their lines are plain.
use Rattle.std.proofs.Common.{ℕ, suc, Bool, refl}
use Rattle.ixdtf_grammar.specs.declared.records.{DateRecord.DateRecord}
use Rattle.ixdtf_grammar.specs.language.{Letters.Text, Shapes.{some}, Digits.UpTo, Dates.Month}
use Rattle.ixdtf_grammar.specs.language.{Cores.{Core, IsDateTime}, DateTimes.FullDateText, Rfc3339.SecondFraction}
use Rattle.ixdtf_grammar.specs.table.DateTimeFronts.{Field, UntilHour, UntilMinute, UntilSecond, ThroughSecond, ThroughTime, UntilOffsetHour}
use Rattle.ixdtf_grammar.specs.table.DateTimeFronts.{UntilOffsetMinute, Until, Field.{month_field, day_field, hour_field, minute_field, second_field}}
use Rattle.ixdtf_grammar.specs.table.DateTimeFronts.Field.{offset_hour_field, offset_minute_field}
use Rattle.ixdtf_grammar.specs.table.LineNames.{DateTimeLine, DateTimeLine.{four_digits, after_four_digits, field_digits, field_range, after_field}}
use Rattle.ixdtf_grammar.specs.table.{LineNames.DateTimeLine.{after_point, after_secfrac, after_utc}, Lines.{OutOfRange, date_time_line}, Rows.front_of}
use Rattle.ixdtf_grammar.proofs.{parts.CoreLetters.{core_unit, in_digits}, theorems.CoreEnds.{in_full_date, in_internet_date_time}}
use Rattle.ixdtf_grammar.proofs.widths.PlainTexts.{IsPlain, is_plain, PlainShape, plain_nothing, plain_one, ◌and_then◌, ◌or_else◌, plain_digits, plain_fewer}
use Rattle.ixdtf_grammar.proofs.widths.PlainTexts.{plain_some, plain_inside, plain_with}

-- A date-time is plain.
pub date_time_plain : (text : Text) (core : Core) → IsDateTime text core → IsPlain text
date_time_plain text core h = is_plain _ text (in_internet_date_time text core h)

-- ---- prefixes

plain_number : {greatest : ℕ} → PlainShape (some (UpTo greatest))
plain_number = plain_some (λ text n h. (plain_digits 2).plain text h.0)

plain_month : PlainShape (some Month)
plain_month = plain_some (λ text month h. (plain_digits 2).plain text h.0.0)

-- A full date is plain, also with a further condition.
plain_date : {more : DateRecord → Type 0} → PlainShape (some (λ text date. FullDateText text date × more date))
plain_date = plain_inside (λ text date h. in_full_date text date h.0)

plain_secfrac : PlainShape SecondFraction
plain_secfrac = record { plain = λ text h. is_plain core_unit text (rw h.2 (refl, in_digits (suc h.1) h.0 h.3)) }

plain_until_hour : PlainShape UntilHour
plain_until_hour = plain_date and_then plain_one

plain_until_minute : PlainShape UntilMinute
plain_until_minute = plain_until_hour and_then plain_number and_then plain_one

plain_until_second : PlainShape UntilSecond
plain_until_second = plain_until_minute and_then plain_number and_then plain_one

plain_through_second : PlainShape ThroughSecond
plain_through_second = plain_until_second and_then plain_number

plain_through_time : PlainShape ThroughTime
plain_through_time = plain_through_second and_then (plain_nothing or_else plain_secfrac)

plain_until_offset_hour : PlainShape UntilOffsetHour
plain_until_offset_hour = plain_through_time and_then plain_one

plain_until_offset_minute : PlainShape UntilOffsetMinute
plain_until_offset_minute = plain_until_offset_hour and_then plain_number and_then plain_one

plain_until : (field : Field) → PlainShape (Until field)
plain_until month_field = plain_digits 4 and_then plain_one
plain_until day_field = (plain_digits 4 and_then plain_one) and_then plain_month and_then plain_one
plain_until hour_field = plain_until_hour
plain_until minute_field = plain_until_minute
plain_until second_field = plain_until_second
plain_until offset_hour_field = plain_until_offset_hour
plain_until offset_minute_field = plain_until_offset_minute

plain_through : (brackets : Bool) (field : Field) → PlainShape (front_of (date_time_line brackets (after_field field)))
plain_through brackets month_field = (plain_digits 4 and_then plain_one) and_then plain_month
plain_through brackets day_field = plain_date
plain_through brackets hour_field = plain_until_hour and_then plain_number
plain_through brackets minute_field = plain_until_minute and_then plain_number
plain_through brackets second_field = plain_through_second
plain_through brackets offset_hour_field = plain_until_offset_hour and_then plain_number
plain_through brackets offset_minute_field = plain_until_offset_minute and_then plain_number

plain_out : (field : Field) → PlainShape (OutOfRange field)
plain_out month_field = (plain_digits 4 and_then plain_one) and_then plain_with (plain_digits 2)
plain_out day_field = plain_date
plain_out hour_field = plain_until_hour and_then plain_with (plain_digits 2)
plain_out minute_field = plain_until_minute and_then plain_with (plain_digits 2)
plain_out second_field = plain_until_second and_then plain_with (plain_digits 2)
plain_out offset_hour_field = plain_until_offset_hour and_then plain_with (plain_digits 2)
plain_out offset_minute_field = plain_until_offset_minute and_then plain_with (plain_digits 2)

pub plain_date_time_line : (brackets : Bool) (name : DateTimeLine) → PlainShape (front_of (date_time_line brackets name))
plain_date_time_line brackets four_digits = plain_fewer
plain_date_time_line brackets after_four_digits = plain_digits 4
plain_date_time_line brackets (field_digits field) = plain_until field and_then plain_fewer
plain_date_time_line brackets (field_range field) = plain_out field
plain_date_time_line brackets (after_field field) = plain_through brackets field
plain_date_time_line brackets after_point = plain_through_second and_then plain_one
plain_date_time_line brackets after_secfrac = plain_through_second and_then plain_secfrac
plain_date_time_line brackets after_utc = plain_through_time and_then plain_one
