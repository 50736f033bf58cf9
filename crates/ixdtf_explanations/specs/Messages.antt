-- The messages: what stands in a text that a reader refuses, and what was expected there.
use Rattle.ixdtf_grammar.specs.declared.reason.Reason.TheVariants as reasons
use Rattle.ixdtf_explanations.specs.declared.wording.Wording.TheVariants as wordings
use Rattle.ixdtf_explanations.specs.declared.message.Shown.TheVariants as shows
use Rattle.std.specs.Prelude.{◌≡◌, ℕ, Bool, false, ◌&&◌, ◌||◌, ◌+◌, ◌-◌, ◌*◌, ◌%◌, ◌^◌, ◌==◌, nat_lt, List, length, [], ◌++◌, take, drop, codes, slice_get, slice_index_or, Option, None, Some, true, if◌then◌else◌, pos}
use Rattle.std.specs.{Char.encode_utf8, Str.{chars, IsUtf8}, Fmt.{digits, padded_integral, format_spec}}
use Rattle.std.specs.{List.{list_all, list_any}, Str.Lossy.utf8_valid_len}
use Rattle.ixdtf_grammar.specs.declared.reason.Reason.{Reason}
use Rattle.ixdtf_explanations.specs.declared.wording.{Wording.Wording, Context.Context}
use Rattle.ixdtf_explanations.specs.declared.message.{Shown.Shown, Message.Message}
use Rattle.ixdtf_explanations.specs.declared.part.WrongPart.{WrongPart}
use Rattle.ixdtf_grammar.specs.language.{Letters.{digit, opening}, Dates.month_length}
use Rattle.ixdtf_explanations.specs.Parts.{IsPart, extent_of}

-- The words of a message, and what it shows of the text: nothing, the character at the position of the error, the part of the text
-- that is wrong, or the character before the position.
pub data Words : Type 0 where
  fixed found : List ℕ → Words
  around_part around_unit : List ℕ → List ℕ → Words

abbrev pub words_of : Wording → Words
words_of (wordings.Fixed words) = fixed words.now
words_of (wordings.Found words) = found words.now
words_of (wordings.AroundPart before after) = around_part before.now after.now
words_of (wordings.AroundUnit before after) = around_unit before.now after.now

-- This byte is at the position.
abbrev pub is_next : ℕ → Option ℕ → Bool
is_next byte None = false
is_next byte (Some next) = next == byte

-- A digit is at the position.
abbrev pub is_digit_next : Option ℕ → Bool
is_digit_next None = false
is_digit_next (Some next) = digit next

-- The letter of hours or of seconds is at the position. A letter of minutes is also one of months.
abbrev pub is_time_unit_next : Option ℕ → Bool
is_time_unit_next None = false
is_time_unit_next (Some next) = (next == 72 || next == 104) || (next == 83 || next == 115)

-- Seconds follow the position, which is after a minute.
abbrev pub has_seconds : Option ℕ → Bool
has_seconds next = is_digit_next next || is_next 58 next

-- The words of a line that expects more text.
abbrev pub expected : Context → List ℕ → List ℕ → Words
expected place at_end other = elim place.next [ None ↦ fixed at_end | Some next ↦ found other ]

-- The end of the message about a day that the month does not have.
abbrev pub to_day : ℕ → List ℕ
to_day last_day = if last_day == 28 then codes ", and has to be 01 to 28"
    else (if last_day == 29 then codes ", and has to be 01 to 29"
    else (if last_day == 30 then codes ", and has to be 01 to 30" else codes ", and has to be 01 to 31"))

-- The byte can be in an offset after its sign.
abbrev pub is_of_clock : ℕ → Bool
is_of_clock byte = (digit byte || byte == 58) || (byte == 46 || byte == 44)

-- The text is a sign, and then only digits, `:`, `.` and `,`.
abbrev pub begins_with_offset : List ℕ → Bool
begins_with_offset text = (let sign = slice_index_or text 0 0 in sign == 43 || sign == 45) && list_all is_of_clock (drop 1 text)

-- The number of a digit.
abbrev pub digit_of : ℕ → ℕ
digit_of byte = (byte - 48) % 10

-- The text without a hyphen at its end, if there is one.
abbrev pub without_hyphen : List ℕ → List ℕ
without_hyphen front = if nat_lt 0 (length front) && slice_index_or front (length front - 1) 0 == 45 then take (length front - 1) front else front

-- The number of the two, or of the four, digits with which the text ends.
abbrev pub two_digits : List ℕ → ℕ
two_digits front = if nat_lt (length front) 2 then 0
    else 10 * digit_of (slice_index_or front (length front - 2) 0) + digit_of (slice_index_or front (length front - 1) 0)

abbrev pub four_digits : List ℕ → ℕ
four_digits front = if nat_lt (length front) 4 then 0
    else ((1000 * digit_of (slice_index_or front (length front - 4) 0) + 100 * digit_of (slice_index_or front (length front - 3) 0))
    + 10 * digit_of (slice_index_or front (length front - 2) 0)) + digit_of (slice_index_or front (length front - 1) 0)

-- The last day of the month before the two digits of a day, with which the text ends. Hyphens are optional. If there is no year before
-- the month, it is the last day of the month in a leap year, such as year 0.
abbrev pub last_day_before : List ℕ → ℕ
last_day_before front =
    let month = without_hyphen (take (length front - 2) front) in
    month_length (pos (four_digits (without_hyphen (take (length month - 2) month)))) (two_digits month)

-- The position is the beginning of the text.
abbrev pub is_first : Context → Bool
is_first place = length place.front.now == 0

-- The text before the position is an offset alone, or the beginning of one.
abbrev pub is_lone_offset : Context → Bool
is_lone_offset place = begins_with_offset place.front.now

-- The position is in a bracket.
abbrev pub is_in_bracket : Context → Bool
is_in_bracket place = list_any opening place.front.now

-- The last day of the month, if a day stands before the position.
abbrev pub last_day : Context → ℕ
last_day place = last_day_before place.front.now

-- The words of the message for each reason.
abbrev pub wording : Reason → Context → Words
wording reasons.YearStart place = expected place (codes "the text is empty; expected a year of four digits") (codes "expected a year of four digits, found ")
wording reasons.YearDigits place = expected place (codes "the text ends in the year; expected four digits") (codes "expected a digit of the year, which has four, found ")
wording reasons.ExtendedYearDigits place = expected place (codes "the text ends in the year; expected a sign and six digits") (codes "expected a digit of the year, which has six after a sign, found ")
wording reasons.MinusZeroYear place = fixed (codes "the year is -000000, and year 0 is written 0000")
wording reasons.AfterYear place = expected place (codes "the text ends after the year; expected `-` and the month") (codes "expected `-` or a digit of the month, found ")
wording reasons.MonthDigits place = expected place (codes "the text ends in the month; expected two digits") (codes "expected a digit of the month, which has two, found ")
wording reasons.MonthRange place = around_part (codes "the month is ") (codes ", and has to be 01 to 12")
wording reasons.AfterHyphenedMonth place = expected place (codes "the text ends after the month; expected `-` and the day") (codes "expected `-` after the month, found ")
wording reasons.AfterBasicMonth place = if is_next 45 place.next then fixed (codes "found `-` before the day, but none before the month") else expected place (codes "the text ends after the month; expected the day") (codes "expected a digit of the day, which has two, found ")
wording reasons.DayDigits place = expected place (codes "the text ends in the day; expected two digits for the month and for the day") (codes "expected a digit of the day, which has two, found ")
wording reasons.DayRange place = around_part (codes "the day is ") (to_day (last_day place))
wording reasons.AfterDate place = if is_digit_next place.next then found (codes "expected `T`, a space, `[` or the end after the two digits of the day, found ") else found (codes "expected `T`, a space, `[` or the end after the date, found ")
wording reasons.AfterYearInYearMonth place = expected place (codes "the text ends after the year; expected `-` and the month") (codes "expected `-` or a digit of the month, found ")
wording reasons.AfterYearMonth place = found (codes "expected `[` or the end after the month, found ")
wording reasons.MonthDayStart place = expected place (codes "the text is empty; expected a month and a day") (codes "expected a month of two digits, found ")
wording reasons.MonthDayHyphen place = expected place (codes "the text ends after `-`; expected a second `-` and the month") (codes "expected a second `-` before the month, found ")
wording reasons.MonthDayMonthDigits place = expected place (codes "the text ends in the month; expected two digits") (codes "expected a digit of the month, which has two, found ")
wording reasons.MonthDayMonthRange place = around_part (codes "the month is ") (codes ", and has to be 01 to 12")
wording reasons.AfterMonthDayMonth place = expected place (codes "the text ends after the month; expected `-` and the day") (codes "expected `-` or a digit of the day, found ")
wording reasons.MonthDayDayDigits place = expected place (codes "the text ends in the day; expected two digits for the month and for the day") (codes "expected a digit of the day, which has two, found ")
wording reasons.MonthDayRange place = around_part (codes "the day is ") (to_day (last_day place))
wording reasons.AfterMonthDay place = found (codes "expected `[` or the end after the day, found ")
wording reasons.TimeStart place = expected place (codes "the text is empty; expected a time") (codes "expected `T` or an hour of two digits, found ")
wording reasons.TimeReadsAsMonthDay place = around_part (codes "`") (codes "` may be a month and a day; write `T` before a time")
wording reasons.TimeReadsAsYearMonth place = around_part (codes "`") (codes "` may be a year and a month; write `T` before a time")
wording reasons.HourStart place = expected place (codes "the text ends before the hour; expected two digits") (codes "expected a digit of the hour, which has two, found ")
wording reasons.HourDigit place = expected place (codes "the text ends in the hour; expected two digits") (codes "expected a digit of the hour, which has two, found ")
wording reasons.HourRange place = around_part (codes "the hour is ") (codes ", and has to be 00 to 23")
wording reasons.AfterHour place = found (codes "expected `:`, a digit, an offset, `[` or the end after the hour, found ")
wording reasons.MinuteDigits place = expected place (codes "the text ends in the minute; expected two digits") (codes "expected a digit of the minute, which has two, found ")
wording reasons.MinuteRange place = around_part (codes "the minute is ") (codes ", and has to be 00 to 59")
wording reasons.AfterBasicMinute place = if is_next 58 place.next then fixed (codes "found `:` before the second, but none before the minute") else found (codes "expected a digit, an offset, `[` or the end after the minute, found ")
wording reasons.AfterColonMinute place = if is_digit_next place.next then found (codes "expected `:` before the second, as before the minute, found ") else found (codes "expected `:`, an offset, `[` or the end after the minute, found ")
wording reasons.SecondDigits place = expected place (codes "the text ends in the second; expected two digits") (codes "expected a digit of the second, which has two, found ")
wording reasons.SecondRange place = around_part (codes "the second is ") (codes ", and has to be 00 to 60")
wording reasons.AfterSecond place = found (codes "expected `.`, an offset, `[` or the end after the second, found ")
wording reasons.FractionStart place = expected place (codes "the text ends before the fraction; expected a digit") (codes "expected a digit of the fraction, found ")
wording reasons.AfterFraction place = found (codes "expected a digit, an offset, `[` or the end after the fraction, found ")
wording reasons.OffsetHourStart place = expected place (codes "the text ends before the offset's hour; expected two digits") (codes "expected a digit of the offset's hour, which has two, found ")
wording reasons.OffsetHourDigit place = expected place (codes "the text ends in the offset's hour; expected two digits") (codes "expected a digit of the offset's hour, which has two, found ")
wording reasons.OffsetHourRange place = around_part (codes "the offset's hour is ") (codes ", and has to be 00 to 23")
wording reasons.OffsetAfterHour place = if is_lone_offset place then found (codes "expected `:`, a digit or the end after the offset's hour, found ") else found (codes "expected `:`, a digit, `[` or the end after the offset's hour, found ")
wording reasons.OffsetMinuteDigits place = expected place (codes "the text ends in the offset's minute; expected two digits") (codes "expected a digit of the offset's minute, which has two, found ")
wording reasons.OffsetMinuteRange place = around_part (codes "the offset's minute is ") (codes ", and has to be 00 to 59")
wording reasons.OffsetAfterBasicMinute place = if is_next 58 place.next then fixed (codes "found `:` before the offset's second, but none before its minute") else (if is_lone_offset place then found (codes "expected a digit or the end after the offset's minute, found ") else found (codes "expected a digit, `[` or the end after the offset's minute, found "))
wording reasons.OffsetAfterColonMinute place = if is_digit_next place.next then found (codes "expected `:` before the offset's second, as before its minute, found ") else (if is_lone_offset place then found (codes "expected `:` or the end after the offset's minute, found ") else found (codes "expected `:`, `[` or the end after the offset's minute, found "))
wording reasons.OffsetSecondDigits place = expected place (codes "the text ends in the offset's second; expected two digits") (codes "expected a digit of the offset's second, which has two, found ")
wording reasons.OffsetSecondRange place = around_part (codes "the offset's second is ") (codes ", and has to be 00 to 59")
wording reasons.OffsetAfterSecond place = if is_lone_offset place then found (codes "expected `.` or the end after the offset's second, found ") else found (codes "expected `.`, `[` or the end after the offset's second, found ")
wording reasons.OffsetFractionStart place = expected place (codes "the text ends before the offset's fraction; expected a digit") (codes "expected a digit of the offset's fraction, found ")
wording reasons.OffsetAfterFraction place = if is_lone_offset place then found (codes "expected a digit or the end after the offset's fraction, found ") else found (codes "expected a digit, `[` or the end after the offset's fraction, found ")
wording reasons.ZoneOffsetHourStart place = expected place (codes "the text ends before the offset's hour; expected two digits") (codes "expected a digit of the offset's hour, which has two, found ")
wording reasons.ZoneOffsetHourDigit place = expected place (codes "the text ends in the offset's hour; expected two digits") (codes "expected a digit of the offset's hour, which has two, found ")
wording reasons.ZoneOffsetHourRange place = around_part (codes "the offset's hour is ") (codes ", and has to be 00 to 23")
wording reasons.ZoneOffsetAfterHour place = if is_in_bracket place then expected place (codes "the text ends after the offset's hour; expected `]`") (codes "expected `:`, a digit or `]` after the offset's hour, found ") else found (codes "expected `:`, a digit or the end after the offset's hour, found ")
wording reasons.ZoneOffsetMinuteDigits place = expected place (codes "the text ends in the offset's minute; expected two digits") (codes "expected a digit of the offset's minute, which has two, found ")
wording reasons.ZoneOffsetMinuteRange place = around_part (codes "the offset's minute is ") (codes ", and has to be 00 to 59")
wording reasons.ZoneOffsetAfterBasicMinute place = if has_seconds place.next then (if is_in_bracket place then found (codes "a time zone's offset has no seconds; expected `]`, found ") else found (codes "a time zone's offset has no seconds; expected the end, found ")) else (if is_in_bracket place then expected place (codes "the text ends after the offset's minute; expected `]`") (codes "expected `]` after the offset's minute, found ") else found (codes "expected the end after the offset's minute, found "))
wording reasons.ZoneOffsetAfterColonMinute place = if has_seconds place.next then (if is_in_bracket place then found (codes "a time zone's offset has no seconds; expected `]`, found ") else found (codes "a time zone's offset has no seconds; expected the end, found ")) else (if is_in_bracket place then expected place (codes "the text ends after the offset's minute; expected `]`") (codes "expected `]` after the offset's minute, found ") else found (codes "expected the end after the offset's minute, found "))
wording reasons.ZoneOffsetSecondDigits place = expected place (codes "the text ends in the offset's second; expected two digits") (codes "expected a digit of the offset's second, which has two, found ")
wording reasons.ZoneOffsetSecondRange place = around_part (codes "the offset's second is ") (codes ", and has to be 00 to 59")
wording reasons.ZoneOffsetAfterSecond place = if is_in_bracket place then expected place (codes "the text ends after the offset's second; expected `]`") (codes "expected `]` after the offset's second, found ") else found (codes "expected the end after the offset's second, found ")
wording reasons.ZoneOffsetFractionStart place = expected place (codes "the text ends before the offset's fraction; expected a digit") (codes "expected a digit of the offset's fraction, found ")
wording reasons.ZoneOffsetAfterFraction place = if is_in_bracket place then expected place (codes "the text ends after the offset's fraction; expected `]`") (codes "expected `]` after the offset's fraction, found ") else found (codes "expected the end after the offset's fraction, found ")
wording reasons.OffsetStart place = expected place (codes "the text is empty; expected an offset") (codes "expected `+` or `-` before the offset's hour, found ")
wording reasons.AfterZulu place = found (codes "expected `[` or the end after `Z`, found ")
wording reasons.FourDigits place = if is_first place then expected place (codes "the text is empty; expected a year of four digits") (codes "expected a year of four digits, found ") else expected place (codes "the text ends in the year; expected four digits") (codes "expected a digit of the year, which has four, found ")
wording reasons.AfterFourDigits place = expected place (codes "the text ends after the year; expected `-` and the month") (codes "expected `-` after the year, found ")
wording reasons.MonthFieldDigits place = expected place (codes "the text ends in the month; expected two digits") (codes "expected a digit of the month, which has two, found ")
wording reasons.DayFieldDigits place = expected place (codes "the text ends in the day; expected two digits for the month and for the day") (codes "expected a digit of the day, which has two, found ")
wording reasons.HourFieldDigits place = expected place (codes "the text ends in the hour; expected two digits") (codes "expected a digit of the hour, which has two, found ")
wording reasons.MinuteFieldDigits place = expected place (codes "the text ends in the minute; expected two digits") (codes "expected a digit of the minute, which has two, found ")
wording reasons.SecondFieldDigits place = expected place (codes "the text ends in the second; expected two digits") (codes "expected a digit of the second, which has two, found ")
wording reasons.OffsetHourFieldDigits place = expected place (codes "the text ends in the offset's hour; expected two digits") (codes "expected a digit of the offset's hour, which has two, found ")
wording reasons.OffsetMinuteFieldDigits place = expected place (codes "the text ends in the offset's minute; expected two digits") (codes "expected a digit of the offset's minute, which has two, found ")
wording reasons.MonthFieldRange place = around_part (codes "the month is ") (codes ", and has to be 01 to 12")
wording reasons.DayFieldRange place = around_part (codes "the day is ") (to_day (last_day place))
wording reasons.HourFieldRange place = around_part (codes "the hour is ") (codes ", and has to be 00 to 23")
wording reasons.MinuteFieldRange place = around_part (codes "the minute is ") (codes ", and has to be 00 to 59")
wording reasons.SecondFieldRange place = around_part (codes "the second is ") (codes ", and has to be 00 to 60")
wording reasons.OffsetHourFieldRange place = around_part (codes "the offset's hour is ") (codes ", and has to be 00 to 23")
wording reasons.OffsetMinuteFieldRange place = around_part (codes "the offset's minute is ") (codes ", and has to be 00 to 59")
wording reasons.AfterMonthField place = expected place (codes "the text ends after the month; expected `-` and the day") (codes "expected `-` after the month, found ")
wording reasons.AfterDayField place = expected place (codes "the text ends after the date; expected `T` and the time") (codes "expected `T` after the date, found ")
wording reasons.AfterHourField place = expected place (codes "the text ends after the hour; expected `:` and the minute") (codes "expected `:` after the hour, found ")
wording reasons.AfterMinuteField place = expected place (codes "the text ends after the minute; expected `:` and the second") (codes "expected `:` after the minute, found ")
wording reasons.AfterSecondField place = expected place (codes "the text ends after the second; expected an offset") (codes "expected `.` or an offset after the second, found ")
wording reasons.AfterOffsetHourField place = expected place (codes "the text ends after the offset's hour; expected `:` and its minute") (codes "expected `:` after the offset's hour, found ")
wording reasons.AfterOffsetMinuteField place = found (codes "expected the end, or `[` in RFC 9557, after the offset's minute, found ")
wording reasons.AfterPoint place = expected place (codes "the text ends before the fraction; expected a digit") (codes "expected a digit of the fraction, found ")
wording reasons.AfterSecfrac place = expected place (codes "the text ends after the fraction; expected an offset") (codes "expected a digit or an offset after the fraction, found ")
wording reasons.AfterUtc place = found (codes "expected the end, or `[` in RFC 9557, after `Z`, found ")
wording reasons.IdentifierStart place = expected place (codes "the text is empty; expected a time zone") (codes "expected a letter, `+` or `-` at the start of the time zone, found ")
wording reasons.ZoneNameStart place = expected place (codes "the text is empty; expected a time zone's name") (codes "expected a letter at the start of the time zone's name, found ")
wording reasons.InZoneName place = if is_in_bracket place then expected place (codes "the text ends in the time zone's name; expected `]`") (codes "expected `]` or more of the time zone's name, found ") else (if is_next 93 place.next then fixed (codes "expected the end after the time zone's name, found `]`") else found (codes "expected the end or more of the time zone's name, found "))
wording reasons.AfterZoneSlash place = expected place (codes "the text ends after `/`; expected more of the time zone's name") (codes "expected a letter of the time zone's name after `/`, found ")
wording reasons.FirstBracketStart place = expected place (codes "the text ends after `[`; expected a time zone or an annotation") (codes "expected a letter, `+` or `-` after `[`, found ")
wording reasons.FirstCriticalStart place = expected place (codes "the text ends after `[!`; expected a time zone or an annotation") (codes "expected a letter, `+` or `-` after `[!`, found ")
wording reasons.FirstBracketScan place = expected place (codes "the text ends in the first bracket; expected `=` or `]`") (codes "expected `=`, `]` or more of the first bracket, found ")
wording reasons.FirstNameForm place = fixed (codes "a part of the time zone's name does not begin with a letter, and has to")
wording reasons.FirstOffsetForm place = fixed (codes "the time zone's offset has no `:`, and has to be like `+05:30`")
wording reasons.AfterBracket place = found (codes "expected `[` or the end after `]`, found ")
wording reasons.KeyStart place = expected place (codes "the text ends after `[`; expected the annotation's key") (codes "expected a lower-case letter of the annotation's key, found ")
wording reasons.CriticalKeyStart place = expected place (codes "the text ends after `[!`; expected the annotation's key") (codes "expected a lower-case letter of the annotation's key, found ")
wording reasons.InKey place = expected place (codes "the text ends in the annotation's key; expected `=`") (codes "expected `=`, a lower-case letter, a digit, `-` or `_` in the key, found ")
wording reasons.ValueStart place = expected place (codes "the text ends after `=`; expected the annotation's value") (codes "expected a letter or digit of the annotation's value, found ")
wording reasons.InValue place = expected place (codes "the text ends in the annotation's value; expected `]`") (codes "expected `]` or more of the annotation's value, found ")
wording reasons.AfterValueHyphen place = expected place (codes "the text ends after `-`; expected more of the annotation's value") (codes "expected more of the annotation's value after `-`, found ")
wording reasons.DurationStart place = expected place (codes "the text is empty; expected a duration") (codes "expected `P`, `+` or `-` at the start of the duration, found ")
wording reasons.AfterDurationSign place = expected place (codes "the text ends after the sign; expected `P`") (codes "expected `P` after the sign, found ")
wording reasons.AfterDurationDesignator place = expected place (codes "the text ends after `P`; expected a number or `T`") (codes "expected a number or `T` after `P`, found ")
wording reasons.AfterDateGroups place = found (codes "expected a number, `T` or the end after the unit, found ")
wording reasons.AfterTimeDesignator place = expected place (codes "the text ends after `T`; expected a number") (codes "expected a number after `T`, found ")
wording reasons.AfterTimeGroups place = found (codes "expected a number or the end after the unit, found ")
wording reasons.AfterFractionGroup place = found (codes "expected the end after the unit with a fraction, found ")
wording reasons.DateGroupDigits place = if is_time_unit_next place.next then found (codes "expected `T` before a number of hours or seconds, found ") else expected place (codes "the text ends after the number; expected `Y`, `M`, `W` or `D`") (codes "expected a digit, `Y`, `M`, `W` or `D` after the number, found ")
wording reasons.TimeGroupDigits place = expected place (codes "the text ends after the number; expected `H`, `M` or `S`") (codes "expected a digit, `.`, `H`, `M` or `S` after the number, found ")
wording reasons.DateGroupRange place = fixed (codes "the number is too great, and has to be at most 18446744073709551615")
wording reasons.TimeGroupRange place = fixed (codes "the number is too great, and has to be at most 18446744073709551615")
wording reasons.DateUnitOrder place = around_unit (codes "the unit ") (codes " stands too late; the order is Y, M, W, D, each once")
wording reasons.TimeUnitOrder place = around_unit (codes "the unit ") (codes " stands too late; the order is H, M, S, each once")
wording reasons.DateUnitRange place = around_unit (codes "the number before ") (codes " is too great, and has to be at most 4294967295")
wording reasons.GroupFractionStart place = expected place (codes "the text ends before the fraction; expected a digit") (codes "expected a digit of the fraction, found ")
wording reasons.GroupFractionDigits place = expected place (codes "the text ends after the fraction; expected `H`, `M` or `S`") (codes "expected a digit, `H`, `M` or `S` after the fraction, found ")
wording reasons.UnrecognizedCritical place = fixed (codes "the annotation's key is not known; without `!`, the annotation would be ignored")
wording reasons.CriticalDuplicateCalendar place = fixed (codes "a later calendar differs from the first, and one is critical (`!`)")

-- What stands around a position, which is between these two parts of a text.
pub record IsContext (front rest : List ℕ) (place : Context) : Type 0 where
  pub before : place.front.now ≡ front
  pub following : place.next ≡ slice_get rest 0

-- The first character, if the bytes begin with one.
abbrev pub first_character : List ℕ → Option ℕ
first_character bytes = slice_get (chars (take (utf8_valid_len bytes) bytes)) 0

-- What is shown of the first character: the character, or the first byte if no character begins there, or nothing if there is no byte.
abbrev pub ShowsCharacter : List ℕ → Shown → Type 0
ShowsCharacter rest (shows.Character c) = first_character (take 4 rest) ≡ Some c
ShowsCharacter rest (shows.Byte b) = (first_character (take 4 rest) ≡ None) × (slice_get rest 0 ≡ Some b)
ShowsCharacter rest shows.Nothing = rest ≡ []
ShowsCharacter rest (shows.Part s) = ⊥

-- What is shown of a part: all of it if it is UTF-8, and otherwise nothing.
abbrev pub ShowsText : List ℕ → Shown → Type 0
ShowsText part (shows.Part s) = s.now ≡ part
ShowsText part shows.Nothing = ¬ (IsUtf8 part)
ShowsText part (shows.Character c) = ⊥
ShowsText part (shows.Byte b) = ⊥

-- What is shown of the text that is wrong.
pub record ShowsPart (reason : Reason) (text : List ℕ) (at : ℕ) (shown : Shown) : Type 0 where
  pub part : WrongPart
  pub is_part : IsPart (extent_of reason) text at part
  pub shows : ShowsText (take (part.end - part.begin) (drop part.begin text)) shown

-- The message has these words, and shows what they ask for.
abbrev pub Says : Words → Reason → List ℕ → ℕ → Message → Type 0
Says (fixed words) reason text at m = (m.before.now ≡ words) × (m.shown ≡ shows.Nothing) × (m.after.now ≡ [])
Says (found words) reason text at m = (m.before.now ≡ words) × ShowsCharacter (drop at text) m.shown × (m.after.now ≡ [])
Says (around_part before after) reason text at m = (m.before.now ≡ before) × ShowsPart reason text at m.shown × (m.after.now ≡ after)
Says (around_unit before after) reason text at m = (m.before.now ≡ before) × ShowsCharacter (drop (at - 1) text) m.shown × (m.after.now ≡ after)

-- The message of the reason, if the position of the error is `at`.
pub record IsMessage (reason : Reason) (text : List ℕ) (at : ℕ) (message : Message) : Type 0 where
  pub place : Context
  pub context : IsContext (take at text) (drop at text) place
  pub says : Says (wording reason place) reason text at message

-- The name of a character that looks like a space or a `-`, or with which some files begin.
abbrev pub look_alike : ℕ → List ℕ
look_alike c = if c == 0xA0 then codes " (no-break space)"
    else (if c == 0x202F then codes " (narrow no-break space)"
    else (if c == 0x2010 then codes " (hyphen)"
    else (if c == 0x2013 then codes " (en dash)"
    else (if c == 0x2212 then codes " (minus sign)"
    else (if c == 0xFEFF then codes " (byte order mark)" else [])))))

-- The number in upper-case hexadecimal digits, with zeros before them up to the width. This is what `{:04X}` writes for the width 4.
abbrev pub hex_text : ℕ → ℕ → List ℕ
hex_text width n = padded_integral (format_spec 32 0 4 width (2 ^ 64 - 1)) false [] (digits 16 true n)

-- The character in backticks, or its name, or its number.
abbrev pub character_text : ℕ → List ℕ
character_text c = if c == 32 then codes "a space"
    else (if c == 9 then codes "a tab"
    else (if c == 10 then codes "a newline"
    else (if c == 13 then codes "a carriage return"
    else (if c == 96 then codes "a backtick"
    else (if nat_lt 32 c && nat_lt c 127 then codes "`" ++ (encode_utf8 c ++ codes "`")
    else codes "U+" ++ (hex_text 4 c ++ look_alike c))))))

-- What is written of the text.
abbrev pub shown_text : Shown → List ℕ
shown_text shows.Nothing = []
shown_text (shows.Part s) = s.now
shown_text (shows.Character c) = character_text c
shown_text (shows.Byte b) = codes "the byte 0x" ++ hex_text 2 b

-- This is the text that `Display` writes for a message.
abbrev pub message_text : Message → List ℕ
message_text m = m.before.now ++ (shown_text m.shown ++ m.after.now)
