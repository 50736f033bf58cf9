-- The hints: what to change in a text that a reader refuses.
use Rattle.ixdtf_grammar.specs.declared.reason.Reason.TheVariants as reasons
use Rattle.ixdtf_explanations.specs.declared.hint.Hint.TheVariants as hints
use Rattle.ixdtf_explanations.specs.declared.message.Shown.TheVariants as shows
use Rattle.std.specs.Prelude.{◌≡◌, ⊤, ℕ, Bool, true, false, ◌&&◌, ◌||◌, ◌-◌, ◌==◌, nat_lt, nat_le, List, length, [], take, drop, codes, slice_index_or, Option, None, Some, if◌then◌else◌}
use Rattle.std.specs.{List.{list_all, list_any, find}}
use Rattle.ixdtf_grammar.specs.declared.reason.Reason.{Reason}
use Rattle.ixdtf_explanations.specs.declared.hint.Hint.{Hint}
use Rattle.ixdtf_explanations.specs.declared.message.Message.{Message}
use Rattle.ixdtf_grammar.specs.language.Letters.{digit, sign, zulu, upper, lower, opening, decimal_mark, date_time_separator, time_letter, duration_designator, year_letter, month_letter, week_letter, day_letter, hour_letter, second_letter}
use Rattle.ixdtf_explanations.specs.Messages.{ShowsText, ShowsCharacter, begins_with_offset}

-- A hint is words alone. Or it also shows all bytes before the position of the error, or the byte before it, or the character at the
-- position. If a space is there, it is the character after the space. `nothing` means that there is no hint.
pub data Tip : Type 0 where
  nothing : Tip
  fixed before_front before_next : List ℕ → Tip
  around_last : List ℕ → List ℕ → Tip

-- The hint that the library has.
abbrev pub tip_of : Hint → Tip
tip_of hints.Nothing = nothing
tip_of (hints.Fixed words) = fixed words.now
tip_of (hints.BeforeFront words) = before_front words.now
tip_of (hints.BeforeNext words) = before_next words.now
tip_of (hints.AroundLast before after) = around_last before.now after.now

-- The first of two hints. If there is no first one, the other one.
abbrev pub or_else : Tip → Tip → Tip
or_else nothing other = other
or_else (fixed words) other = fixed words
or_else (before_front words) other = before_front words
or_else (before_next words) other = before_next words
or_else (around_last before after) other = around_last before after

-- The byte at an index, or 0 if the text is not longer than that.
abbrev pub byte_at : List ℕ → ℕ → ℕ
byte_at text i = slice_index_or text i 0

-- The byte at an index that is counted from the end: 1 is the last byte. It is 0 if the text is shorter than that.
abbrev pub byte_before : List ℕ → ℕ → ℕ
byte_before front n = if nat_lt (length front) n then 0 else byte_at front (length front - n)

-- The byte is a space, a tab, a newline or a carriage return.
abbrev pub blank : ℕ → Bool
blank byte = (byte == 32 || byte == 9) || (byte == 10 || byte == 13)

-- The byte is an ASCII letter.
abbrev pub letter : ℕ → Bool
letter byte = upper byte || lower byte

-- The text is white space, and not empty.
abbrev pub is_white_space : List ℕ → Bool
is_white_space rest = nat_lt 0 (length rest) && list_all blank rest

-- What follows the space, if the text begins with one. Otherwise the text.
abbrev pub after_space : List ℕ → List ℕ
after_space rest = if byte_at rest 0 == 32 then drop 1 rest else rest

-- The text begins with an offset: a `Z` that is no letter of a word, or a sign and a digit.
abbrev pub is_offset : List ℕ → Bool
is_offset rest = if zulu (byte_at rest 0) then (if letter (byte_at rest 1) then false else true) else sign (byte_at rest 0) && digit (byte_at rest 1)

-- The text begins with a character that looks like `-` in UTF-8: U+2010, U+2013 or U+2212.
abbrev pub is_dash : List ℕ → Bool
is_dash rest = byte_at rest 0 == 0xE2
    && ((byte_at rest 1 == 0x80 && (byte_at rest 2 == 0x90 || byte_at rest 2 == 0x93)) || (byte_at rest 1 == 0x88 && byte_at rest 2 == 0x92))

-- The text begins with a separator of dates that is no `-`, and then a digit.
abbrev pub is_other_separator : List ℕ → Bool
is_other_separator rest = (byte_at rest 0 == 47 || byte_at rest 0 == 46) && digit (byte_at rest 1)

-- The text begins with a separator of a date, and then a letter or a digit.
abbrev pub is_next_part : List ℕ → Bool
is_next_part rest = ((byte_at rest 0 == 45 || byte_at rest 0 == 47) || (byte_at rest 0 == 46 || byte_at rest 0 == 32))
    && (letter (byte_at rest 1) || digit (byte_at rest 1))

-- The text begins with a fraction.
abbrev pub is_fraction : List ℕ → Bool
is_fraction rest = decimal_mark (byte_at rest 0) && digit (byte_at rest 1)

-- The text begins with a week of ISO 8601, such as `W09`.
abbrev pub is_week : List ℕ → Bool
is_week rest = week_letter (byte_at rest 0) && digit (byte_at rest 1)

-- The text begins with a digit, after which the date ends. So a day of the year ends here, if two digits stand before.
abbrev pub is_day_of_year : List ℕ → Bool
is_day_of_year rest = digit (byte_at rest 0) && (length rest == 1 || (date_time_separator (byte_at rest 1) || opening (byte_at rest 1)))

-- The text begins with a month and a day, which have a `-` before them.
abbrev pub is_month_day : List ℕ → Bool
is_month_day rest = (byte_at rest 0 == 45 && (digit (byte_at rest 1) && digit (byte_at rest 2)))
    && (byte_at rest 3 == 45 && (digit (byte_at rest 4) && digit (byte_at rest 5)))

-- The text begins with a date with hyphens.
abbrev pub is_date : List ℕ → Bool
is_date text = list_all digit (take 4 text) && is_month_day (drop 2 (drop 2 text))

-- The text is, or begins with, a number of seconds since 1970 from 2001 to 2030. It may have a fraction, or 3, 6 or 9 digits more.
abbrev pub is_unix_time : List ℕ → Bool
is_unix_time text = ((byte_at text 0 == 49 && (nat_le 48 (byte_at text 1) && nat_le (byte_at text 1) 56)) && list_all digit (take 10 text))
    && (decimal_mark (byte_at text 10)
    || (((length text == 10 || length text == 13) || (length text == 16 || length text == 19)) && list_all digit text))

-- The text begins with an hour.
abbrev pub is_hour : List ℕ → Bool
is_hour rest = if byte_at rest 0 == 50 then nat_le 48 (byte_at rest 1) && nat_le (byte_at rest 1) 51
    else (byte_at rest 0 == 48 || byte_at rest 0 == 49) && digit (byte_at rest 1)

-- The text begins with a minute.
abbrev pub is_minute : List ℕ → Bool
is_minute rest = (nat_le 48 (byte_at rest 0) && nat_le (byte_at rest 0) 53) && digit (byte_at rest 1)

-- What follows the `:`, if the text begins with one. Otherwise the text.
abbrev pub after_colon : List ℕ → List ℕ
after_colon rest = if byte_at rest 0 == 58 then drop 1 rest else rest

-- A time ends here, or after a second. No digit follows.
abbrev pub is_end_of_time : List ℕ → Bool
is_end_of_time rest = if is_minute (after_colon rest) then (if digit (byte_at (after_colon rest) 2) then false else true)
    else (if digit (byte_at rest 0) then false else true)

-- The text begins with an hour, a minute and perhaps a second, with or without `:` between them, and no digit follows.
abbrev pub is_time : List ℕ → Bool
is_time rest = (is_hour rest && is_minute (after_colon (drop 2 rest))) && is_end_of_time (drop 2 (after_colon (drop 2 rest)))

-- The text ends with `AM` or `PM`, in letters of any case.
abbrev pub ends_in_half_day : List ℕ → Bool
ends_in_half_day rest = (let byte = byte_before rest 2 in (byte == 65 || byte == 97) || (byte == 80 || byte == 112)) && month_letter (byte_before rest 1)

-- The text ends at the index, or a bracket begins there.
abbrev pub ends_or_opens : List ℕ → ℕ → Bool
ends_or_opens rest i = length rest == i || opening (byte_at rest i)

-- The text is `UTC`, or begins with `UTC` and a bracket. `is_gmt` is the same for `GMT`.
abbrev pub is_utc : List ℕ → Bool
is_utc rest = (byte_at rest 0 == 85 && (byte_at rest 1 == 84 && byte_at rest 2 == 67)) && ends_or_opens rest 3

abbrev pub is_gmt : List ℕ → Bool
is_gmt rest = (byte_at rest 0 == 71 && (byte_at rest 1 == 77 && byte_at rest 2 == 84)) && ends_or_opens rest 3

-- The text is an abbreviation of a time zone with three to five letters. A bracket may follow.
abbrev pub is_abbreviation : List ℕ → Bool
is_abbreviation rest = (upper (byte_at rest 0) && (upper (byte_at rest 1) && upper (byte_at rest 2)))
    && (ends_or_opens rest 3 || (upper (byte_at rest 3) && (ends_or_opens rest 4 || (upper (byte_at rest 4) && ends_or_opens rest 5))))

-- The text ends with one digit of a number that needs two. `1 ≤ least` leaves out the digit 0.
abbrev pub is_one_digit : List ℕ → ℕ → Bool
is_one_digit front least = (nat_le least (byte_before front 1) && nat_le (byte_before front 1) 57)
    && (length front == 1 || (let byte = byte_before front 2 in (sign byte || byte == 58) || date_time_separator byte))

-- The byte may follow a number of a time or of an offset.
abbrev pub follows_clock : ℕ → Bool
follows_clock byte = ((byte == 58 || decimal_mark byte) || (zulu byte || sign byte)) || (opening byte || byte == 93)

-- The byte is one of these two.
abbrev pub is_one_of : ℕ → ℕ → ℕ → Bool
is_one_of byte one other = byte == one || byte == other

-- The text ends with the key `u-ca` of a bracket, in letters of any case.
abbrev pub ends_in_calendar_key : List ℕ → Bool
ends_in_calendar_key front = (((is_one_of (byte_before front 5) 91 33 && is_one_of (byte_before front 4) 85 117) && byte_before front 3 == 45)
    && is_one_of (byte_before front 2) 67 99) && is_one_of (byte_before front 1) 65 97

-- The byte ends a key: `=`, or the `]` of a bracket without a value.
abbrev pub ends_key : ℕ → Bool
ends_key byte = byte == 61 || byte == 93

-- The byte that ends a key is there, and is `=`.
abbrev pub is_equals : Option ℕ → Bool
is_equals None = false
is_equals (Some byte) = byte == 61

-- The text has `=`, and no `]` before it.
abbrev pub has_equals : List ℕ → Bool
has_equals rest = is_equals (find ends_key rest)

-- The hint where the text may end.
abbrev pub at_end : List ℕ → Tip
at_end rest = if is_white_space rest then fixed (codes "remove the white space at the end")
    else (if byte_at rest 0 == 47 && (digit (byte_at rest 1) || duration_designator (byte_at rest 1)) then fixed (codes "an interval is not read; read the texts before and after the `/`")
    else nothing)

-- The hint where the text may end, or a bracket may begin.
abbrev pub at_bracket : List ℕ → Tip
at_bracket rest = if byte_at rest 0 == 32 && opening (byte_at rest 1) then before_next (codes "remove the space before ") else at_end rest

-- The hint where a text begins.
abbrev pub at_start : List ℕ → Tip
at_start rest = if blank (byte_at rest 0) then fixed (codes "remove the white space at the start") else nothing

-- The hint where a `-` may follow.
abbrev pub before_hyphen : List ℕ → Tip
before_hyphen rest = if is_dash rest || is_other_separator rest then fixed (codes "write `-` instead") else nothing

-- The hint where a week may follow by mistake.
abbrev pub week : List ℕ → Tip
week rest = if is_week rest then fixed (codes "a week is not read; write the month instead") else nothing

-- The hint about a text that may be a number of seconds.
abbrev pub unix_time : List ℕ → Tip
unix_time text = if is_unix_time text then fixed (codes "a Unix time is not read; convert it first") else nothing

-- The hint after two digits of a month, where the third digit of a day of the year may follow by mistake.
abbrev pub day_of_year : List ℕ → Tip
day_of_year rest = if is_day_of_year rest then fixed (codes "a day of the year is not read; write the month instead") else nothing

-- The hint where a date has to begin.
abbrev pub at_date : List ℕ → Tip
at_date rest = if duration_designator (byte_at rest 0) && (digit (byte_at rest 1) || time_letter (byte_at rest 1)) then fixed (codes "a duration is no date; read it as a duration")
    else (if time_letter (byte_at rest 0) && digit (byte_at rest 1) then fixed (codes "a time is no date; read it as a time")
    else (if letter (byte_at rest 0) then fixed (codes "write the year first, with four digits, then `-` and the month")
    else at_start rest))

-- The hint where a duration has to begin.
abbrev pub at_duration : List ℕ → Tip
at_duration rest = if digit (byte_at rest 0) then fixed (codes "a duration begins with `P`, like P1DT2H30M") else at_start rest

-- The hint after one to three digits of a year.
abbrev pub in_year : List ℕ → List ℕ → Tip
in_year front rest = if length front == 2 && byte_at rest 0 == 58 then fixed (codes "a time is no date; read it as a time")
    else (if nat_lt (length front) 3 && is_next_part rest then fixed (codes "write the year first, with four digits, then `-` and the month")
    else nothing)

-- The hint before or in a year that has no sign.
abbrev pub in_four_digits : List ℕ → List ℕ → Tip
in_four_digits front rest = if nat_lt 0 (length front) then in_year front rest
    else (if sign (byte_at rest 0) && digit (byte_at rest 1) then fixed (codes "a year is 0000 to 9999 here, without a sign")
    else at_date rest)

-- The hint after a year.
abbrev pub after_year : List ℕ → Tip
after_year rest = or_else (week rest) (before_hyphen rest)

-- The hint after a year that has no sign.
abbrev pub after_four_digits : List ℕ → List ℕ → Tip
after_four_digits text rest = if digit (byte_at rest 0) && (byte_at rest 1 == 45 || (digit (byte_at rest 1) && byte_at rest 2 == 45)) then fixed (codes "a year is 0000 to 9999 here, without a sign")
    else or_else (after_year rest) (unix_time text)

-- The hint in a month.
abbrev pub in_month : List ℕ → List ℕ → Tip
in_month front rest = if is_one_digit front 49 && byte_at rest 0 == 45 then around_last (codes "write the month as `0") (codes "`")
    else (if (length front == 5 && list_all digit front) && is_month_day rest then before_front (codes "write a year after 9999 with a sign and six digits, like +0")
    else (if byte_before front 1 == 45 then week rest else nothing))

-- The hint after a month that is out of its range.
abbrev pub month_range : List ℕ → List ℕ → List ℕ → Tip
month_range text front rest = if byte_before front 3 == 45 then day_of_year rest else unix_time text

-- The hint after a month.
abbrev pub after_month : List ℕ → Tip
after_month rest = or_else (day_of_year rest) (before_hyphen rest)

-- The hint in a day.
abbrev pub in_day : List ℕ → List ℕ → Tip
in_day front rest = if is_one_digit front 49 && (date_time_separator (byte_at rest 0) || opening (byte_at rest 0)) then around_last (codes "write the day as `0") (codes "`")
    else (if (length rest == 0 && length front == 7) && list_all digit front then fixed (codes "a day of the year is not read; write the month instead")
    else nothing)

-- The hint after a date, where only a time may follow.
abbrev pub after_date_field : List ℕ → Tip
after_date_field rest = if is_offset rest then fixed (codes "an offset needs a time before it") else nothing

-- The hint after a date with which the text may end.
abbrev pub after_date : List ℕ → List ℕ → Tip
after_date text rest = if is_time rest then fixed (codes "write `T` before the time")
    else or_else (after_date_field rest) (or_else (at_end rest) (unix_time text))

-- The hint where an hour has to begin. Before it is a `T`, or the space that is read instead.
abbrev pub at_hour : List ℕ → List ℕ → Tip
at_hour front rest = if byte_before front 1 == 32 then (if list_all blank rest then fixed (codes "remove the white space at the end")
    else (if opening (byte_at rest 0) then before_next (codes "remove the space before ")
    else (if length rest == 2 && (byte_at rest 0 == 66 && byte_at rest 1 == 67) then fixed (codes "write a year BC with a sign and six digits, like -000043 for 44 BC")
    else nothing))) else nothing

-- The hint in a number of a time or of an offset, with the words before the digit.
abbrev pub in_clock : List ℕ → List ℕ → List ℕ → Tip
in_clock words front rest = if is_one_digit front 48 && follows_clock (byte_at rest 0) then around_last words (codes "`") else nothing

-- The hint about `AM` and `PM`.
abbrev pub half_day : Tip
half_day = fixed (codes "write the hour as 00 to 23, without AM or PM")

-- The hint in an hour.
abbrev pub in_hour : List ℕ → List ℕ → Tip
in_hour front rest = if byte_at rest 0 == 58 && ends_in_half_day rest then half_day else in_clock (codes "write the hour as `0") front rest

-- The hint about a date with a time, where only a time is read. A reader of dates reads 8 bytes before it reads an hour.
abbrev pub date_before_time : List ℕ → List ℕ → Tip
date_before_time text front = if nat_lt (length front) 8 && is_date text then fixed (codes "a date is not read before the time") else nothing

-- The hour before the position is 24, and the minute after it, if there is one, is 00.
abbrev pub is_end_of_day : List ℕ → List ℕ → Bool
is_end_of_day front rest = (byte_before front 2 == 50 && byte_before front 1 == 52)
    && (length rest == 0 || (byte_at (after_colon rest) 0 == 48 && byte_at (after_colon rest) 1 == 48))

-- The hint after an hour that may be the end of a day.
abbrev pub end_of_day : List ℕ → List ℕ → Tip
end_of_day front rest = if is_end_of_day front rest then fixed (codes "the end of a day is 00:00 of the next day") else nothing

-- The hint after an hour that is out of its range.
abbrev pub hour_range : List ℕ → List ℕ → List ℕ → Tip
hour_range text front rest = or_else (date_before_time text front) (end_of_day front rest)

-- The hint where an offset may follow.
abbrev pub before_offset : List ℕ → Tip
before_offset rest = if byte_at rest 0 == 32 && is_offset (drop 1 rest) then before_next (codes "remove the space before ")
    else (if is_dash rest then fixed (codes "write `-` instead")
    else (if is_utc (after_space rest) then fixed (codes "write `Z` for UTC")
    else (if is_gmt (after_space rest) then fixed (codes "write `Z` for GMT")
    else (if is_abbreviation (after_space rest) then fixed (codes "write an offset such as -05:00 instead of the abbreviation")
    else (if length (after_space rest) == 2 && ends_in_half_day rest then half_day
    else nothing)))))

-- The hint after a time with which the text may end.
abbrev pub after_second : List ℕ → Tip
after_second rest = or_else (at_bracket rest) (before_offset rest)

-- The hint after an hour or a minute, where only a `:` may follow.
abbrev pub after_minute_field : List ℕ → Tip
after_minute_field rest = if is_fraction rest then fixed (codes "only the second has a fraction") else nothing

-- The hint after an hour or a minute of a time.
abbrev pub after_minute : List ℕ → Tip
after_minute rest = or_else (after_minute_field rest) (after_second rest)

-- The hint after an offset. No bracket follows an offset alone.
abbrev pub after_offset : List ℕ → List ℕ → Tip
after_offset front rest = if begins_with_offset front then at_end rest else at_bracket rest

-- The hint after an hour or a minute of an offset.
abbrev pub after_offset_minute : List ℕ → List ℕ → Tip
after_offset_minute front rest = or_else (after_minute_field rest) (after_offset front rest)

-- The hint after the hour of an offset.
abbrev pub after_offset_hour : List ℕ → List ℕ → List ℕ → Tip
after_offset_hour text front rest = or_else (date_before_time text front) (after_offset_minute front rest)

-- The hint after a date-time of RFC 3339.
abbrev pub after_rfc3339 : List ℕ → Tip
after_rfc3339 rest = if opening (byte_at rest 0) then fixed (codes "RFC 3339 has no brackets; remove them, or read the text by RFC 9557") else at_end rest

-- The hint after an offset that cannot have seconds.
abbrev pub after_offset_field : List ℕ → Tip
after_offset_field rest = if byte_at rest 0 == 58 && digit (byte_at rest 1) then fixed (codes "an offset has no seconds here") else after_rfc3339 rest

-- The hint after a time zone. In a bracket, the text cannot end here.
abbrev pub after_zone : List ℕ → List ℕ → Tip
after_zone front rest = if is_white_space rest then (if list_any opening front then nothing else fixed (codes "remove the white space at the end")) else nothing

-- The hint where an offset has to begin.
abbrev pub at_offset : List ℕ → Tip
at_offset rest = if is_dash rest then fixed (codes "write `-` instead") else at_start rest

-- The hint where a letter of a time zone's name has to follow.
abbrev pub after_slash : List ℕ → Tip
after_slash rest = if nat_lt 127 (byte_at rest 0) then fixed (codes "a time zone's name has no letters but A to Z and a to z") else nothing

-- The hint where the name of a time zone has to begin.
abbrev pub at_zone_name : List ℕ → Tip
at_zone_name rest = or_else (after_slash rest) (at_start rest)

-- The hint after a key.
abbrev pub after_key : List ℕ → List ℕ → Tip
after_key front rest = if byte_at rest 0 == 32 && ends_in_calendar_key front then fixed (codes "write `=` after the annotation's key") else nothing

-- The hint in the name of a time zone.
abbrev pub in_zone_name : List ℕ → List ℕ → Tip
in_zone_name front rest = if byte_at rest 0 == 32 && (letter (byte_at rest 1) || digit (byte_at rest 1))
    then or_else (after_key front rest) (fixed (codes "a time zone's name has `_` instead of a space"))
    else (if byte_at rest 0 == 61 && ends_in_calendar_key front then fixed (codes "write an annotation's key in lower-case letters")
    else or_else (after_slash rest) (after_zone front rest))

-- The hint where the content of the first bracket begins.
abbrev pub at_first_key : List ℕ → Tip
at_first_key rest = if byte_at rest 0 == 61 then fixed (codes "an annotation has a key and a value, like u-ca=hebrew") else nothing

-- The hint where a key has to begin or to go on.
abbrev pub at_key : List ℕ → Tip
at_key rest = if upper (byte_at rest 0) then (if has_equals rest then fixed (codes "write an annotation's key in lower-case letters") else nothing) else at_first_key rest

-- The hint in a key.
abbrev pub in_key : List ℕ → List ℕ → Tip
in_key front rest = if byte_at rest 0 == 93 then fixed (codes "an annotation has a key and a value, like u-ca=hebrew")
    else (if byte_at rest 0 == 32 then after_key front rest else at_key rest)

-- The hint after the `P` or the `T` of a duration.
abbrev pub after_designator : List ℕ → Tip
after_designator rest = if sign (byte_at rest 0) then fixed (codes "a sign can only stand before `P`") else nothing

-- The hint after a unit of a duration.
abbrev pub after_group : List ℕ → Tip
after_group rest = or_else (after_designator rest) (at_end rest)

-- The hint in a number of years, months, weeks or days.
abbrev pub in_date_number : List ℕ → Tip
in_date_number rest = if is_fraction rest then fixed (codes "only hours, minutes and seconds have a fraction, like PT0.5H")
    else (if hour_letter (byte_at rest 0) || second_letter (byte_at rest 0) then fixed (codes "write `T` before hours, minutes and seconds")
    else nothing)

-- The hint in a number of hours, minutes or seconds.
abbrev pub in_time_number : List ℕ → Tip
in_time_number rest = if year_letter (byte_at rest 0) || (week_letter (byte_at rest 0) || day_letter (byte_at rest 0)) then fixed (codes "write years, months, weeks and days before `T`") else nothing

-- The hint after a unit of a date that is not in order.
abbrev pub unit_order : List ℕ → Tip
unit_order front = if month_letter (byte_before front 1) then fixed (codes "`M` before `T` is months; write `T` before minutes") else nothing

-- The hint for each reason. The bytes before the position of the error are `front`, and those from the position on are `rest`.
abbrev pub hint : Reason → List ℕ → List ℕ → List ℕ → Tip
hint reasons.YearStart text front rest = at_date rest
hint reasons.YearDigits text front rest = in_year front rest
hint reasons.ExtendedYearDigits text front rest = fixed (codes "write a year with a sign like +012024")
hint reasons.MinusZeroYear text front rest = nothing
hint reasons.AfterYear text front rest = after_year rest
hint reasons.MonthDigits text front rest = in_month front rest
hint reasons.MonthRange text front rest = month_range text front rest
hint reasons.AfterHyphenedMonth text front rest = after_month rest
hint reasons.AfterBasicMonth text front rest = nothing
hint reasons.DayDigits text front rest = in_day front rest
hint reasons.DayRange text front rest = unix_time text
hint reasons.AfterDate text front rest = after_date text rest
hint reasons.AfterYearInYearMonth text front rest = after_year rest
hint reasons.AfterYearMonth text front rest = at_bracket rest
hint reasons.MonthDayStart text front rest = at_start rest
hint reasons.MonthDayHyphen text front rest = before_hyphen rest
hint reasons.MonthDayMonthDigits text front rest = in_month front rest
hint reasons.MonthDayMonthRange text front rest = nothing
hint reasons.AfterMonthDayMonth text front rest = before_hyphen rest
hint reasons.MonthDayDayDigits text front rest = in_day front rest
hint reasons.MonthDayRange text front rest = nothing
hint reasons.AfterMonthDay text front rest = at_bracket rest
hint reasons.TimeStart text front rest = at_start rest
hint reasons.TimeReadsAsMonthDay text front rest = nothing
hint reasons.TimeReadsAsYearMonth text front rest = nothing
hint reasons.HourStart text front rest = at_hour front rest
hint reasons.HourDigit text front rest = in_hour front rest
hint reasons.HourRange text front rest = hour_range text front rest
hint reasons.AfterHour text front rest = after_minute rest
hint reasons.MinuteDigits text front rest = in_clock (codes "write the minute as `0") front rest
hint reasons.MinuteRange text front rest = date_before_time text front
hint reasons.AfterBasicMinute text front rest = after_minute rest
hint reasons.AfterColonMinute text front rest = after_minute rest
hint reasons.SecondDigits text front rest = in_clock (codes "write the second as `0") front rest
hint reasons.SecondRange text front rest = nothing
hint reasons.AfterSecond text front rest = after_second rest
hint reasons.FractionStart text front rest = nothing
hint reasons.AfterFraction text front rest = after_second rest
hint reasons.OffsetHourStart text front rest = nothing
hint reasons.OffsetHourDigit text front rest = in_clock (codes "write the offset's hour as `0") front rest
hint reasons.OffsetHourRange text front rest = nothing
hint reasons.OffsetAfterHour text front rest = after_offset_hour text front rest
hint reasons.OffsetMinuteDigits text front rest = in_clock (codes "write the offset's minute as `0") front rest
hint reasons.OffsetMinuteRange text front rest = nothing
hint reasons.OffsetAfterBasicMinute text front rest = after_offset_minute front rest
hint reasons.OffsetAfterColonMinute text front rest = after_offset_minute front rest
hint reasons.OffsetSecondDigits text front rest = in_clock (codes "write the offset's second as `0") front rest
hint reasons.OffsetSecondRange text front rest = nothing
hint reasons.OffsetAfterSecond text front rest = after_offset front rest
hint reasons.OffsetFractionStart text front rest = nothing
hint reasons.OffsetAfterFraction text front rest = after_offset front rest
hint reasons.ZoneOffsetHourStart text front rest = nothing
hint reasons.ZoneOffsetHourDigit text front rest = in_clock (codes "write the offset's hour as `0") front rest
hint reasons.ZoneOffsetHourRange text front rest = nothing
hint reasons.ZoneOffsetAfterHour text front rest = after_zone front rest
hint reasons.ZoneOffsetMinuteDigits text front rest = in_clock (codes "write the offset's minute as `0") front rest
hint reasons.ZoneOffsetMinuteRange text front rest = nothing
hint reasons.ZoneOffsetAfterBasicMinute text front rest = after_zone front rest
hint reasons.ZoneOffsetAfterColonMinute text front rest = after_zone front rest
hint reasons.ZoneOffsetSecondDigits text front rest = nothing
hint reasons.ZoneOffsetSecondRange text front rest = nothing
hint reasons.ZoneOffsetAfterSecond text front rest = nothing
hint reasons.ZoneOffsetFractionStart text front rest = nothing
hint reasons.ZoneOffsetAfterFraction text front rest = nothing
hint reasons.OffsetStart text front rest = at_offset rest
hint reasons.AfterZulu text front rest = at_bracket rest
hint reasons.FourDigits text front rest = in_four_digits front rest
hint reasons.AfterFourDigits text front rest = after_four_digits text rest
hint reasons.MonthFieldDigits text front rest = in_month front rest
hint reasons.DayFieldDigits text front rest = in_day front rest
hint reasons.HourFieldDigits text front rest = in_hour front rest
hint reasons.MinuteFieldDigits text front rest = in_clock (codes "write the minute as `0") front rest
hint reasons.SecondFieldDigits text front rest = in_clock (codes "write the second as `0") front rest
hint reasons.OffsetHourFieldDigits text front rest = in_clock (codes "write the offset's hour as `0") front rest
hint reasons.OffsetMinuteFieldDigits text front rest = in_clock (codes "write the offset's minute as `0") front rest
hint reasons.MonthFieldRange text front rest = month_range text front rest
hint reasons.DayFieldRange text front rest = nothing
hint reasons.HourFieldRange text front rest = hour_range text front rest
hint reasons.MinuteFieldRange text front rest = nothing
hint reasons.SecondFieldRange text front rest = nothing
hint reasons.OffsetHourFieldRange text front rest = nothing
hint reasons.OffsetMinuteFieldRange text front rest = nothing
hint reasons.AfterMonthField text front rest = after_month rest
hint reasons.AfterDayField text front rest = after_date_field rest
hint reasons.AfterHourField text front rest = after_minute_field rest
hint reasons.AfterMinuteField text front rest = after_minute_field rest
hint reasons.AfterSecondField text front rest = before_offset rest
hint reasons.AfterOffsetHourField text front rest = nothing
hint reasons.AfterOffsetMinuteField text front rest = after_offset_field rest
hint reasons.AfterPoint text front rest = nothing
hint reasons.AfterSecfrac text front rest = before_offset rest
hint reasons.AfterUtc text front rest = after_rfc3339 rest
hint reasons.IdentifierStart text front rest = at_offset rest
hint reasons.ZoneNameStart text front rest = at_zone_name rest
hint reasons.InZoneName text front rest = in_zone_name front rest
hint reasons.AfterZoneSlash text front rest = after_slash rest
hint reasons.FirstBracketStart text front rest = at_first_key rest
hint reasons.FirstCriticalStart text front rest = at_first_key rest
hint reasons.FirstBracketScan text front rest = nothing
hint reasons.FirstNameForm text front rest = nothing
hint reasons.FirstOffsetForm text front rest = nothing
hint reasons.AfterBracket text front rest = at_bracket rest
hint reasons.KeyStart text front rest = at_key rest
hint reasons.CriticalKeyStart text front rest = at_key rest
hint reasons.InKey text front rest = in_key front rest
hint reasons.ValueStart text front rest = nothing
hint reasons.InValue text front rest = nothing
hint reasons.AfterValueHyphen text front rest = nothing
hint reasons.DurationStart text front rest = at_duration rest
hint reasons.AfterDurationSign text front rest = nothing
hint reasons.AfterDurationDesignator text front rest = after_designator rest
hint reasons.AfterDateGroups text front rest = after_group rest
hint reasons.AfterTimeDesignator text front rest = after_designator rest
hint reasons.AfterTimeGroups text front rest = after_group rest
hint reasons.AfterFractionGroup text front rest = at_end rest
hint reasons.DateGroupDigits text front rest = in_date_number rest
hint reasons.TimeGroupDigits text front rest = in_time_number rest
hint reasons.DateGroupRange text front rest = nothing
hint reasons.TimeGroupRange text front rest = nothing
hint reasons.DateUnitOrder text front rest = unit_order front
hint reasons.TimeUnitOrder text front rest = nothing
hint reasons.DateUnitRange text front rest = nothing
hint reasons.GroupFractionStart text front rest = nothing
hint reasons.GroupFractionDigits text front rest = nothing
hint reasons.UnrecognizedCritical text front rest = fixed (codes "remove `!` if the annotation may be ignored")
hint reasons.CriticalDuplicateCalendar text front rest = nothing

-- The message is the hint, or there is neither.
abbrev pub Says : Tip → List ℕ → List ℕ → Option Message → Type 0
Says nothing before rest None = ⊤
Says nothing before rest (Some m) = ⊥
Says (fixed words) before rest None = ⊥
Says (fixed words) before rest (Some m) = (m.before.now ≡ words) × (m.shown ≡ shows.Nothing) × (m.after.now ≡ [])
Says (before_front words) before rest None = ⊥
Says (before_front words) before rest (Some m) = (m.before.now ≡ words) × ShowsText before m.shown × (m.after.now ≡ [])
Says (before_next words) before rest None = ⊥
Says (before_next words) before rest (Some m) = (m.before.now ≡ words) × ShowsCharacter (after_space rest) m.shown × (m.after.now ≡ [])
Says (around_last words after) before rest None = ⊥
Says (around_last words after) before rest (Some m) = (m.before.now ≡ words) × ShowsText (drop (length before - 1) before) m.shown × (m.after.now ≡ after)

-- The hint about a text that is refused for the reason, if the position of the error is `at`.
pub record IsHint (reason : Reason) (text : List ℕ) (at : ℕ) (message : Option Message) : Type 0 where
  pub says : Says (hint reason text (take at text) (drop at text)) (take at text) (drop at text) message
