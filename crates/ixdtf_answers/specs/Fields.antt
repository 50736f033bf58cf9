-- Defines the fields of the value that a reader returns. Each field comes after a space.
use Rattle.ixdtf_grammar.specs.declared.records.UtcOffsetRecord.TheVariants as offsets
use Rattle.ixdtf_grammar.specs.declared.records.UtcOffsetRecordOrZ.TheVariants as shifts
use Rattle.std.specs.{Prelude.{ℕ, ◌^◌, ℤ, pos, nat_abs, Bool, true, false, List, [], ◌∷◌, ◌++◌, map, Option, Some, None, codes}, Fmt.{decimal, signed_decimal}, Int.int_rem_euclid}
use Rattle.ixdtf_instants.specs.Texts.{seconds_of}
use Rattle.ixdtf_grammar.specs.declared.records.{DateDurationRecord.DateDurationRecord, DateRecord.DateRecord, DurationParseRecord.DurationParseRecord}
use Rattle.ixdtf_grammar.specs.declared.records.{FullPrecisionOffset.FullPrecisionOffset, MinutePrecisionOffset.MinutePrecisionOffset, Sign.Sign}
use Rattle.ixdtf_grammar.specs.declared.records.{Sign.TheVariants.{Negative, Positive}, TimeDurationRecord.TimeDurationRecord}
use Rattle.ixdtf_grammar.specs.declared.records.{TimeDurationRecord.TheVariants.{Hours, Minutes, Seconds}, TimeRecord.TimeRecord}
use Rattle.ixdtf_grammar.specs.declared.records.{UtcOffsetRecord.UtcOffsetRecord, UtcOffsetRecordOrZ.UtcOffsetRecordOrZ}
use Rattle.ixdtf.specs.language.{Letters.Text, Digits.padded_digits, Fractions.{FractionParts, nanoseconds_of}, Brackets.ZoneNote}
use Rattle.ixdtf.specs.language.{Languages.{Parsed, Found, Found.{parsed, dated, shifted, identified, named, lasting}}, ZoneNames.{Zone, Zone.{Name, Offset}}}
use Rattle.ixdtf_print.specs.{Canonical.zone_text, Durations.duration_text, Offsets.utc_offset_text, Shown.code_point}

-- This is the byte `,`.
abbrev pub comma : ℕ
comma = 44

-- This is the byte `.`.
abbrev pub point : ℕ
point = 46

-- These are the last nine digits of a number, with leading zeros.
abbrev pub nine_digits_of : ℕ → List ℕ
nine_digits_of number = map code_point (padded_digits 9 number)

-- The field of a date has its year, month and day.
abbrev pub date_text_of : DateRecord → List ℕ
date_text_of date = codes " date=" ++ (signed_decimal date.year ++ comma ∷ (decimal date.month ++ comma ∷ decimal date.day))

abbrev pub date_field_of : Option DateRecord → List ℕ
date_field_of None = []
date_field_of (Some date) = date_text_of date

-- The field of a time begins with its hour, minute and second.
abbrev pub clock_text_of : TimeRecord → List ℕ
clock_text_of time = codes " time=" ++ (decimal time.hour ++ comma ∷ (decimal time.minute ++ comma ∷ decimal time.second))

-- A fraction has nine digits after a point.
abbrev pub fraction_text_of : Option FractionParts → List ℕ
fraction_text_of None = []
fraction_text_of (Some fraction) = point ∷ nine_digits_of (nanoseconds_of fraction)

-- The field of a time has its fraction at the end, if there is one.
abbrev pub time_text_of : TimeRecord → List ℕ
time_text_of time = clock_text_of time ++ fraction_text_of time.fraction

abbrev pub time_field_of : Option TimeRecord → List ℕ
time_field_of None = []
time_field_of (Some time) = time_text_of time

-- A sign is `-` or `+`.
abbrev pub sign_text_of : Sign → List ℕ
sign_text_of Negative = codes "-"
sign_text_of Positive = codes "+"

-- An offset has its sign, hours and minutes.
abbrev pub minute_offset_text_of : MinutePrecisionOffset → List ℕ
minute_offset_text_of offset = sign_text_of offset.sign ++ (decimal offset.hour ++ comma ∷ decimal offset.minute)

-- The seconds of an offset come after the minutes.
abbrev pub second_text_of : ℕ → List ℕ
second_text_of second = comma ∷ decimal second

-- An offset with seconds also has their fraction, if there is one.
abbrev pub full_offset_text_of : FullPrecisionOffset → List ℕ
full_offset_text_of offset =
    minute_offset_text_of offset.minute_precision_offset ++ (second_text_of offset.second ++ fraction_text_of offset.fraction)

-- These are the numbers of an offset, with seconds if it has them.
abbrev pub offset_numbers_of : UtcOffsetRecord → List ℕ
offset_numbers_of (offsets.MinutePrecision offset) = minute_offset_text_of offset
offset_numbers_of (offsets.FullPrecisionOffset offset) = full_offset_text_of offset

-- This is the field of an offset that has numbers.
abbrev pub offset_text_of : UtcOffsetRecord → List ℕ
offset_text_of offset = codes " offset=" ++ offset_numbers_of offset

-- This is the field of an offset, which has numbers or is `Z`.
abbrev pub offset_or_z_text_of : UtcOffsetRecordOrZ → List ℕ
offset_or_z_text_of (shifts.Offset offset) = offset_text_of offset
offset_or_z_text_of shifts.Z = codes " offset=Z"

abbrev pub offset_field_of : Option UtcOffsetRecordOrZ → List ℕ
offset_field_of None = []
offset_field_of (Some offset) = offset_or_z_text_of offset

-- A zone is the bytes of its name, or the numbers of its offset.
abbrev pub name_or_offset_of : Zone → List ℕ
name_or_offset_of (Name name) = name
name_or_offset_of (Offset offset) = minute_offset_text_of offset

-- `!` is present if the zone is critical.
abbrev pub critical_text_of : Bool → List ℕ
critical_text_of true = codes "!"
critical_text_of false = []

-- This label comes before a zone.
abbrev pub zone_label_of : Bool → List ℕ
zone_label_of critical = codes " tz=" ++ critical_text_of critical

-- This is the field of a zone. `critical` says whether the zone is critical.
abbrev pub zone_text_of : Bool → Zone → List ℕ
zone_text_of critical zone = zone_label_of critical ++ name_or_offset_of zone

abbrev pub zone_field_of : Option ZoneNote → List ℕ
zone_field_of None = []
zone_field_of (Some note) = zone_text_of note.critical note.zone

-- The field of a calendar has its bytes.
abbrev pub calendar_text_of : List ℕ → List ℕ
calendar_text_of calendar = codes " calendar=" ++ calendar

abbrev pub calendar_field_of : Option (List ℕ) → List ℕ
calendar_field_of None = []
calendar_field_of (Some calendar) = calendar_text_of calendar

-- These are the fields of a record, in their order.
abbrev pub record_fields_of : Parsed → List ℕ
record_fields_of found =
    date_field_of found.date ++ (time_field_of found.time ++ (offset_field_of found.offset ++ (zone_field_of found.zone ++ calendar_field_of found.calendar)))

-- The field of an instant has the seconds, and the nanoseconds after them.
abbrev pub seconds_text_of : ℤ → ℕ → List ℕ
seconds_text_of seconds nanoseconds = codes " seconds=" ++ (signed_decimal seconds ++ (codes " nanoseconds=" ++ decimal nanoseconds))

-- The instant is `count` nanoseconds after 1970-01-01T00:00:00Z. Its field has the seconds, rounded down, and the other
-- nanoseconds.
abbrev pub instant_text_of : ℤ → List ℕ
instant_text_of count = seconds_text_of (seconds_of count) (nat_abs (int_rem_euclid count (pos (10 ^ 9))))

-- The sign of a duration is always present.
abbrev pub sign_field_of : Sign → List ℕ
sign_field_of sign = codes " sign=" ++ sign_text_of sign

-- The date of a duration has its years, months, weeks and days.
abbrev pub date_duration_text_of : DateDurationRecord → List ℕ
date_duration_text_of date =
    codes " date=" ++ (decimal date.years ++ comma ∷ (decimal date.months ++ comma ∷ (decimal date.weeks ++ comma ∷ decimal date.days)))

abbrev pub date_duration_field_of : Option DateDurationRecord → List ℕ
date_duration_field_of None = []
date_duration_field_of (Some date) = date_duration_text_of date

-- The time of a duration has its hours, and the minutes and seconds if they are present.
abbrev pub time_numbers_of : TimeDurationRecord → List ℕ
time_numbers_of (Hours hours fraction) = codes " time=" ++ decimal hours
time_numbers_of (Minutes hours minutes fraction) = codes " time=" ++ (decimal hours ++ comma ∷ decimal minutes)
time_numbers_of (Seconds hours minutes seconds fraction) =
    codes " time=" ++ (decimal hours ++ comma ∷ (decimal minutes ++ comma ∷ decimal seconds))

-- This is the fraction of the last of these numbers, if there is one.
abbrev pub last_fraction_of : TimeDurationRecord → Option FractionParts
last_fraction_of (Hours hours fraction) = fraction
last_fraction_of (Minutes hours minutes fraction) = fraction
last_fraction_of (Seconds hours minutes seconds fraction) = fraction

-- The field of the time of a duration has its fraction at the end, if there is one.
abbrev pub time_duration_text_of : TimeDurationRecord → List ℕ
time_duration_text_of time = time_numbers_of time ++ fraction_text_of (last_fraction_of time)

abbrev pub time_duration_field_of : Option TimeDurationRecord → List ℕ
time_duration_field_of None = []
time_duration_field_of (Some time) = time_duration_text_of time

-- A duration has its sign, its date if there is one, and its time if there is one.
abbrev pub duration_text_of : DurationParseRecord → List ℕ
duration_text_of duration = sign_field_of duration.sign ++ (date_duration_field_of duration.date ++ time_duration_field_of duration.time)

-- These are the fields of the value that a reader returns.
abbrev pub fields_of : Found → List ℕ
fields_of (parsed found) = record_fields_of found
fields_of (dated found) = record_fields_of found
fields_of (shifted offset) = offset_text_of offset
fields_of (identified zone) = zone_text_of false zone
fields_of (named name) = zone_text_of false (Name name)
fields_of (lasting duration) = duration_text_of duration

-- This is a space, and the bytes of the canonical text of the value that a reader returns. `text_of` gives the canonical text of a
-- record of dates and times. For a name, there are no bytes.
abbrev pub canonical_field_by : (Parsed → Text) → Found → List ℕ
canonical_field_by text_of (parsed found) = codes " " ++ map code_point (text_of found)
canonical_field_by text_of (dated found) = codes " " ++ map code_point (text_of found)
canonical_field_by text_of (shifted offset) = codes " " ++ map code_point (utc_offset_text offset)
canonical_field_by text_of (identified zone) = codes " " ++ map code_point (zone_text zone)
canonical_field_by text_of (named name) = []
canonical_field_by text_of (lasting duration) = codes " " ++ map code_point (duration_text duration)
