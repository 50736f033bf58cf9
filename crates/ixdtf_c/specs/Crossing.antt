-- The records that readers write for C. The fields of a part that is absent are 0, false or empty.
use Rattle.ixdtf_grammar.specs.declared.records.TimeDurationRecord.TheVariants as times
use Rattle.ixdtf_grammar.specs.declared.records.UtcOffsetRecord.TheVariants as offsets
use Rattle.ixdtf_grammar.specs.declared.records.UtcOffsetRecordOrZ.TheVariants as shifts
use Rattle.std.specs.Prelude.{◌≡◌, ℕ, Bool, true, false, List, [], Option, Some, None, Result, Ok, Err, pos}
use Rattle.ixdtf_grammar.specs.declared.records.{DateRecord.DateRecord, TimeRecord.TimeRecord, Sign.{Sign, TheVariants.{Positive, Negative}}}
use Rattle.ixdtf_grammar.specs.declared.records.{DateDurationRecord.DateDurationRecord, DurationParseRecord.DurationParseRecord}
use Rattle.ixdtf_grammar.specs.declared.records.{TimeDurationRecord.TimeDurationRecord, UtcOffsetRecord.UtcOffsetRecord}
use Rattle.ixdtf_grammar.specs.declared.records.UtcOffsetRecordOrZ.{UtcOffsetRecordOrZ}
use Rattle.ixdtf.specs.table.ErrorEquality.{location_of}
use Rattle.ixdtf.specs.language.{Brackets.ZoneNote, Fractions.FractionParts, Languages.Parsed, ZoneNames.{Zone as SomeZone, Zone.{Name, Offset as ByOffset}}}
use Rattle.ixdtf_c.specs.{declared.part_structs.{Date.Date, Time.Time, Offset.Offset}, Located.FaultAt, Numbers.outcome_number}

-- ---- The contents of a record: its fields, with each slice as a list of the numbers of its code units.

pub record ZoneContents : Type 0 where
  pub name : List ℕ
  pub form : ℕ
  pub is_critical : Bool
  pub is_negative : Bool
  pub hour : ℕ
  pub minute : ℕ

pub record Contents : Type 0 where
  pub date : Date
  pub time : Time
  pub offset : Offset
  pub zone : ZoneContents
  pub calendar : List ℕ
  pub has_calendar : Bool
  pub location : List ℕ
  pub place : ℕ

pub record DurationContents : Type 0 where
  pub days : ℕ
  pub hours : ℕ
  pub minutes : ℕ
  pub seconds : ℕ
  pub fraction : ℕ
  pub years : ℕ
  pub months : ℕ
  pub weeks : ℕ
  pub fraction_digits : ℕ
  pub time_form : ℕ
  pub has_date : Bool
  pub is_negative : Bool
  pub location : List ℕ
  pub place : ℕ

-- ---- What is written for a part of a record.

-- The number of digits of a fraction, or 0 without a fraction.
abbrev pub digits_for : Option FractionParts → ℕ
digits_for None = 0
digits_for (Some fraction) = fraction.count

-- The first digits of a fraction as one number, or 0 without a fraction.
abbrev pub value_for : Option FractionParts → ℕ
value_for None = 0
value_for (Some fraction) = fraction.value

abbrev pub is_negative : Sign → Bool
is_negative Positive = false
is_negative Negative = true

abbrev pub date_for : Option DateRecord → Date
date_for None = record { year = pos 0; month = 0; day = 0; is_there = false }
date_for (Some it) = record { year = it.year; month = it.month; day = it.day; is_there = true }

abbrev pub time_for : Option TimeRecord → Time
time_for None = record { fraction = 0; fraction_digits = 0; hour = 0; minute = 0; second = 0; is_there = false }
time_for (Some it) = record {
  fraction = value_for it.fraction;
  fraction_digits = digits_for it.fraction;
  hour = it.hour;
  minute = it.minute;
  second = it.second;
  is_there = true;
}

-- An offset that has only a form. Its other fields are 0 or false.
abbrev pub offset_of_form : ℕ → Offset
offset_of_form form = record { fraction = 0; fraction_digits = 0; form = form; is_negative = false; hour = 0; minute = 0; second = 0 }

-- Form 2 has hours and minutes. Form 3 has hours, minutes and seconds.
abbrev pub utc_offset_for : UtcOffsetRecord → Offset
utc_offset_for (offsets.MinutePrecision it) = record {
  fraction = 0;
  fraction_digits = 0;
  form = 2;
  is_negative = is_negative it.sign;
  hour = it.hour;
  minute = it.minute;
  second = 0;
}
utc_offset_for (offsets.FullPrecisionOffset it) = record {
  fraction = value_for it.fraction;
  fraction_digits = digits_for it.fraction;
  form = 3;
  is_negative = is_negative it.minute_precision_offset.sign;
  hour = it.minute_precision_offset.hour;
  minute = it.minute_precision_offset.minute;
  second = it.second;
}

-- Form 0 means that there is no offset. Form 1 is `Z`.
abbrev pub offset_for : Option UtcOffsetRecordOrZ → Offset
offset_for None = offset_of_form 0
offset_for (Some shifts.Z) = offset_of_form 1
offset_for (Some (shifts.Offset it)) = utc_offset_for it

-- Form 1 is a zone that is a name. Form 2 is a zone that is an offset.
abbrev pub time_zone_for : Bool → SomeZone → ZoneContents
time_zone_for critical (Name units) = record { name = units; form = 1; is_critical = critical; is_negative = false; hour = 0; minute = 0 }
time_zone_for critical (ByOffset it) = record {
  name = [];
  form = 2;
  is_critical = critical;
  is_negative = is_negative it.sign;
  hour = it.hour;
  minute = it.minute;
}

-- Form 0 means that there is no zone.
abbrev pub zone_for : Option ZoneNote → ZoneContents
zone_for None = record { name = []; form = 0; is_critical = false; is_negative = false; hour = 0; minute = 0 }
zone_for (Some it) = time_zone_for it.critical it.zone

abbrev pub units_for : Option (List ℕ) → List ℕ
units_for None = []
units_for (Some units) = units

abbrev pub is_there : Option (List ℕ) → Bool
is_there None = false
is_there (Some units) = true

-- ---- What is written for a text.

-- All fields of a record.
abbrev pub record_for : Parsed → Contents
record_for found = record {
  date = date_for found.date;
  time = time_for found.time;
  offset = offset_for found.offset;
  zone = zone_for found.zone;
  calendar = units_for found.calendar;
  has_calendar = is_there found.calendar;
  location = [];
  place = 0;
}

abbrev pub nothing : Parsed
nothing = record { date = None; time = None; offset = None; zone = None; calendar = None }

-- The record that has only an offset, only a zone, or only a zone that is a name.
abbrev pub offset_alone : UtcOffsetRecord → Parsed
offset_alone shift = record nothing { offset = Some (shifts.Offset shift) }

abbrev pub zone_alone : SomeZone → Parsed
zone_alone zone = record nothing { zone = Some (record { critical = false; zone = zone }) }

abbrev pub name_alone : List ℕ → Parsed
name_alone units = zone_alone (Name units)

-- The years, months, weeks and days are written, if they are present.
abbrev pub with_date : DurationContents → Option DateDurationRecord → DurationContents
with_date contents None = contents
with_date contents (Some it) = record contents { years = it.years; months = it.months; weeks = it.weeks; days = it.days; has_date = true }

-- The time is written, if it is present. In the forms 1, 2 and 3, the last duration unit is hours, minutes and seconds.
abbrev pub with_time : DurationContents → Option TimeDurationRecord → DurationContents
with_time contents None = contents
with_time contents (Some (times.Hours hours fraction)) =
    record contents { hours = hours; fraction = value_for fraction; fraction_digits = digits_for fraction; time_form = 1 }
with_time contents (Some (times.Minutes hours minutes fraction)) =
    record contents { hours = hours; minutes = minutes; fraction = value_for fraction; fraction_digits = digits_for fraction; time_form = 2 }
with_time contents (Some (times.Seconds hours minutes seconds fraction)) =
    record contents {
      hours = hours;
      minutes = minutes;
      seconds = seconds;
      fraction = value_for fraction;
      fraction_digits = digits_for fraction;
      time_form = 3;
    }

-- The duration that has only a sign. Its other fields are 0, false or empty.
abbrev pub no_duration : Bool → DurationContents
no_duration is_negative = record {
  days = 0;
  hours = 0;
  minutes = 0;
  seconds = 0;
  fraction = 0;
  years = 0;
  months = 0;
  weeks = 0;
  fraction_digits = 0;
  time_form = 0;
  has_date = false;
  is_negative = is_negative;
  location = [];
  place = 0;
}

-- All fields of a duration.
abbrev pub duration_for : DurationParseRecord → DurationContents
duration_for found = with_time (with_date (no_duration (is_negative found.sign)) found.date) found.time

-- ---- What a reader returns and writes.

-- After `Ok`, the record is the one of the text. After an error, it is unchanged, except for the location and the position, which
-- are those of the error.
abbrev pub record_after : {A : Type 0} → (A → Parsed) → Contents → Result A FaultAt → Contents
record_after whole old (Ok found) = record_for (whole found)
record_after whole old (Err e) = record old { location = location_of e.fault; place = e.at }

abbrev pub duration_after : DurationContents → Result DurationParseRecord FaultAt → DurationContents
duration_after old (Ok found) = duration_for found
duration_after old (Err e) = record old { location = location_of e.fault; place = e.at }

-- The outcome determines the number that is returned, and the record that is written.
abbrev pub Gives : {A : Type 0} → (A → Parsed) → Result A FaultAt → ℕ → Contents → Contents → Type 0
Gives whole outcome number old new = (number ≡ outcome_number outcome) × (new ≡ record_after whole old outcome)

abbrev pub GivesDuration : Result DurationParseRecord FaultAt → ℕ → DurationContents → DurationContents → Type 0
GivesDuration outcome number old new = (number ≡ outcome_number outcome) × (new ≡ duration_after old outcome)
