-- The record of the library that a struct of C stands for. If a `form` has no meaning, there is no such record. The fields of a part
-- that is absent do not matter.
use Rattle.ixdtf_grammar.specs.declared.records.TimeDurationRecord.TheVariants as times
use Rattle.ixdtf_grammar.specs.declared.records.UtcOffsetRecord.TheVariants as offsets
use Rattle.ixdtf_grammar.specs.declared.records.UtcOffsetRecordOrZ.TheVariants as shifts
use Rattle.std.specs.Prelude.{ℕ, Bool, true, false, not, nat_eq, if◌then◌else◌, List, [], Option, Some, None}
use Rattle.ixdtf_grammar.specs.declared.records.{DateRecord.DateRecord, TimeRecord.TimeRecord, MinutePrecisionOffset.MinutePrecisionOffset}
use Rattle.ixdtf_grammar.specs.declared.records.{DateDurationRecord.DateDurationRecord, DurationParseRecord.DurationParseRecord}
use Rattle.ixdtf_grammar.specs.declared.records.{TimeDurationRecord.TimeDurationRecord, UtcOffsetRecord.UtcOffsetRecord, UtcOffsetRecordOrZ.UtcOffsetRecordOrZ}
use Rattle.ixdtf.specs.language.{Brackets.ZoneNote, Fractions.FractionParts, Languages.Parsed, OffsetRecords.sign_for}
use Rattle.ixdtf.specs.language.ZoneNames.{Zone as TimeZone, Zone.{Name, Offset as ByOffset}}
use Rattle.ixdtf_c.specs.{declared.part_structs.{Date.Date, Time.Time, Offset.Offset}, Crossing.{Contents, ZoneContents, DurationContents}}

-- The value if it is present, and otherwise `None`.
abbrev pub where_there : {A : Type 0} → Bool → A → Option A
where_there true a = Some a
where_there false a = None

-- The fraction with this number of digits. Without digits, there is no fraction.
abbrev pub fraction_by : ℕ → ℕ → Option FractionParts
fraction_by digits value = if nat_eq digits 0 then None else Some (record { count = digits; value = value })

abbrev pub date_by : Date → Option DateRecord
date_by d = where_there d.is_there (record { year = d.year; month = d.month; day = d.day })

abbrev pub time_by : Time → Option TimeRecord
time_by t = where_there t.is_there (record { hour = t.hour; minute = t.minute; second = t.second; fraction = fraction_by t.fraction_digits t.fraction })

-- The offset with this sign, this hour and this minute.
abbrev pub minutes_by : Bool → ℕ → ℕ → MinutePrecisionOffset
minutes_by is_negative hour minute = record { sign = sign_for (not is_negative); hour = hour; minute = minute }

-- The form says what the offset is. 0: there is no offset. 1: it is `Z`. 2: it has hours and minutes. 3: it has hours, minutes and
-- seconds. Every other form has no meaning.
abbrev pub offset_by : Offset → Option (Option UtcOffsetRecordOrZ)
offset_by o =
    if nat_eq o.form 0 then Some None
    else (if nat_eq o.form 1 then Some (Some shifts.Z)
    else (if nat_eq o.form 2 then Some (Some (shifts.Offset (offsets.MinutePrecision (minutes_by o.is_negative o.hour o.minute))))
    else (if nat_eq o.form 3 then Some (Some (shifts.Offset (offsets.FullPrecisionOffset (record {
      minute_precision_offset = minutes_by o.is_negative o.hour o.minute;
      second = o.second;
      fraction = fraction_by o.fraction_digits o.fraction;
    }))))
    else None)))

-- The form says what the zone is. 0: there is no zone. 1: it is a name. 2: it is an offset. Every other form has no meaning.
abbrev pub zone_by : ZoneContents → Option (Option ZoneNote)
zone_by z =
    if nat_eq z.form 0 then Some None
    else (if nat_eq z.form 1 then Some (Some (record { critical = z.is_critical; zone = Name z.name }))
    else (if nat_eq z.form 2 then Some (Some (record { critical = z.is_critical; zone = ByOffset (minutes_by z.is_negative z.hour z.minute) }))
    else None))

-- The record, if the forms of its offset and of its zone have a meaning.
abbrev pub parsed_by : Contents → Option (Option UtcOffsetRecordOrZ) → Option (Option ZoneNote) → Option Parsed
parsed_by r (Some offset) (Some zone) = Some (record {
  date = date_by r.date;
  time = time_by r.time;
  offset = offset;
  zone = zone;
  calendar = where_there r.has_calendar r.calendar;
})
parsed_by r (Some offset) None = None
parsed_by r None (Some _) = None
parsed_by r None None = None

abbrev pub record_by : Contents → Option Parsed
record_by r = parsed_by r (offset_by r.offset) (zone_by r.zone)

-- The offset, if it is present and is not `Z`.
abbrev pub utc_offset_in : Option (Option UtcOffsetRecordOrZ) → Option UtcOffsetRecord
utc_offset_in (Some (Some (shifts.Offset it))) = Some it
utc_offset_in (Some (Some shifts.Z)) = None
utc_offset_in (Some None) = None
utc_offset_in None = None

abbrev pub utc_offset_by : Offset → Option UtcOffsetRecord
utc_offset_by o = utc_offset_in (offset_by o)

-- The zone, if it is present. Whether it is critical is dropped.
abbrev pub time_zone_in : Option (Option ZoneNote) → Option TimeZone
time_zone_in (Some (Some note)) = Some note.zone
time_zone_in (Some None) = None
time_zone_in None = None

abbrev pub time_zone_by : ZoneContents → Option TimeZone
time_zone_by z = time_zone_in (zone_by z)

-- The code units if they are present, and otherwise the empty list.
abbrev pub units_where : Bool → List ℕ → List ℕ
units_where true units = units
units_where false units = []

-- The years, months, weeks and days of a duration, or `None` if they are absent.
abbrev pub date_units_by : DurationContents → Option DateDurationRecord
date_units_by d = where_there d.has_date (record { years = d.years; months = d.months; weeks = d.weeks; days = d.days })

-- The form says what the time is. 0: there is no time. 1, 2 and 3: its last duration unit is hours, minutes and seconds. Every other
-- form has no meaning.
abbrev pub time_units_by : DurationContents → Option (Option TimeDurationRecord)
time_units_by d =
    if nat_eq d.time_form 0 then Some None
    else (if nat_eq d.time_form 1 then Some (Some (times.Hours d.hours (fraction_by d.fraction_digits d.fraction)))
    else (if nat_eq d.time_form 2 then Some (Some (times.Minutes d.hours d.minutes (fraction_by d.fraction_digits d.fraction)))
    else (if nat_eq d.time_form 3 then Some (Some (times.Seconds d.hours d.minutes d.seconds (fraction_by d.fraction_digits d.fraction)))
    else None)))

-- The duration, if the form of its time has a meaning.
abbrev pub lasting_by : DurationContents → Option (Option TimeDurationRecord) → Option DurationParseRecord
lasting_by d (Some time) = Some (record { sign = sign_for (not d.is_negative); date = date_units_by d; time = time })
lasting_by d None = None

abbrev pub duration_by : DurationContents → Option DurationParseRecord
duration_by d = lasting_by d (time_units_by d)
