-- Which records have a text, stated for their fields. Only private clauses use these definitions. Public contracts use
-- `IsPrintable` of `Printable.antt`.
use Rattle.ixdtf_grammar.specs.declared.records.UtcOffsetRecord.TheVariants as offsets
use Rattle.ixdtf_grammar.specs.declared.records.UtcOffsetRecordOrZ.TheVariants as stands
use Rattle.std.specs.Prelude.{ℕ, ◌≤◌, ◌<◌, ◌^◌, min, List, map, Option, Some, None, nat_abs}
use Rattle.ixdtf_grammar.specs.declared.records.{DateRecord.DateRecord, MinutePrecisionOffset.MinutePrecisionOffset, TimeRecord.TimeRecord}
use Rattle.ixdtf_grammar.specs.declared.records.UtcOffsetRecordOrZ.{UtcOffsetRecordOrZ}
use Rattle.ixdtf.specs.language.{Letters.Letter.Plain, Dates.IsDayOfMonth, Fractions.FractionParts, ZoneNames.{Zone, ZoneName, Zone.{Name, Offset}}}
use Rattle.ixdtf.specs.language.{Brackets.{ZoneNote, Value}, Languages.Parsed}

-- The date is a day of the Gregorian calendar, in a year of at most six digits.
pub record IsDay (date : DateRecord) : Type 0 where
  pub year : nat_abs date.year ≤ 999999
  pub month_from : 1 ≤ date.month
  pub month_to : date.month ≤ 12
  pub day : IsDayOfMonth date

abbrev pub HasDay : Option DateRecord → Type 0
HasDay None = ⊥
HasDay (Some date) = IsDay date

-- The fraction has 1 to 255 digits, and a value that its first 18 digits can have.
pub record AreDigits (fraction : FractionParts) : Type 0 where
  pub count_from : 1 ≤ fraction.count
  pub count_to : fraction.count ≤ 255
  pub value : fraction.value < 10 ^ min fraction.count 18

abbrev pub HasDigits : Option FractionParts → Type 0
HasDigits None = Unit {0}
HasDigits (Some fraction) = AreDigits fraction

-- The numbers are a time of day or an offset with seconds. The greatest second is `last`.
pub record IsClock (last h m s : ℕ) (part : Option FractionParts) : Type 0 where
  pub hour : h ≤ 23
  pub minute : m ≤ 59
  pub second : s ≤ last
  pub fraction : HasDigits part

abbrev pub IsDayTime : TimeRecord → Type 0
IsDayTime time = IsClock 60 time.hour time.minute time.second time.fraction

abbrev pub IsMinuteClock : MinutePrecisionOffset → Type 0
IsMinuteClock offset = (offset.hour ≤ 23) × (offset.minute ≤ 59)

abbrev pub IsShift : UtcOffsetRecordOrZ → Type 0
IsShift stands.Z = Unit {0}
IsShift (stands.Offset (offsets.MinutePrecision offset)) = IsMinuteClock offset
IsShift (stands.Offset (offsets.FullPrecisionOffset offset)) =
    IsClock 59 offset.minute_precision_offset.hour offset.minute_precision_offset.minute offset.second offset.fraction

-- An offset follows only a time, and both have texts.
abbrev pub HasTime : Option TimeRecord → Option UtcOffsetRecordOrZ → Type 0
HasTime None None = Unit {0}
HasTime None (Some offset) = ⊥
HasTime (Some time) None = IsDayTime time
HasTime (Some time) (Some offset) = IsDayTime time × IsShift offset

abbrev pub IsZoneText : Zone → Type 0
IsZoneText (Name name) = ZoneName (map Plain name)
IsZoneText (Offset offset) = IsMinuteClock offset

abbrev pub HasZone : Option ZoneNote → Type 0
HasZone None = Unit {0}
HasZone (Some note) = IsZoneText note.zone

abbrev pub HasCalendar : Option (List ℕ) → Type 0
HasCalendar None = Unit {0}
HasCalendar (Some value) = Value (map Plain value)

-- The zone and the calendar have texts.
abbrev pub HasBrackets : Parsed → Type 0
HasBrackets found = HasZone found.zone × HasCalendar found.calendar

-- Each field has a text, and there is a date.
pub record IsSpelled (found : Parsed) : Type 0 where
  pub date : HasDay found.date
  pub time : HasTime found.time found.offset
  pub zone : HasZone found.zone
  pub calendar : HasCalendar found.calendar
