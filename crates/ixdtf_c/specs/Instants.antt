-- The instant of a record. It is the instant of the date, the time and the offset of the record. The other parts do not matter.
use Rattle.ixdtf_grammar.specs.declared.records.UtcOffsetRecordOrZ.TheVariants as shifts
use Rattle.std.specs.Prelude.{◌≡◌, ℕ, ◌<◌, ◌^◌, Option, Some, None, ℤ, pos, ◌+ℤ◌, ◌*ℤ◌}
use Rattle.ixdtf_grammar.specs.declared.records.{DateRecord.DateRecord, TimeRecord.TimeRecord, UtcOffsetRecordOrZ.UtcOffsetRecordOrZ}
use Rattle.ixdtf.specs.language.{Fractions.FractionParts, OffsetRecords.fraction_of_offset}
use Rattle.ixdtf_instants.specs.Calendar.{IsMonth}
use Rattle.ixdtf.specs.Instants.{instant_count}
use Rattle.ixdtf_c.specs.{declared.part_structs.{Date.Date, Time.Time, Offset.Offset}, Crossing.Contents, Standing.{date_by, time_by, offset_by}}
use Rattle.ixdtf_print.specs.Spelled.{HasDigits}

-- The fraction of an offset, or `None` if it has no fraction.
abbrev pub offset_fraction : UtcOffsetRecordOrZ → Option FractionParts
offset_fraction shifts.Z = None
offset_fraction (shifts.Offset offset) = fraction_of_offset offset

-- There is a date, a time, and an offset or `Z`. The month is 1 to 12, and each fraction is valid (`HasDigits`). A day, an hour, a
-- minute or a second may be out of range. `instant_count` says how it is counted.
pub record HaveInstant (d : Date) (t : Time) (o : Offset) : Type 0 where
  pub date : DateRecord
  pub time : TimeRecord
  pub offset : UtcOffsetRecordOrZ
  pub has_date : date_by d ≡ Some date
  pub has_time : time_by t ≡ Some time
  pub has_offset : offset_by o ≡ Some (Some offset)
  pub month : IsMonth date.month
  pub digits : HasDigits time.fraction
  pub offset_digits : HasDigits (offset_fraction offset)

abbrev pub HasInstant : Contents → Type 0
HasInstant r = HaveInstant r.date r.time r.offset

-- The instant is this number of seconds since 1970-01-01T00:00:00Z, and this number of nanoseconds after them. It is the local time
-- minus the offset (RFC 3339, section 4.2).
pub record AreInstant (d : Date) (t : Time) (o : Offset) (seconds : ℤ) (nanoseconds : ℕ) : Type 0 where
  pub has : HaveInstant d t o
  pub counts : seconds *ℤ pos (10 ^ 9) +ℤ pos nanoseconds ≡ instant_count has.date has.time has.offset
  pub fits : nanoseconds < 10 ^ 9

abbrev pub IsInstantOf : Contents → ℤ → ℕ → Type 0
IsInstantOf r seconds nanoseconds = AreInstant r.date r.time r.offset seconds nanoseconds
