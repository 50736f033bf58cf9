-- Instants: the number of nanoseconds from 1970-01-01T00:00:00Z to a date and a time at an offset from UTC. Each day has 24 hours
-- (POSIX.1-2017, section 4.16, "Seconds Since the Epoch").
use Rattle.ixdtf_grammar.specs.declared.records.UtcOffsetRecordOrZ.TheVariants as stands
use Rattle.std.specs.Prelude.{◌≡◌, ℕ, ◌+◌, ◌*◌, ◌<◌, ◌^◌, min, Option, Some, None, unwrap_or, ℤ, pos, neg_ℤ, ◌+ℤ◌, ◌-ℤ◌, ◌*ℤ◌}
use Rattle.ixdtf_instants.specs.{declared.instant.Instant.{Instant}, Calendar.{IsMonth, day_number_of}, Counts.count_of}
use Rattle.ixdtf_grammar.specs.declared.records.{DateRecord.DateRecord, TimeRecord.TimeRecord, IxdtfParseRecord.IxdtfParseRecord}
use Rattle.ixdtf_grammar.specs.declared.records.{UtcOffsetRecord.UtcOffsetRecord, UtcOffsetRecordOrZ.UtcOffsetRecordOrZ, Sign.{Sign, TheVariants.{Positive, Negative}}}
use Rattle.ixdtf_grammar.specs.language.{Fractions.{FractionParts, nanoseconds_of}, OffsetRecords.{minute_part_of, second_of, fraction_of_offset}}

-- The nanoseconds of a fraction are its first nine digits. Without a fraction they are 0.
abbrev pub fraction_nanoseconds : Option FractionParts → ℕ
fraction_nanoseconds None = 0
fraction_nanoseconds (Some fraction) = nanoseconds_of fraction

-- This is the number of nanoseconds in the hours, the minutes, the seconds and the fraction together.
abbrev pub nanoseconds_in : ℕ → ℕ → ℕ → Option FractionParts → ℕ
nanoseconds_in hour minute second fraction =
    ((hour * 60 + minute) * 60 + second) * 10 ^ 9 + fraction_nanoseconds fraction

-- This is the number of nanoseconds from midnight to a time of day. Second 60 counts as second 59 (`ParseISODateTime` of Temporal).
abbrev pub time_count : TimeRecord → ℕ
time_count time = nanoseconds_in time.hour time.minute (min time.second 59) time.fraction

-- This is the number of nanoseconds from 1970-01-01T00:00:00 to the date and the time, both as local time.
abbrev pub clock_count : DateRecord → TimeRecord → ℤ
clock_count date time = day_number_of date.year date.month date.day *ℤ pos (24 * 60 * 60 * 10 ^ 9) +ℤ pos (time_count time)

-- This is the number of nanoseconds in the hours, minutes and seconds of an offset, without its sign.
abbrev pub distance_of : UtcOffsetRecord → ℕ
distance_of offset =
    nanoseconds_in (minute_part_of offset).hour (minute_part_of offset).minute (unwrap_or (second_of offset) 0) (fraction_of_offset offset)

abbrev pub signed_by : Sign → ℕ → ℤ
signed_by Positive n = pos n
signed_by Negative n = neg_ℤ (pos n)

-- This is the number of seconds that local time is ahead of UTC, without a fraction. It is below zero if local time is behind UTC.
abbrev pub seconds_ahead : UtcOffsetRecord → ℤ
seconds_ahead offset =
    signed_by (minute_part_of offset).sign (((minute_part_of offset).hour * 60 + (minute_part_of offset).minute) * 60 + unwrap_or (second_of offset) 0)

-- This is the number of nanoseconds that local time is ahead of UTC. It is below zero if local time is behind UTC.
abbrev pub offset_count : UtcOffsetRecordOrZ → ℤ
offset_count (stands.Offset offset) = signed_by (minute_part_of offset).sign (distance_of offset)
offset_count stands.Z = pos 0

-- The instant is the local time minus the offset (RFC 3339 section 4.2).
unfoldable pub instant_count : DateRecord → TimeRecord → UtcOffsetRecordOrZ → ℤ
instant_count date time offset = clock_count date time -ℤ offset_count offset

-- The record has a date, a time and an offset or `Z`, and the month of the date is from 1 to 12.
pub record HasInstant {T U : Type 0} (r : IxdtfParseRecord T U) : Type 0 where
  pub date : DateRecord
  pub time : TimeRecord
  pub offset : UtcOffsetRecordOrZ
  pub has_date : r.date ≡ Some date
  pub has_time : r.time ≡ Some time
  pub has_offset : r.offset ≡ Some offset
  pub month : IsMonth date.month

-- The instant is that of the record, and its nanoseconds are below 1,000,000,000.
pub record IsInstantOf {T U : Type 0} (r : IxdtfParseRecord T U) (instant : Instant) : Type 0 where
  pub has : HasInstant r
  pub counts : count_of instant ≡ instant_count has.date has.time has.offset
  pub fits : instant.nanoseconds < 10 ^ 9
