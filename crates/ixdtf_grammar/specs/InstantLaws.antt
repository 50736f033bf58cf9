-- Laws about the instants of dates, times and offsets.
use Rattle.std.specs.Prelude.{◌≡◌, ◌↔◌, ◌⊎◌, ◌+◌, ◌*◌, ◌<◌, ◌≤◌, ◌^◌, min, map, Some, None, pos, neg_ℤ, ◌+ℤ◌, ◌-ℤ◌, ◌<ℤ◌, ◌≤ℤ◌}
use Rattle.ixdtf_instants.specs.{declared.instant.Instant.{Instant}, Calendar.{IsCivilDate, month_length, day_number_of}, Counts.count_of, Order.IsBefore, Texts.instant_text}
use Rattle.ixdtf_grammar.specs.declared.records.{DateRecord.DateRecord, TimeRecord.TimeRecord, UtcOffsetRecordOrZ.{UtcOffsetRecordOrZ, TheVariants.{Z}}}
use Rattle.ixdtf_grammar.specs.{Handlers.UnhandledRecord, language.{Letters.Letter.Plain, Languages.Parsed, Readers.parse}}
use Rattle.ixdtf_grammar.specs.Instants.{fraction_nanoseconds, clock_count, offset_count, instant_count}

-- The calendar has the date: its month has its day.
abbrev pub HasDay : DateRecord → Type 0
HasDay date = IsCivilDate date.year date.month date.day

-- A clock can show the time. The second can be 60.
abbrev pub IsShown : TimeRecord → Type 0
IsShown time = (time.hour ≤ 23) × (time.minute ≤ 59) × (time.second ≤ 60)

-- ---- the next day

-- `next` is the next day of the same month.
abbrev pub IsNextInMonth : DateRecord → DateRecord → Type 0
IsNextInMonth date next =
    (date.day < month_length date.year date.month)
    × (next.year ≡ date.year) × (next.month ≡ date.month) × (next.day ≡ date.day + 1)

-- `date` is the last day of a month that is not December, and `next` is the first day of the next month.
abbrev pub IsNextMonth : DateRecord → DateRecord → Type 0
IsNextMonth date next =
    (date.day ≡ month_length date.year date.month) × (date.month < 12)
    × (next.year ≡ date.year) × (next.month ≡ date.month + 1) × (next.day ≡ 1)

-- `date` is 31 December, and `next` is 1 January of the next year.
abbrev pub IsNextYear : DateRecord → DateRecord → Type 0
IsNextYear date next =
    (date.day ≡ 31) × (date.month ≡ 12)
    × (next.year ≡ date.year +ℤ pos 1) × (next.month ≡ 1) × (next.day ≡ 1)

-- `next` is the day after `date`.
abbrev pub IsNextDay : DateRecord → DateRecord → Type 0
IsNextDay date next = IsNextInMonth date next ⊎ (IsNextMonth date next ⊎ IsNextYear date next)

-- The next day at the same time and the same offset is 86,400 seconds later.
abbrev pub NextDayIsADayLater : Type 0
NextDayIsADayLater = (date next : DateRecord) (time : TimeRecord) (offset : UtcOffsetRecordOrZ) → HasDay date → IsNextDay date next
    → instant_count next time offset ≡ instant_count date time offset +ℤ pos (86_400 * 10 ^ 9)

-- The day number of 1970-01-01 is 0.
abbrev pub CountsBeginIn1970 : Type 0
CountsBeginIn1970 = day_number_of (pos 1970) 1 1 ≡ pos 0

-- ---- order

-- Times are compared by the hour, the minute, the second and the fraction, in this order. Second 60 counts as second 59.
abbrev pub IsEarlierTime : TimeRecord → TimeRecord → Type 0
IsEarlierTime time later =
    (time.hour < later.hour) ⊎ ((time.hour ≡ later.hour)
    × ((time.minute < later.minute) ⊎ ((time.minute ≡ later.minute)
    × ((min time.second 59 < min later.second 59) ⊎ ((min time.second 59 ≡ min later.second 59)
    × (fraction_nanoseconds time.fraction < fraction_nanoseconds later.fraction))))))

-- Dates are compared by the year, the month and the day, in this order.
abbrev pub IsEarlierDate : DateRecord → DateRecord → Type 0
IsEarlierDate date later =
    (date.year <ℤ later.year) ⊎ ((date.year ≡ later.year)
    × ((date.month < later.month) ⊎ ((date.month ≡ later.month) × (date.day < later.day))))

abbrev pub SameDate : DateRecord → DateRecord → Type 0
SameDate date other = (date.year ≡ other.year) × (date.month ≡ other.month) × (date.day ≡ other.day)

-- At one offset, a date and a time are earlier than another date and time exactly if their instant is smaller. The calendar must
-- have both dates, and a clock must be able to show both times.
abbrev pub InstantsAreInOrder : Type 0
InstantsAreInOrder = (date later_date : DateRecord) (time later_time : TimeRecord) (offset : UtcOffsetRecordOrZ)
    → HasDay date → HasDay later_date → IsShown time → IsShown later_time
    → (IsEarlierDate date later_date ⊎ (SameDate date later_date × IsEarlierTime time later_time))
    ↔ (instant_count date time offset <ℤ instant_count later_date later_time offset)

-- Instants with fewer than 1,000,000,000 nanoseconds are ordered by their counts.
abbrev pub CountsAreInOrder : Type 0
CountsAreInOrder = (instant later : Instant) → instant.nanoseconds < 10 ^ 9 → later.nanoseconds < 10 ^ 9
    → IsBefore instant later ↔ (count_of instant <ℤ count_of later)

-- ---- offsets and leap seconds

-- Two clocks show the same instant exactly if their local times differ by the difference of their offsets.
abbrev pub OffsetsMakeUp : Type 0
OffsetsMakeUp = (date other_date : DateRecord) (time other_time : TimeRecord) (offset other_offset : UtcOffsetRecordOrZ)
    → (clock_count other_date other_time -ℤ clock_count date time ≡ offset_count other_offset -ℤ offset_count offset)
    ↔ (instant_count date time offset ≡ instant_count other_date other_time other_offset)

-- A time with second 60 has the same instant as the time with second 59.
abbrev pub Second60Is59 : Type 0
Second60Is59 = (date : DateRecord) (time : TimeRecord) (offset : UtcOffsetRecordOrZ) → time.second ≡ 60
    → instant_count date time offset ≡ instant_count date (record time { second = 59 }) offset

-- ---- texts

-- The instant is not before -999999-01-01T00:00:00Z, and it is before +1000000-01-01T00:00:00Z.
abbrev pub HasSixDigitYear : Instant → Type 0
HasSixDigitYear instant =
    (neg_ℤ (pos (31_619_087_596_800 * 10 ^ 9)) ≤ℤ count_of instant) × (count_of instant <ℤ pos (31_494_784_780_800 * 10 ^ 9))

-- This record has the date, the time and `Z`.
abbrev pub in_utc : DateRecord → TimeRecord → Parsed
in_utc date time = record { date = Some date; time = Some time; offset = Some Z; zone = None; calendar = None }

-- `parse` accepts the text of an instant whose year has at most six digits, and the record has this instant.
abbrev pub TextIsReadBack : Type 0
TextIsReadBack = (instant : Instant) → HasSixDigitYear instant → (date : DateRecord) × (time : TimeRecord)
    × UnhandledRecord parse (map Plain (instant_text instant)) (in_utc date time) × (instant_count date time Z ≡ count_of instant)
