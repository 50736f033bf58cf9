-- The reading functions of cores. They also return whether a bracket follows the core.
use Rattle.std.specs.Prelude.{ℕ, Bool, Option, Some, None, is_some, Ok, Err, if◌then◌else◌}
use Rattle.ixdtf_grammar.specs.declared.{profile.Profile.Profile, records.{DateRecord.DateRecord, TimeRecord.TimeRecord, UtcOffsetRecord.UtcOffsetRecord}}
use Rattle.ixdtf_grammar.specs.declared.records.UtcOffsetRecordOrZ.TheVariants.{Offset, Z}
use Rattle.ixdtf_grammar.specs.language.Letters.{Text, digit, sign, zulu, opening, date_time_separator, time_letter}
use Rattle.ixdtf_grammar.specs.language.{Times.{Clock as clocks, writes_seconds}, Offsets.offset_of, Cores.{Core, core_of}, Readers.CoreKind}
use Rattle.ixdtf_grammar.specs.language.Readers.CoreKind.{date_time, internet_date_time, year_month, month_day, time_of_day}
use Rattle.ixdtf_grammar.specs.table.Faults.Fault.{NonAsciiCodePoint, InvalidEnd, TimeHour, AmbiguousTimeMonthDay, AmbiguousTimeYearMonth}
use Rattle.ixdtf_grammar.specs.table.LineNames.{LineName, of_date, of_year_month, of_month_day, of_time, YearMonthLine.after_year_month}
use Rattle.ixdtf_grammar.specs.table.LineNames.{MonthDayLine.after_month_day, TimeLine.{time_start, time_reads_as_month_day, time_reads_as_year_month}}
use Rattle.ixdtf_grammar.specs.table.{LineNames.{LineName.of_offset, DateLine.after_date, OffsetLine.after_zulu}, Lines.abrupt_digit, Rows.Row}
use Rattle.ixdtf_grammar.specs.table.Rows.Place.{end, other, bad, anywhere}
use Rattle.ixdtf_reading.specs.reading.{Looks.{Read, Look, ◌>>=◌, row_of, error_of, next_by, peek_by, on_next}, Dates.date_at, DateTimes.date_time_by}
use Rattle.ixdtf_reading.specs.reading.Months.{year_month_at, month_day_at, month_day_begins, year_month_begins, left_by}
use Rattle.ixdtf_reading.specs.reading.Times.{OpenTime, line_after, bad_after, after_second_at, hour_from, clock_at}

-- The look for the first digit of a time without a date that does not begin with `T` or `t`.
abbrev pub hour_look : {E : Type 0} → (Row → E) → Look E
hour_look fault = record {
  goes_on = digit;
  at_end = λ text. Some (fault (row_of (of_time time_start) (end text) abrupt_digit));
  at_other = λ c text. fault (row_of (of_time time_start) (other text) TimeHour);
  at_bad = λ text. fault (row_of (of_time time_start) (bad text) NonAsciiCodePoint);
}

-- A core, and whether a bracket follows it. The `[` has been consumed. If no bracket follows, the text ends after the core.
abbrev pub ClosedCore : Type 0
ClosedCore = Core × Bool

-- The look at the code unit after a core. `name` is the table line after the core.
abbrev pub core_look : {E : Type 0} → (Row → E) → LineName → Look E
core_look fault name = record {
  goes_on = opening;
  at_end = λ text. None;
  at_other = λ c text. fault (row_of name (other text) InvalidEnd);
  at_bad = λ text. fault (row_of name (bad text) NonAsciiCodePoint);
}

-- Expects the end of a core: the end of the text, or `[`. `name` is the table line after the core.
unfoldable pub core_end_at : {E : Type 0} → (Row → E) → LineName → Core → Text → Read E ClosedCore
core_end_at fault name core text = do
  next ← peek_by (core_look fault name) text
  Ok ((core, is_some next.0), next.1)

abbrev pub with_offset : Option DateRecord → TimeRecord → UtcOffsetRecord → Core
with_offset date time offset = core_of date (Some time) (Some (Offset offset))

-- Reads an offset after a time and the sign `c`. Returns the core of the optional date, the time and the offset.
unfoldable pub offset_core_at : {E : Type 0} → (Row → E) → Option DateRecord → TimeRecord → ℕ → Text → Read E ClosedCore
offset_core_at fault date time c text = do
  offset ← clock_at fault clocks.Offset text
  core_end_at fault (line_after clocks.Offset offset.0.0) (with_offset date time (offset_of c (writes_seconds offset.0.0) offset.0.1)) offset.1

-- Reads an optional offset after a time. Returns the core with the optional date before the time.
unfoldable pub after_time_at : {E : Type 0} → (Row → E) → Option DateRecord → OpenTime → Text → Read E ClosedCore
after_time_at fault date time text = on_next (bad_after fault clocks.Time time.0) sign
    (λ c rest. offset_core_at fault date time.1 c rest)
    (on_next (bad_after fault clocks.Time time.0) zulu
    (λ c rest. core_end_at fault (of_offset after_zulu) (core_of date (Some time.1) (Some Z)) rest)
    (λ rest. core_end_at fault (line_after clocks.Time time.0) (core_of date (Some time.1) None) rest)) text

-- Reads a time and an optional offset, after a date and a separator.
unfoldable pub time_core_at : {E : Type 0} → (Row → E) → DateRecord → Text → Read E ClosedCore
time_core_at fault date text = do
  time ← clock_at fault clocks.Time text
  after_time_at fault (Some date) time.0 time.1

-- Reads an optional fraction and an optional offset, after a date, a separator and a time with its second.
unfoldable pub whole_time_core_at : {E : Type 0} → (Row → E) → DateRecord → ℕ → ℕ → ℕ → Text → Read E ClosedCore
whole_time_core_at fault date hour minute second text = do
  time ← after_second_at fault clocks.Time hour minute second text
  after_time_at fault (Some date) time.0 time.1

-- Reads what follows a date.
unfoldable pub after_date_at : {E : Type 0} → (Row → E) → DateRecord → Text → Read E ClosedCore
after_date_at fault date text = on_next (λ bad_text. fault (row_of (of_date after_date) (bad bad_text) NonAsciiCodePoint)) date_time_separator
    (λ c rest. time_core_at fault date rest)
    (λ rest. core_end_at fault (of_date after_date) (core_of (Some date) None None) rest) text

-- Reads a date, an optional time and an optional offset.
unfoldable pub date_time_core_at : {E : Type 0} → (Row → E) → Text → Read E ClosedCore
date_time_core_at fault text = do
  date ← date_at fault text
  after_date_at fault date.0 date.1

-- Reads a date-time of RFC 3339.
abbrev pub internet_date_time_core_at : {E : Type 0} → (Row → E) → Text → Read E ClosedCore
internet_date_time_core_at fault text = date_time_by fault (core_end_at fault) text

-- The result of reading a date, and the end of a core that has only this date. `name` is the table line after the core.
abbrev pub date_alone_at : {E : Type 0} → (Row → E) → LineName → Read E DateRecord → Read E ClosedCore
date_alone_at fault name date = date >>= λ date. core_end_at fault name (core_of (Some date.0) None None) date.1

-- ---- a time without a date

-- Reads a time that does not begin with `T` or `t`.
unfoldable pub lone_time_at : {E : Type 0} → (Row → E) → Text → Read E OpenTime
lone_time_at fault text = do
  tens ← next_by (hour_look fault) text
  hour_from fault clocks.Time tens.0 tens.1

-- Reads an optional `T` or `t`, and a time.
unfoldable pub marked_time_at : {E : Type 0} → (Row → E) → Text → Read E OpenTime
marked_time_at fault text = on_next (λ bad_text. fault (row_of (of_time time_start) (bad bad_text) NonAsciiCodePoint)) time_letter
    (λ c rest. clock_at fault clocks.Time rest)
    (λ rest. lone_time_at fault rest) text

-- Reads an optional `T` or `t`, a time, an optional offset, and the end of the text or `[`.
unfoldable pub marked_core_at : {E : Type 0} → (Row → E) → Text → Read E ClosedCore
marked_core_at fault text = do
  time ← marked_time_at fault text
  after_time_at fault None time.0 time.1

-- If the text begins with a month-day or a year-month, this is a fault. Otherwise the result is `read`.
abbrev pub unfronted : {E A : Type 0} → (Row → E) → Profile → Text → Read E A → Read E A
unfronted fault profile text read =
    if month_day_begins profile text
    then Err (fault (row_of (of_time (time_reads_as_month_day profile)) (anywhere (left_by (month_day_at error_of profile text))) AmbiguousTimeMonthDay))
    else (if year_month_begins text
    then Err (fault (row_of (of_time time_reads_as_year_month) (anywhere (left_by (year_month_at error_of text))) AmbiguousTimeYearMonth))
    else read)

-- Reads the core of a time without a date. Then tests that the text does not begin with a month-day or a year-month.
unfoldable pub time_alone_core_at : {E : Type 0} → (Row → E) → Profile → Text → Read E ClosedCore
time_alone_core_at fault profile text = do
  core ← marked_core_at fault text
  unfronted fault profile text (Ok core)

-- Reads a core of this kind.
abbrev pub core_at : {E : Type 0} → (Row → E) → CoreKind → Text → Read E ClosedCore
core_at fault date_time text = date_time_core_at fault text
core_at fault internet_date_time text = internet_date_time_core_at fault text
core_at fault year_month text = date_alone_at fault (of_year_month after_year_month) (year_month_at fault text)
core_at fault (month_day profile) text = date_alone_at fault (of_month_day (after_month_day profile)) (month_day_at fault profile text)
core_at fault (time_of_day profile) text = time_alone_core_at fault profile text

-- To unfold this unfolds the reading functions of a date, and of what follows it up to the time.
unfoldable pub date_time_readings : ℕ
unfolding date_time_core_at whole_time_core_at after_date_at time_core_at
date_time_readings = 0
