-- The reading functions of date-times of RFC 3339, number by number. What is read after the date-time depends on the reader. So
-- `finish` reads it. Its arguments are the table line at which the date-time ends, and the core.
use Rattle.std.specs.Prelude.{ℕ, Bool, false, [], ◌∷◌, Option, Some, None, Ok, Err, ℤ, pos, nat_le, ◌&&◌, if◌then◌else◌}
use Rattle.ixdtf_grammar.specs.declared.records.{DateRecord.DateRecord, TimeRecord.TimeRecord, UtcOffsetRecord.TheVariants.{MinutePrecision}}
use Rattle.ixdtf_grammar.specs.declared.records.{MinutePrecisionOffset.MinutePrecisionOffset, UtcOffsetRecordOrZ.{UtcOffsetRecordOrZ, TheVariants.{Offset, Z}}}
use Rattle.ixdtf_grammar.specs.language.{Letters.{Text, zulu, Letter.Plain}, Digits.decimal, Dates.month_length, Fractions.{FractionParts, fraction_of}, Offsets.sign_of}
use Rattle.ixdtf_grammar.specs.language.{Cores.{Core, core_of}, Languages.{Parsed, parsed_with}}
use Rattle.ixdtf_grammar.specs.table.{Faults.Fault.NonAsciiCodePoint, LineNames.{LineName, LineName.of_date_time}, Lines.{range_fault, line_of}}
use Rattle.ixdtf_grammar.specs.table.DateTimeFronts.{Field, point, Field.{month_field, day_field, hour_field, minute_field, second_field}}
use Rattle.ixdtf_grammar.specs.table.DateTimeFronts.Field.{offset_hour_field, offset_minute_field}
use Rattle.ixdtf_grammar.specs.table.LineNames.DateTimeLine.{four_digits, after_four_digits, field_digits, field_range, after_field, after_point}
use Rattle.ixdtf_grammar.specs.table.{LineNames.DateTimeLine.{after_secfrac, after_utc}, Rows.{Row, Place.{anywhere, bad}}}
use Rattle.ixdtf_reading.specs.reading.Looks.{Read, ◌>>=◌, row_of, look_of, letter_at, digits_at, digit_run, peek_by, look_readings}
use Rattle.ixdtf_reading.specs.reading.{Dates.date_of, Times.time_of}

-- Reads two digits, whose number must be in its range: `test` must be true.
unfoldable pub field_at : {E : Type 0} → (Row → E) → Field → (ℕ → Bool) → Text → Read E ℕ
field_at fault field test text = do
  ds ← digits_at fault (of_date_time (field_digits field)) 2 text
  if test (decimal ds.0) then Ok (decimal ds.0, ds.1)
      else Err (fault (row_of (of_date_time (field_range field)) (anywhere ds.1) (range_fault field)))

-- As above. Also consumes the code unit after the number, which the table line of the number must accept.
unfoldable pub marked_field_at : {E : Type 0} → (Row → E) → Field → (ℕ → Bool) → Text → Read E ℕ
marked_field_at fault field test text = do
  number ← field_at fault field test text
  mark ← letter_at fault (of_date_time (after_field field)) number.1
  Ok (number.0, mark.1)

abbrev pub is_month : ℕ → Bool
is_month n = nat_le 1 n && nat_le n 12

abbrev pub is_day : ℤ → ℕ → ℕ → Bool
is_day year month n = nat_le 1 n && nat_le n (month_length year month)

abbrev pub at_most : ℕ → ℕ → Bool
at_most greatest n = nat_le n greatest

-- An offset of hours and minutes, with the sign `c`.
abbrev pub num_offset : ℕ → ℕ → ℕ → MinutePrecisionOffset
num_offset c hour minute = record { sign = sign_of c; hour = hour; minute = minute }

-- The core of a date, a time and a numeric offset.
abbrev pub numeric_core : DateRecord → TimeRecord → MinutePrecisionOffset → Core
numeric_core date time offset = core_of (Some date) (Some time) (Some (Offset (MinutePrecision offset)))

-- The core of a date, a time and `Z`.
abbrev pub utc_core : DateRecord → TimeRecord → Core
utc_core date time = core_of (Some date) (Some time) (Some Z)

-- The type of a reading function for what follows a date-time.
abbrev pub Finish : Type 0 → Type 0 → Type 0
Finish E A = LineName → Core → Text → Read E A

-- Reads nothing after the date-time.
abbrev pub open_end : {E : Type 0} → Finish E Core
open_end name core text = Ok (core, text)

-- Reads the rest after a time, the sign and the hour of an offset, and a colon.
unfoldable pub offset_minute_at : {E A : Type 0} → (Row → E) → Finish E A → DateRecord → TimeRecord → ℕ → ℕ → Text → Read E A
offset_minute_at fault finish date time c hour text = do
  minute ← field_at fault offset_minute_field (at_most 59) text
  finish (of_date_time (after_field offset_minute_field)) (numeric_core date time (num_offset c hour minute.0)) minute.1

-- Reads the rest after a time and the sign of an offset.
unfoldable pub num_offset_at : {E A : Type 0} → (Row → E) → Finish E A → DateRecord → TimeRecord → ℕ → Text → Read E A
num_offset_at fault finish date time c text = do
  hour ← marked_field_at fault offset_hour_field (at_most 23) text
  offset_minute_at fault finish date time c hour.0 hour.1

-- Reads the rest after a time and the first code unit of an offset.
unfoldable pub time_offset_at : {E A : Type 0} → (Row → E) → Finish E A → DateRecord → TimeRecord → ℕ → Text → Read E A
time_offset_at fault finish date time c text =
    if zulu c then finish (of_date_time after_utc) (utc_core date time) text else num_offset_at fault finish date time c text

-- The fault at `Bad` after a fraction.
abbrev pub bad_after_secfrac : {E : Type 0} → (Row → E) → Text → E
bad_after_secfrac fault text = fault (row_of (of_date_time after_secfrac) (bad text) NonAsciiCodePoint)

-- Reads the digits of a fraction, after a second and `.`.
unfoldable pub secfrac_digits_at : {E : Type 0} → (Row → E) → Text → Read E FractionParts
secfrac_digits_at fault text = do
  first ← letter_at fault (of_date_time after_point) text
  more ← digit_run (bad_after_secfrac fault) first.1
  Ok (fraction_of (Plain first.0 ∷ more.0), more.1)

-- Reads the rest after a second and `.`.
unfoldable pub secfrac_at : {E A : Type 0} → (Row → E) → Finish E A → DateRecord → ℕ → ℕ → ℕ → Text → Read E A
secfrac_at fault finish date hour minute second text = do
  fraction ← secfrac_digits_at fault text
  lead ← letter_at fault (of_date_time after_secfrac) fraction.1
  time_offset_at fault finish date (time_of hour minute second (Some fraction.0)) lead.0 lead.1

-- Reads the rest after a second.
unfoldable pub after_whole_second_at : {E A : Type 0} → (Row → E) → Finish E A → DateRecord → ℕ → ℕ → ℕ → Text → Read E A
after_whole_second_at fault finish date hour minute second text = do
  lead ← letter_at fault (of_date_time (after_field second_field)) text
  if point lead.0 then secfrac_at fault finish date hour minute second lead.1
      else time_offset_at fault finish date (time_of hour minute second None) lead.0 lead.1

-- Reads the rest after a minute and its colon.
unfoldable pub whole_second_at : {E A : Type 0} → (Row → E) → Finish E A → DateRecord → ℕ → ℕ → Text → Read E A
whole_second_at fault finish date hour minute text = do
  second ← field_at fault second_field (at_most 60) text
  after_whole_second_at fault finish date hour minute second.0 second.1

-- Reads the rest after an hour and its colon.
unfoldable pub whole_minute_at : {E A : Type 0} → (Row → E) → Finish E A → DateRecord → ℕ → Text → Read E A
whole_minute_at fault finish date hour text = do
  minute ← marked_field_at fault minute_field (at_most 59) text
  whole_second_at fault finish date hour minute.0 minute.1

-- Reads the rest after a date and `T`.
unfoldable pub full_time_at : {E A : Type 0} → (Row → E) → Finish E A → DateRecord → Text → Read E A
full_time_at fault finish date text = do
  hour ← marked_field_at fault hour_field (at_most 23) text
  whole_minute_at fault finish date hour.0 hour.1

-- Reads the rest after a month and its hyphen.
unfoldable pub full_day_at : {E A : Type 0} → (Row → E) → Finish E A → ℤ → ℕ → Text → Read E A
full_day_at fault finish year month text = do
  day ← marked_field_at fault day_field (is_day year month) text
  full_time_at fault finish (date_of year month day.0) day.1

-- Reads the rest after a year and its hyphen.
unfoldable pub full_month_at : {E A : Type 0} → (Row → E) → Finish E A → ℤ → Text → Read E A
full_month_at fault finish year text = do
  month ← marked_field_at fault month_field is_month text
  full_day_at fault finish year month.0 month.1

unfoldable pub date_time_by : {E A : Type 0} → (Row → E) → Finish E A → Text → Read E A
date_time_by fault finish text = do
  years ← digits_at fault (of_date_time four_digits) 4 text
  mark ← letter_at fault (of_date_time after_four_digits) years.1
  full_month_at fault finish (pos (decimal years.0)) mark.1

-- ---- complete texts

-- The table line after a date-time with this offset.
abbrev pub line_after_offset : Option UtcOffsetRecordOrZ → LineName
line_after_offset None = of_date_time (after_field offset_minute_field)
line_after_offset (Some (Offset offset)) = of_date_time (after_field offset_minute_field)
line_after_offset (Some Z) = of_date_time after_utc

-- Expects the end of the text. The record has no zone and no calendar.
unfoldable pub date_time_ends : {E : Type 0} → (Row → E) → Finish E Parsed
date_time_ends fault name core text = do
  next ← peek_by (look_of fault name (line_of false name)) text
  Ok (parsed_with core None, next.1)

abbrev pub rfc_3339_at : {E : Type 0} → (Row → E) → Text → Read E Parsed
rfc_3339_at fault text = date_time_by fault (date_time_ends fault) text

-- To unfold this unfolds the reading functions of date-times.
unfoldable pub date_time_line_readings : ℕ
unfolding look_readings field_at marked_field_at offset_minute_at num_offset_at time_offset_at secfrac_digits_at secfrac_at after_whole_second_at whole_second_at whole_minute_at full_time_at
    full_day_at full_month_at date_time_by date_time_ends
date_time_line_readings = 0
