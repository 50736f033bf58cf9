-- The canonical text of a record: of the texts for which `parse` returns it, the one that is printed.
use Rattle.ixdtf_grammar.specs.declared.records.UtcOffsetRecord.TheVariants as offsets
use Rattle.ixdtf_grammar.specs.declared.records.UtcOffsetRecordOrZ.TheVariants as stands
use Rattle.std.specs.Prelude.{ℕ, suc, ◌-◌, Bool, true, false, List, [], ◌∷◌, ◌++◌, map, replicate, codes, Option, Some, None, ℤ, pos, negsuc, nat_le}
use Rattle.std.specs.Prelude.{if◌then◌else◌}
use Rattle.ixdtf_grammar.specs.declared.records.{DateRecord.DateRecord, FullPrecisionOffset.FullPrecisionOffset, MinutePrecisionOffset.MinutePrecisionOffset}
use Rattle.ixdtf_grammar.specs.declared.records.{Sign.{Sign, TheVariants.{Positive, Negative}}, TimeRecord.TimeRecord, UtcOffsetRecordOrZ.UtcOffsetRecordOrZ}
use Rattle.ixdtf.specs.language.{Letters.{Text, Letter.Plain}, Digits.padded_digits, Fractions.{FractionParts, places_of}, ZoneNames.Zone}
use Rattle.ixdtf.specs.language.{ZoneNames.Zone.{Name, Offset}, Brackets.ZoneNote, Languages.Parsed}

-- The text is the number with two digits.
unfoldable pub two_digits : ℕ → Text
two_digits number = padded_digits 2 number

-- A year from 0 to 9999 has four digits. Any other year has a sign and six digits.
unfoldable pub year_text : ℤ → Text
year_text (pos n) = if nat_le n 9999 then padded_digits 4 n else (Plain 43 ∷ padded_digits 6 n)
year_text (negsuc n) = Plain 45 ∷ padded_digits 6 (suc n)

-- The text is `Year-Month-Day`.
unfoldable pub date_text : DateRecord → Text
date_text date = year_text date.year ++ (Plain 45 ∷ (two_digits date.month ++ (Plain 45 ∷ two_digits date.day)))

-- The text is `Hour:Min`.
unfoldable pub minutes_text : ℕ → ℕ → Text
minutes_text hour minute = two_digits hour ++ (Plain 58 ∷ two_digits minute)

-- The text is `Hour:Min:Sec`.
unfoldable pub seconds_text : ℕ → ℕ → ℕ → Text
seconds_text hour minute second = two_digits hour ++ (Plain 58 ∷ (two_digits minute ++ (Plain 58 ∷ two_digits second)))

-- The text has `count` digits: those of the value, with leading zeros, and zeros after the first 18 digits.
unfoldable pub fraction_digits : FractionParts → Text
fraction_digits fraction = padded_digits (places_of fraction) fraction.value ++ replicate (fraction.count - 18) (Plain 48)

-- The text is `.` and the digits, if there is a fraction.
abbrev pub fraction_text : Option FractionParts → Text
fraction_text None = []
fraction_text (Some fraction) = Plain 46 ∷ fraction_digits fraction

-- The text is `Hour:Min:Sec` and the fraction.
unfoldable pub clock_text : ℕ → ℕ → ℕ → Option FractionParts → Text
clock_text hour minute second fraction = seconds_text hour minute second ++ fraction_text fraction

-- The text is `T` and the clock, if there is a time.
abbrev pub time_text : Option TimeRecord → Text
time_text None = []
time_text (Some time) = Plain 84 ∷ clock_text time.hour time.minute time.second time.fraction

-- The code unit is `+` or `-`.
abbrev pub mark_of : Sign → ℕ
mark_of Positive = 43
mark_of Negative = 45

-- The text is a sign and `Hour:Min`.
abbrev pub minute_offset_text : MinutePrecisionOffset → Text
minute_offset_text offset = Plain (mark_of offset.sign) ∷ minutes_text offset.hour offset.minute

-- The text is a sign and a clock.
abbrev pub full_offset_text : FullPrecisionOffset → Text
full_offset_text offset =
    let minutes = offset.minute_precision_offset in
    Plain (mark_of minutes.sign) ∷ clock_text minutes.hour minutes.minute offset.second offset.fraction

-- The text is the offset, with its seconds if it has them, or `Z`.
abbrev pub offset_text : Option UtcOffsetRecordOrZ → Text
offset_text None = []
offset_text (Some stands.Z) = Plain 90 ∷ []
offset_text (Some (stands.Offset (offsets.MinutePrecision offset))) = minute_offset_text offset
offset_text (Some (stands.Offset (offsets.FullPrecisionOffset offset))) = full_offset_text offset

-- The text is the name, or a sign and `Hour:Min`.
abbrev pub zone_text : Zone → Text
zone_text (Name name) = map Plain name
zone_text (Offset offset) = minute_offset_text offset

-- The text is `[`, and `!` if the bracket is critical.
abbrev pub opening_text : Bool → Text
opening_text true = map Plain (codes "[!")
opening_text false = map Plain (codes "[")

-- The text is the zone in its bracket, if there is one.
abbrev pub bracket_text : Option ZoneNote → Text
bracket_text None = []
bracket_text (Some note) = opening_text note.critical ++ (zone_text note.zone ++ (Plain 93 ∷ []))

-- The text is `[u-ca=Value]`, if there is a calendar.
abbrev pub calendar_text : Option (List ℕ) → Text
calendar_text None = []
calendar_text (Some value) = map Plain (codes "[u-ca=") ++ (map Plain value ++ (Plain 93 ∷ []))

-- The text is the bracket of the zone, and then that of the calendar.
abbrev pub brackets_text : Parsed → Text
brackets_text found = bracket_text found.zone ++ calendar_text found.calendar

-- The text is the date, if there is one.
abbrev pub optional_date_text : Option DateRecord → Text
optional_date_text None = []
optional_date_text (Some date) = date_text date

-- The text is the date, the time and the offset.
unfoldable pub core_text : Parsed → Text
core_text found = optional_date_text found.date ++ (time_text found.time ++ offset_text found.offset)

-- The text is the date, the time and the offset, and then the brackets.
unfoldable pub canonical_text : Parsed → Text
canonical_text found = core_text found ++ brackets_text found
