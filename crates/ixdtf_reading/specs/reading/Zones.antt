-- The reading functions of the names of zones, and of offsets.
use Rattle.std.specs.Prelude.{ℕ, Bool, true, false, List, [], ◌∷◌, Option, Some, None, Ok, Err, ◌&&◌, if◌then◌else◌}
use Rattle.ixdtf_grammar.specs.language.{Times.{Clock as clocks, Clock, TimeShape, writes_seconds}, Letters.{Text, Class, none, sign, slash, zone_char}}
use Rattle.ixdtf_grammar.specs.language.{Letters.Letter.{Plain, Bad}, Offsets.{offset_of, minutes_of}, ZoneNames.{Zone, Zone.{Name, Offset}}}
use Rattle.ixdtf_grammar.specs.declared.records.{UtcOffsetRecord.UtcOffsetRecord, TimeRecord.TimeRecord}
use Rattle.ixdtf_grammar.specs.table.{Faults.Fault.{NonAsciiCodePoint, IanaCharPostSeparator}, LineNames.{LineName, LineName.{of_offset, of_zone}}}
use Rattle.ixdtf_grammar.specs.table.LineNames.{OffsetLine.offset_start, ZoneLine.{identifier_start, zone_name_start, in_zone_name, after_zone_slash}}
use Rattle.ixdtf_grammar.specs.table.{Lines.{follow_of, zone_end, zone_other}, Rows.{Row, Place.{end, other, bad}}}
use Rattle.ixdtf_reading.specs.reading.Looks.{Read, Look, ◌>>=◌, row_of, end_of, letter_at, peek_by, look_readings}
use Rattle.ixdtf_reading.specs.reading.Times.{OpenTime, line_after, bad_after, clock_at}

-- The look at the code unit after a time or an offset. `brackets` says whether brackets can follow.
abbrev pub follow_look : {E : Type 0} → (Row → E) → Bool → Clock → OpenTime → Look E
follow_look fault brackets clock time = record {
  goes_on = (follow_of brackets clock).letters;
  at_end = end_of fault (line_after clock time.0) (follow_of brackets clock).at_end;
  at_other = λ c text. fault (row_of (line_after clock time.0) (other text) (follow_of brackets clock).at_other);
  at_bad = bad_after fault clock time.0;
}

-- ---- names

-- The table line of the next code unit of a name. The argument says whether the name can end here. It cannot end after a slash.
abbrev pub name_line : Bool → LineName
name_line true = of_zone in_zone_name
name_line false = of_zone after_zone_slash

-- Whether the name can end after the code unit `c`. It is `None` if the code unit cannot continue the name.
abbrev pub name_step : ℕ → Bool → Option Bool
name_step c may_end = if zone_char c then Some true else (if slash c && may_end then Some false else None)

-- Puts a code unit before the others.
abbrev pub with_letter : {E : Type 0} → ℕ → Read E (List ℕ) → Read E (List ℕ)
with_letter c (Ok x) = Ok (c ∷ x.0, x.1)
with_letter c (Err e) = Err e

-- The name ends here. If it cannot end here, the fault is `after_slash`.
abbrev pub name_stops : {E : Type 0} → E → Bool → Text → Read E (List ℕ)
name_stops after_slash true text = Ok ([], text)
name_stops after_slash false text = Err after_slash

-- Reads the code units of a name. `may_end` says whether the name can end here. It cannot end after a slash.
unfoldable pub name_run : {E : Type 0} → (Row → E) → Bool → Text → Read E (List ℕ)
name_run fault may_end [] = name_stops (fault (row_of (of_zone after_zone_slash) (end []) IanaCharPostSeparator)) may_end []
name_run fault may_end (Bad ∷ rest) = Err (fault (row_of (name_line may_end) (bad (Bad ∷ rest)) NonAsciiCodePoint))
name_run fault may_end (Plain c ∷ rest) =
    if zone_char c then with_letter c (name_run fault true rest)
    else (if slash c && may_end then with_letter c (name_run fault false rest)
    else name_stops (fault (row_of (of_zone after_zone_slash) (other (Plain c ∷ rest)) IanaCharPostSeparator)) may_end (Plain c ∷ rest))

-- The look at the code unit after a name, in a bracket or at the end of the text. It accepts the code units of the class.
abbrev pub name_look : {E : Type 0} → (Row → E) → Bool → Class → Look E
name_look fault in_bracket class = record {
  goes_on = class;
  at_end = end_of fault (of_zone in_zone_name) (zone_end in_bracket);
  at_other = λ c text. fault (row_of (of_zone in_zone_name) (other text) (zone_other in_bracket c));
  at_bad = λ text. fault (row_of (of_zone in_zone_name) (bad text) NonAsciiCodePoint);
}

-- ---- texts that are an offset or a zone

-- Reads a name and the end of the text.
unfoldable pub name_alone_at : {E : Type 0} → (Row → E) → Text → Read E (List ℕ)
name_alone_at fault text = do
  name ← name_run fault true text
  next ← peek_by (name_look fault false none) name.1
  Ok (name.0, next.1)

-- Reads a name and the end of the text. Also tests the first code unit of the name.
unfoldable pub iana_identifier_at : {E : Type 0} → (Row → E) → Text → Read E (List ℕ)
iana_identifier_at fault text = do
  lead ← letter_at fault (of_zone zone_name_start) text
  name_alone_at fault text

-- Reads a time of this clock after the sign `c`, and the end of the text. `record_of` makes the record.
unfoldable pub signed_alone_at : {E O : Type 0} → (Row → E) → Clock → (ℕ → TimeShape → TimeRecord → O) → ℕ → Text → Read E O
signed_alone_at fault clock record_of c text = do
  time ← clock_at fault clock text
  next ← peek_by (follow_look fault false clock time.0) time.1
  Ok (record_of c time.0.0 time.0.1, next.1)

-- Reads an offset after its sign, and the end of the text.
abbrev pub offset_alone_at : {E : Type 0} → (Row → E) → ℕ → Text → Read E UtcOffsetRecord
offset_alone_at fault = signed_alone_at fault clocks.Offset (λ c shape time. offset_of c (writes_seconds shape) time)

unfoldable pub offset_at : {E : Type 0} → (Row → E) → Text → Read E UtcOffsetRecord
offset_at fault text = do
  lead ← letter_at fault (of_offset offset_start) text
  offset_alone_at fault lead.0 lead.1

-- Reads an offset without seconds after its sign, and the end of the text.
abbrev pub minute_offset_alone_at : {E : Type 0} → (Row → E) → ℕ → Text → Read E Zone
minute_offset_alone_at fault = signed_alone_at fault clocks.MinuteOffset (λ c shape time. Offset (minutes_of c time))

-- The zone of a name that was read.
abbrev pub as_zone : {E : Type 0} → Read E (List ℕ) → Read E Zone
as_zone (Ok x) = Ok (Name x.0, x.1)
as_zone (Err e) = Err e

unfoldable pub identifier_at : {E : Type 0} → (Row → E) → Text → Read E Zone
identifier_at fault text = do
  lead ← letter_at fault (of_zone identifier_start) text
  if sign lead.0 then minute_offset_alone_at fault lead.0 lead.1 else as_zone (name_alone_at fault text)

-- To unfold this unfolds the reading functions of offsets and zones, without the loop over a name.
unfoldable pub zone_readings : ℕ
unfolding look_readings name_alone_at iana_identifier_at signed_alone_at offset_at identifier_at
zone_readings = 0
