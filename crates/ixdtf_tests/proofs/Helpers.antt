-- Defines helpers for the examples.
use Rattle.std.proofs.Common.{◌≡◌, ℕ, Bool, List, [], ◌∷◌, ◌++◌, map, Option, Some, None, ℤ, pos, nat_eq, if◌then◌else◌}
use Rattle.ixdtf_grammar.specs.declared.records.DateRecord.{DateRecord}
use Rattle.ixdtf_grammar.specs.declared.records.TimeRecord.{TimeRecord}
use Rattle.ixdtf_grammar.specs.declared.records.UtcOffsetRecordOrZ.{UtcOffsetRecordOrZ}
use Rattle.ixdtf.specs.language.Letters.{Text}
use Rattle.ixdtf.specs.language.Letters.Letter.{Plain, Bad}
use Rattle.ixdtf.specs.language.Fractions.{FractionParts}
use Rattle.ixdtf.specs.language.ZoneNames.Zone.{Name}
use Rattle.ixdtf.specs.language.Brackets.{Pair, ZoneNote}
use Rattle.ixdtf.specs.language.Cores.{core_of}
use Rattle.ixdtf.specs.language.Readers.{Reader, parse}
use Rattle.ixdtf.specs.language.Languages.{parsed_with}
use Rattle.ixdtf.specs.language.Languages.Found.{parsed}
use Rattle.ixdtf.specs.table.Faults.{Fault}
use Rattle.ixdtf.specs.table.Faults.Fault.{NonAsciiCodePoint}
use Rattle.ixdtf.specs.table.LineNames.{LineName}
use Rattle.ixdtf.specs.table.Lines.{Line, table}
use Rattle.ixdtf.specs.table.Lines.Line.{line, scanned, whole}
use Rattle.ixdtf.specs.table.Lines.Ending.{ok, error}
use Rattle.ixdtf.specs.table.Rows.{Place}
use Rattle.ixdtf.specs.table.Rows.Place.{end, other, bad, anywhere}
use Rattle.ixdtf.specs.table.Outcomes.{Outcome}
use Rattle.ixdtf.specs.table.Outcomes.Outcome.{derived, refused}
use Rattle.ixdtf_reading.specs.reading.Looks.{row_of, look_at, number_by}
use Rattle.ixdtf_reading.specs.reading.Dates.{date_of, date_readings}
use Rattle.ixdtf_reading.specs.reading.Months.{month_readings}
use Rattle.ixdtf_reading.specs.reading.Times.{time_of, time_readings}
use Rattle.ixdtf_reading.specs.reading.Zones.{name_run, zone_readings}
use Rattle.ixdtf_reading.specs.reading.Pairs.{key_run, value_run, pairs_at, pair_readings}
use Rattle.ixdtf_reading.specs.reading.Brackets.{sight_at, name_or_pair_at, bracket_readings}
use Rattle.ixdtf_reading.specs.reading.Cores.{core_end_at, offset_core_at, after_time_at, time_core_at, after_date_at, date_time_core_at}
use Rattle.ixdtf_reading.specs.reading.Cores.{lone_time_at, marked_time_at, marked_core_at, time_alone_core_at}
use Rattle.ixdtf.specs.language.Durations.{greatest_value}
use Rattle.ixdtf_reading.specs.reading.Durations.{step as duration_step, run as duration_run}
use Rattle.ixdtf_reading.specs.reading.ExactZones.{has_parts}
use Rattle.ixdtf_reading.specs.reading.Wholes.{bracketed_at, annotated_at, bracketed_text_at, outcome}

-- A proof that unfolds this constant unfolds every reading function.
unfoldable pub all_readings : ℕ
unfolding date_readings month_readings time_readings zone_readings pair_readings bracket_readings
    core_end_at offset_core_at after_time_at time_core_at after_date_at date_time_core_at
    lone_time_at marked_time_at marked_core_at time_alone_core_at
    greatest_value duration_step duration_run
    look_at number_by name_run key_run value_run pairs_at sight_at name_or_pair_at bracketed_at annotated_at bracketed_text_at has_parts
all_readings = 0

-- ---- texts and their outcomes

-- These are the code units of a text without bad code units.
abbrev pub text_of : List ℕ → Text
text_of units = map Plain units

-- This is a text with a bad code unit at its end.
abbrev pub and_bad : List ℕ → Text
and_bad units = text_of units ++ (Bad ∷ [])

abbrev pub parsing : List ℕ → Outcome
parsing units = outcome parse (text_of units)

-- The outcome is this core, and a zone if there is one.
abbrev pub with : DateRecord → Option TimeRecord → Option UtcOffsetRecordOrZ → Option ZoneNote → Outcome
with day time offset zone = derived (parsed (parsed_with (core_of (Some day) time offset) zone)) []

abbrev pub date : ℤ → ℕ → ℕ → Outcome
date year month day = with (date_of year month day) None None None

abbrev pub new_years_day : DateRecord
new_years_day = date_of (pos 2020) 1 1

-- The outcome is 1 January 2020 at this time.
abbrev pub new_year : ℕ → ℕ → ℕ → Option FractionParts → Outcome
new_year hour minute second fraction = with new_years_day (Some (time_of hour minute second fraction)) None None

-- The outcome is 2 March 2024 at 8:48.
abbrev pub morning : Option UtcOffsetRecordOrZ → Option ZoneNote → Outcome
morning offset zone = with (date_of (pos 2024) 3 2) (Some (time_of 8 48 0 None)) offset zone

abbrev pub zone_named : Bool → List ℕ → Option ZoneNote
zone_named critical name = Some (record { critical = critical; zone = Name name })

-- This is the annotation with this key and this value.
abbrev pub tagged : Bool → List ℕ → List ℕ → Pair
tagged critical key value = record { critical = critical; key = key; value = value }

-- The outcome is 1 January 2020 with these annotations.
abbrev pub annotated : Option ZoneNote → List Pair → Outcome
annotated zone pairs = derived (parsed (parsed_with (core_of (Some new_years_day) None None) zone)) pairs

-- ---- texts with the mark `|` at a position, which does not belong to the text

abbrev pub before_mark : List ℕ → List ℕ
before_mark [] = []
before_mark (unit ∷ units) = if nat_eq unit 124 then [] else unit ∷ before_mark units

abbrev pub after_mark : List ℕ → List ℕ
after_mark [] = []
after_mark (unit ∷ units) = if nat_eq unit 124 then units else after_mark units

abbrev pub unmarked : List ℕ → Text
unmarked units = text_of (before_mark units ++ after_mark units)

-- ---- tables of examples

-- An example is a text and its outcome.
abbrev pub Example : Type 0
Example = Text × Outcome

-- These are the outcomes that the definitions give for the texts.
abbrev pub computed : Reader → List Example → List Outcome
computed reader examples = map (λ example. outcome reader example.0) examples

-- These are the outcomes in the table.
abbrev pub expected : List Example → List Outcome
expected examples = map (λ example. example.1) examples

-- Each text of the table has the outcome in the same row.
abbrev pub Compute : Reader → List Example → Type 0
Compute reader examples = computed reader examples ≡ expected examples

-- The outcome is the error of a row. These annotations are complete before it.
abbrev pub stops_after : List Pair → LineName → Place → Fault → Outcome
stops_after pairs name place fault = refused (row_of name place fault) pairs

abbrev pub stops : LineName → Place → Fault → Outcome
stops name place fault = stops_after [] name place fault

-- This is a text without bad code units, and the value that it derives.
abbrev pub gives : List ℕ → Outcome → Example
gives units outcome = (text_of units, outcome)

-- This text ends after the prefix. Its outcome is the row of the line for the end of the text.
abbrev pub ends : LineName → Fault → List ℕ → Example
ends name fault front = (text_of front, stops name (end []) fault)

-- Another code unit comes after the mark. The outcome is the row of the line for another code unit.
abbrev pub goes_off : LineName → Fault → List ℕ → Example
goes_off name fault units = (unmarked units, stops name (other (text_of (after_mark units))) fault)

-- This example is like `goes_off`, with a bad code unit at the end of the text.
abbrev pub goes_off_before_bad : LineName → Fault → List ℕ → Example
goes_off_before_bad name fault units = (unmarked units ++ (Bad ∷ []), stops name (other (and_bad (after_mark units))) fault)

-- A bad code unit comes after the prefix. The outcome is the row of the line for a bad code unit.
abbrev pub meets_bad : LineName → List ℕ → Example
meets_bad name front = (and_bad front, stops name (bad (Bad ∷ [])) NonAsciiCodePoint)

-- These texts end after the prefix, and the same texts have a bad code unit there.
abbrev pub cut_off : LineName → Fault → List (List ℕ) → List Example
cut_off name at_end fronts = map (ends name at_end) fronts ++ map (meets_bad name) fronts

-- The prefix of a *whole* line comes before the mark. The outcome is the only row of this line.
abbrev pub stands : LineName → Fault → List ℕ → Example
stands name fault units = (unmarked units, stops name (anywhere (text_of (after_mark units))) fault)

-- This example is like `stands`, with a bad code unit at the end of the text.
abbrev pub stands_before_bad : LineName → Fault → List ℕ → Example
stands_before_bad name fault units = (unmarked units ++ (Bad ∷ []), stops name (anywhere (and_bad (after_mark units))) fault)

-- These are the two rows of a line after which the text may end: another code unit, and a bad code unit. `front` is a text with a
-- prefix of the line, and `pairs` are the annotations before it.
abbrev pub two_after : List Pair → LineName → List ℕ → List ℕ → Fault → List Example
two_after pairs name front letter at_other =
    (text_of (front ++ letter), stops_after pairs name (other (text_of letter)) at_other)
    ∷ ((and_bad front, stops_after pairs name (bad (Bad ∷ [])) NonAsciiCodePoint) ∷ [])

-- These are the three rows of a line after which the text may not end: the end of the text, another code unit, and a bad code unit.
-- `pairs` are the annotations before it.
abbrev pub three_after : List Pair → LineName → List ℕ → Fault → List ℕ → Fault → List Example
three_after pairs name front at_end letter at_other =
    (text_of front, stops_after pairs name (end []) at_end) ∷ two_after pairs name front letter at_other

abbrev pub two : LineName → List ℕ → List ℕ → Fault → List Example
two name front letter at_other = two_after [] name front letter at_other

abbrev pub three : LineName → List ℕ → Fault → List ℕ → Fault → List Example
three name front at_end letter at_other = three_after [] name front at_end letter at_other

-- This is the only row of a *whole* line.
abbrev pub one : LineName → List ℕ → Fault → List Example
one name front fault = (text_of front, stops name (anywhere []) fault) ∷ []

-- ---- each row of the table

-- This is a position without the rest of the text.
abbrev pub kind_of : Place → Place
kind_of (end left) = end []
kind_of (other left) = other []
kind_of (bad left) = bad []
kind_of (anywhere left) = anywhere []

-- These are the kinds of positions for which a line has rows.
abbrev pub places_of : Line → List Place
places_of (line front goes_on (error fault) at_other) = end [] ∷ (other [] ∷ (bad [] ∷ []))
places_of (line front goes_on ok at_other) = other [] ∷ (bad [] ∷ [])
places_of (scanned front fault) = end [] ∷ (bad [] ∷ [])
places_of (whole front fault) = anywhere [] ∷ []

-- These are the rows of these lines in a reader. Each row is given by its line and the kind of its position.
abbrev pub rows_of : Reader → List LineName → List (LineName × Place)
rows_of reader [] = []
rows_of reader (name ∷ names) = map (λ place. (name, place)) (places_of (table reader name)) ++ rows_of reader names

abbrev pub row_shown : Outcome → List (LineName × Place)
row_shown (derived found pairs) = []
row_shown (refused row pairs) = (row.name, kind_of row.place) ∷ []

-- These are the rows of which a table has examples.
abbrev pub shown : List Example → List (LineName × Place)
shown [] = []
shown (example ∷ examples) = row_shown example.1 ++ shown examples

-- Each text of the table has its outcome, and the table has exactly one example of each row of these lines, in order.
abbrev pub ShowEachRow : Reader → List LineName → List Example → Type 0
ShowEachRow reader names examples = Compute reader examples × (shown examples ≡ rows_of reader names)
