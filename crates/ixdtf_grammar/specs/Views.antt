-- The views of public clauses: how they see a parser, a result, and the records that the code returns.
use Rattle.ixdtf_grammar.specs.declared.records.TimeZoneRecord.TheVariants as zones
use Rattle.std.specs.Prelude.{◌≡◌, ℕ, ◌+◌, ◌*◌, List, map, length, Option, Some, None, option_map, slice_get, Result, Ok, Err, OnOk, OnErr, IfErr, IsFalse}
use Rattle.std.specs.Prelude.{[], ◌≤◌}
use Rattle.ixdtf_grammar.specs.declared.{error.ParseError.ParseError, profile.Profile.Profile, records.TimeZoneRecord.TimeZoneRecord}
use Rattle.ixdtf_grammar.specs.{declared.records.{TimeZoneAnnotation.TimeZoneAnnotation, IxdtfParseRecord.IxdtfParseRecord}, language.Letters.Letter}
use Rattle.ixdtf_grammar.specs.language.{Letters.Letter.{Plain, Bad}, ZoneNames.{Zone, Zone.{Name, Offset}}, Brackets.ZoneNote, Languages.Parsed}
use Rattle.ixdtf_grammar.specs.table.Faults.{Fault, fault_of, never_comes, Fault.NonAsciiCodePoint}

-- A parser is seen as the numbers of its remaining code units, and the count of accesses to a code unit.
pub record Unread : Type 0 where
  pub rest : List ℕ
  pub looks : ℕ

-- A parser with a profile is seen as the numbers of its remaining code units, the count of accesses, and its profile.
pub record UnreadUnder : Type 0 where
  pub rest : List ℕ
  pub looks : ℕ
  pub profile : Profile

abbrev pub under : Profile → Unread → UnreadUnder
under profile unread = record { rest = unread.rest; looks = unread.looks; profile = profile }

-- This is the view of a parser with a profile, without the profile.
abbrev pub unread_of : UnreadUnder → Unread
unread_of parser = record { rest = parser.rest; looks = parser.looks }

-- This is the result of one access: the number of a code unit, nothing after the end of the text, or an error at a bad code unit.
abbrev pub looked : Option Letter → Result (Option ℕ) Fault
looked None = Ok None
looked (Some (Plain n)) = Ok (Some n)
looked (Some Bad) = Err NonAsciiCodePoint

-- This is the result of one access to the code unit at an index. `letter` says what the number of a code unit stands for.
abbrev pub ascii_at : (ℕ → Letter) → ℕ → List ℕ → Result (Option ℕ) Fault
ascii_at letter place units = looked (option_map letter (slice_get units place))

-- This is the result of a function, with its value and its error each seen through a view.
abbrev pub returned_by : {X Y E : Type 0} → (E → Fault) → (X → Y) → Result X E → Result Y Fault
returned_by fault view (Ok x) = Ok (view x)
returned_by fault view (Err e) = Err (fault e)

-- This is the result of a function, with its value seen through a view, and its error seen as a `Fault`.
abbrev pub returned : {X Y : Type 0} → (X → Y) → Result X ParseError → Result Y Fault
returned = returned_by fault_of

-- The result of a function is the expected one, with its value seen through a view, and its error seen as a `Fault`.
abbrev pub Returns : {X Y : Type 0} → (X → Y) → Result X ParseError → Result Y Fault → Type 0
Returns view (Ok x) wanted = wanted ≡ Ok (view x)
Returns view (Err e) wanted = wanted ≡ Err (fault_of e)

-- This is a zone, with its name as the numbers of its code units.
abbrev pub zone_of : {T U : Type 0} → (U → ℕ) → TimeZoneRecord T U → Zone
zone_of number (zones.Name units) = Name (map number units.now)
zone_of number (zones.Offset offset) = Offset offset

-- These are the bytes of the name of a zone. The result is `None` for an offset.
abbrev pub name_of : {T : Type 0} → TimeZoneRecord T ℕ → Option (List ℕ)
name_of (zones.Name units) = Some units.now
name_of (zones.Offset offset) = None

abbrev pub note_of : {T U : Type 0} → (U → ℕ) → TimeZoneAnnotation T U → ZoneNote
note_of number annotation = record { critical = annotation.critical; zone = zone_of number annotation.tz }

-- This is a record, with its zone name and its calendar as the numbers of their code units.
abbrev pub parsed_of : {T U : Type 0} → (U → ℕ) → IxdtfParseRecord T U → Parsed
parsed_of number r = record {
  date = r.date;
  time = r.time;
  offset = r.offset;
  zone = option_map (note_of number) r.tz;
  calendar = option_map (λ units. map number units.now) r.calendar;
}

-- The record is empty: all of its fields are `None`.
pub record IsEmptyRecord {T U : Type 0} (r : IxdtfParseRecord T U) : Type 0 where
  pub date : r.date ≡ None
  pub time : r.time ≡ None
  pub offset : r.offset ≡ None
  pub tz : r.tz ≡ None
  pub calendar : r.calendar ≡ None

-- For a text, a reader without a handler accesses a code unit at most this number of times.
abbrev pub most_looks : List ℕ → ℕ
most_looks rest = 4 * length rest + 64

-- This is what a reader leaves. After `Ok`, there is no remaining input. After an error, the remaining input is unchanged, and the
-- error is one that a reader can return (`never_comes` is false). The count of accesses increases by at most `most`, and never
-- decreases.
pub record LeavesBehind {X E : Type 0} (fault : E → Fault) (most : ℕ) (old : Unread) (result : Result X E) (new : Unread) : Type 0 where
  pub empty : OnOk result (new.rest ≡ [])
  pub unchanged : OnErr result (new.rest ≡ old.rest)
  pub comes : IfErr result (λ e. IsFalse (never_comes (fault e)))
  pub looks : new.looks ≤ old.looks + most
  pub counted : old.looks ≤ new.looks
