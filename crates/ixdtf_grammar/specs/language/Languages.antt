-- The languages of the readers: which texts stand for which values.
use Rattle.std.specs.Prelude.{◌≡◌, ℕ, List, [], ◌++◌, Option, None}
use Rattle.ixdtf_grammar.specs.declared.records.{DateRecord.DateRecord, TimeRecord.TimeRecord, UtcOffsetRecord.UtcOffsetRecord}
use Rattle.ixdtf_grammar.specs.declared.{records.{UtcOffsetRecordOrZ.UtcOffsetRecordOrZ, DurationParseRecord.DurationParseRecord}, profile.Profile.Profile}
use Rattle.ixdtf_grammar.specs.language.{Letters.Text, Offsets.IsOffset, ZoneNames.{Zone, IsZoneName, IsZone}, Brackets.{ZoneNote, Pair, IsTail}}
use Rattle.ixdtf_grammar.specs.language.{Cores.{Core, IsCore, IsDateTime}, Durations.IsDuration, Readers.{Reader, CoreKind, has_exact_zones}}
use Rattle.ixdtf_grammar.specs.language.Readers.Reader.{bracketed, parse_rfc3339, parse_offset, parse_identifier, parse_iana_identifier, parse_duration}

-- This is the record that the grammar derives from a text with brackets. Names are the numbers of their code units.
pub record Parsed : Type 0 where
  pub date : Option DateRecord
  pub time : Option TimeRecord
  pub offset : Option UtcOffsetRecordOrZ
  pub zone : Option ZoneNote
  pub calendar : Option (List ℕ)

-- This is the record of a core and an optional zone. It has no calendar, because the replies to the annotations give the calendar.
abbrev pub parsed_with : Core → Option ZoneNote → Parsed
parsed_with core zone = record { date = core.date; time = core.time; offset = core.offset; zone = zone; calendar = None }

-- The text is a core of the kind, an optional zone annotation, and any number of annotations.
pub record IsBracketed (kind : CoreKind) (text : Text) (parsed : Parsed) (pairs : List Pair) : Type 0 where
  pub cores : Text
  pub brackets : Text
  pub core : Core
  pub zone : Option ZoneNote
  pub is : text ≡ cores ++ brackets
  pub is_core : IsCore kind cores core
  pub is_tail : IsTail (has_exact_zones kind) brackets zone pairs
  pub has : parsed ≡ parsed_with core zone

-- The text is a date-time of RFC 3339 section 5.6, and the record has no zone and no calendar.
abbrev pub IsRfc3339 : Text → Parsed → Type 0
IsRfc3339 text parsed = (core : Core) × IsDateTime text core × (parsed ≡ parsed_with core None)

-- These are the values that the grammar derives for the readers.
pub data Found : Type 0 where
  parsed : Parsed → Found
  dated : Parsed → Found
  shifted : UtcOffsetRecord → Found
  identified : Zone → Found
  named : List ℕ → Found
  lasting : DurationParseRecord → Found

-- The language of a reader says which texts stand for which values, with which annotations.
pub data Derives : Reader → Text → Found → List Pair → Type 0 where
  as_parsed : {kind : CoreKind} {text : Text} {found : Parsed} {pairs : List Pair} →
      IsBracketed kind text found pairs → Derives (bracketed kind) text (parsed found) pairs
  as_dated : {text : Text} {found : Parsed} → IsRfc3339 text found → Derives parse_rfc3339 text (dated found) []
  as_shifted : {text : Text} {offset : UtcOffsetRecord} → IsOffset text offset → Derives parse_offset text (shifted offset) []
  as_identified : {text : Text} {zone : Zone} → IsZone text zone → Derives parse_identifier text (identified zone) []
  as_named : {text : Text} {units : List ℕ} → IsZoneName text units → Derives parse_iana_identifier text (named units) []
  as_lasting : {profile : Profile} {text : Text} {duration : DurationParseRecord} →
      IsDuration profile text duration → Derives (parse_duration profile) text (lasting duration) []
