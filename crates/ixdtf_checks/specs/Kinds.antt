-- Defines the names of the kinds, and the reader of each kind.
use Rattle.std.specs.Prelude.{◌≡◌, ◌≢◌, ℕ, Bool, true, false, List, Option, Some, None, codes}
use Rattle.ixdtf_grammar.specs.{declared.profile.Profile.Profile, language.Readers.{Reader, parse, parse_rfc9557, parse_year_month, parse_month_day, parse_time}}
use Rattle.ixdtf_grammar.specs.language.Readers.Reader.{parse_rfc3339, parse_offset, parse_identifier, parse_iana_identifier, parse_duration}
use Rattle.ixdtf_checks.specs.declared.kind.Kind.{Kind, TheVariants.{DateTime, YearMonth, MonthDay, Time, Offset, Zone, ZoneName, Duration, Rfc3339, Iana, Rfc9557}}
use Rattle.ixdtf_checks.specs.declared.kind.InstantKind.{InstantKind}
use Rattle.ixdtf_checks.specs.declared.kind.InstantKind.TheVariants as instants

abbrev pub name_of : Kind → List ℕ
name_of DateTime = codes "date-time"
name_of YearMonth = codes "year-month"
name_of MonthDay = codes "month-day"
name_of Time = codes "time"
name_of Offset = codes "offset"
name_of Zone = codes "zone"
name_of ZoneName = codes "zone-name"
name_of Duration = codes "duration"
name_of Rfc3339 = codes "rfc3339"
name_of Iana = codes "iana"
name_of Rfc9557 = codes "rfc9557"

-- This is the kind that has the name. If it is `None`, no kind has the name.
abbrev pub IsNamed : List ℕ → Option Kind → Type 0
IsNamed name None = (kind : Kind) → name ≢ name_of kind
IsNamed name (Some kind) = name ≡ name_of kind

-- This is the reader of the kind. Three of the readers use the profile.
abbrev pub reader_of : Kind → Profile → Reader
reader_of DateTime profile = parse
reader_of YearMonth profile = parse_year_month
reader_of MonthDay profile = parse_month_day profile
reader_of Time profile = parse_time profile
reader_of Offset profile = parse_offset
reader_of Zone profile = parse_identifier
reader_of ZoneName profile = parse_iana_identifier
reader_of Duration profile = parse_duration profile
reader_of Rfc3339 profile = parse_rfc3339
reader_of Iana profile = parse_iana_identifier
reader_of Rfc9557 profile = parse_rfc9557

-- This is the same kind as an `InstantKind`, if its texts can name an instant.
abbrev pub instant_kind : Kind → Option InstantKind
instant_kind DateTime = Some instants.DateTime
instant_kind YearMonth = None
instant_kind MonthDay = None
instant_kind Time = None
instant_kind Offset = None
instant_kind Zone = None
instant_kind ZoneName = None
instant_kind Duration = None
instant_kind Rfc3339 = Some instants.Rfc3339
instant_kind Iana = None
instant_kind Rfc9557 = Some instants.Rfc9557

-- This is the reader of a kind whose texts can name an instant.
abbrev pub instant_reader_of : InstantKind → Reader
instant_reader_of instants.DateTime = parse
instant_reader_of instants.Rfc3339 = parse_rfc3339
instant_reader_of instants.Rfc9557 = parse_rfc9557

-- An offset may follow the time in a text of this kind.
abbrev pub has_offset : Kind → Bool
has_offset DateTime = true
has_offset YearMonth = false
has_offset MonthDay = false
has_offset Time = true
has_offset Offset = false
has_offset Zone = false
has_offset ZoneName = false
has_offset Duration = false
has_offset Rfc3339 = true
has_offset Iana = false
has_offset Rfc9557 = true
