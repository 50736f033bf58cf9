-- Defines the names of the words, and the readers that they name.
use Rattle.std.specs.Prelude.{◌≡◌, ◌≢◌, ℕ, List, Option, Some, None, codes}
use Rattle.ixdtf_grammar.specs.declared.profile.Profile.TheVariants.{Crate, Strict}
use Rattle.ixdtf.specs.language.Readers.{Reader, parse, parse_rfc9557, parse_year_month, parse_month_day, parse_time}
use Rattle.ixdtf.specs.language.Readers.Reader.{parse_rfc3339, parse_offset, parse_identifier, parse_iana_identifier, parse_duration}
use Rattle.ixdtf_answers.specs.declared.word.Word.{Word, TheVariants.{Parse, YearMonth, MonthDay, Time, Offset, Zone, Iana, Duration, StrictMonthDay}}
use Rattle.ixdtf_answers.specs.declared.word.Word.TheVariants.{StrictTime, StrictDuration, Canonical, Rfc3339, ZoneName, Rfc9557, CanonicalOffset, CanonicalZone, CanonicalDuration, Instant, CanonicalTime, CanonicalYearMonth, CanonicalMonthDay}

abbrev pub name_of : Word → List ℕ
name_of Parse = codes "parse"
name_of YearMonth = codes "year-month"
name_of MonthDay = codes "month-day"
name_of Time = codes "time"
name_of Offset = codes "offset"
name_of Zone = codes "zone"
name_of Iana = codes "iana"
name_of Duration = codes "duration"
name_of StrictMonthDay = codes "strict-month-day"
name_of StrictTime = codes "strict-time"
name_of StrictDuration = codes "strict-duration"
name_of Canonical = codes "canonical"
name_of Rfc3339 = codes "rfc3339"
name_of ZoneName = codes "zone-name"
name_of Rfc9557 = codes "rfc9557"
name_of CanonicalOffset = codes "canonical-offset"
name_of CanonicalZone = codes "canonical-zone"
name_of CanonicalDuration = codes "canonical-duration"
name_of Instant = codes "instant"
name_of CanonicalTime = codes "canonical-time"
name_of CanonicalYearMonth = codes "canonical-year-month"
name_of CanonicalMonthDay = codes "canonical-month-day"

abbrev pub reader_of : Word → Reader
reader_of Parse = parse
reader_of YearMonth = parse_year_month
reader_of MonthDay = parse_month_day Crate
reader_of Time = parse_time Crate
reader_of Offset = parse_offset
reader_of Zone = parse_identifier
reader_of Iana = parse_iana_identifier
reader_of Duration = parse_duration Crate
reader_of StrictMonthDay = parse_month_day Strict
reader_of StrictTime = parse_time Strict
reader_of StrictDuration = parse_duration Strict
reader_of Canonical = parse
reader_of Rfc3339 = parse_rfc3339
reader_of ZoneName = parse_iana_identifier
reader_of Rfc9557 = parse_rfc9557
reader_of CanonicalOffset = parse_offset
reader_of CanonicalZone = parse_identifier
reader_of CanonicalDuration = parse_duration Crate
reader_of Instant = parse
reader_of CanonicalTime = parse_time Crate
reader_of CanonicalYearMonth = parse_year_month
reader_of CanonicalMonthDay = parse_month_day Crate

-- This name at the beginning of a line asks for the explanation of a word and a text.
abbrev pub explain : List ℕ
explain = codes "explain"

-- No word has the name.
abbrev pub IsNoWord : List ℕ → Type 0
IsNoWord name = (word : Word) → name ≢ name_of word

-- This is the word that has the name. If it is `None`, no word has the name.
abbrev pub IsNamed : List ℕ → Option Word → Type 0
IsNamed name None = IsNoWord name
IsNamed name (Some word) = name ≡ name_of word
