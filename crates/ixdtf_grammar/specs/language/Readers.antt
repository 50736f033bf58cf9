-- The readers of the library, as the definitions name them.
use Rattle.std.specs.Prelude.{Bool, true, false}
use Rattle.ixdtf_grammar.specs.declared.profile.Profile.{Profile}

-- A core is the part of a text before its brackets. There are five kinds of cores: a date with an optional time; a date-time of
-- RFC 3339; a year and a month; a month and a day; and a time. The rules of the last two depend on the profile.
pub data CoreKind : Type 0 where
  date_time internet_date_time year_month : CoreKind
  month_day time_of_day : Profile → CoreKind

-- This says whether a zone after a core of the kind must be exactly a `time-zone` of RFC 9557 section 4.1.
abbrev pub has_exact_zones : CoreKind → Bool
has_exact_zones date_time = false
has_exact_zones internet_date_time = true
has_exact_zones year_month = false
has_exact_zones (month_day profile) = false
has_exact_zones (time_of_day profile) = false

-- There is a reader for each kind of core and the brackets after it, for a date-time of RFC 3339, for an offset, for a time zone,
-- for the name of a time zone, and for a duration under a profile.
pub data Reader : Type 0 where
  bracketed : CoreKind → Reader
  parse_rfc3339 parse_offset parse_identifier parse_iana_identifier : Reader
  parse_duration : Profile → Reader

abbrev pub parse : Reader
parse = bracketed date_time

-- This is the reader of the texts of RFC 9557 section 4.1.
abbrev pub parse_rfc9557 : Reader
parse_rfc9557 = bracketed internet_date_time

abbrev pub parse_year_month : Reader
parse_year_month = bracketed year_month

abbrev pub parse_month_day : Profile → Reader
parse_month_day profile = bracketed (month_day profile)

abbrev pub parse_time : Profile → Reader
parse_time profile = bracketed (time_of_day profile)

-- This says whether brackets can follow the core that the reader reads. The code units that can follow a part depend on this.
abbrev pub has_brackets : Reader → Bool
has_brackets (bracketed kind) = true
has_brackets parse_rfc3339 = false
has_brackets parse_offset = false
has_brackets parse_identifier = false
has_brackets parse_iana_identifier = false
has_brackets (parse_duration profile) = false
