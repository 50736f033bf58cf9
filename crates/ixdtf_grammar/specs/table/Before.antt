-- Where a table line applies in a reader: the text before the prefix of the line, and conditions on the text from the prefix on.
use Rattle.std.specs.Prelude.{◌≡◌, ◌≢◌, ◌⊎◌, IsTrue, List, [], ◌++◌, Option}
use Rattle.ixdtf_grammar.specs.{declared.profile.Profile.Profile, language.Letters.{Text, sign, date_time_separator, time_letter, opening}}
use Rattle.ixdtf_grammar.specs.language.{Shapes.{Shape, nothing, one, ◌then◌, ◌either◌, some, anything}, Dates.IsDate, Months.IsMonthDay, Times.IsTime}
use Rattle.ixdtf_grammar.specs.language.{Times.Clock.{Time, Offset, MinuteOffset}, Brackets.{ZoneNote, Opens, ReadsAsName, ReadsAsPair, Pair, IsTail}}
use Rattle.ixdtf_grammar.specs.language.{Cores.{TimeMark, MarkedTime, BeginsWith, IsCore}, Readers.{Reader, CoreKind, has_exact_zones}}
use Rattle.ixdtf_grammar.specs.language.Readers.CoreKind.{date_time, internet_date_time, year_month, month_day, time_of_day}
use Rattle.ixdtf_grammar.specs.language.Readers.Reader.{bracketed, parse_rfc3339, parse_offset, parse_identifier, parse_iana_identifier, parse_duration}
use Rattle.ixdtf_grammar.specs.table.LineNames.{DateLine, MonthDayLine, TimeLine, CoreLine, ClockLine, OffsetLine, LineName, DateLine.year_start}
use Rattle.ixdtf_grammar.specs.table.LineNames.DateLine.{year_digits, extended_year_digits, minus_zero_year, after_year, month_digits, month_range}
use Rattle.ixdtf_grammar.specs.table.LineNames.DateLine.{after_hyphened_month, after_basic_month, day_digits, day_range, after_date}
use Rattle.ixdtf_grammar.specs.table.LineNames.MonthDayLine.{month_day_start, month_day_hyphen, month_day_month_digits, month_day_month_range}
use Rattle.ixdtf_grammar.specs.table.LineNames.MonthDayLine.{after_month_day_month, month_day_day_digits, month_day_range, after_month_day}
use Rattle.ixdtf_grammar.specs.table.LineNames.TimeLine.{time_start, time_reads_as_month_day, time_reads_as_year_month}
use Rattle.ixdtf_grammar.specs.table.LineNames.{CoreLine.{dates, year_months, month_days, times}, ClockLine.{hour_start, hour_digit, hour_range, after_hour}}
use Rattle.ixdtf_grammar.specs.table.LineNames.ClockLine.{minute_digits, minute_range, after_basic_minute, after_colon_minute, second_digits, second_range}
use Rattle.ixdtf_grammar.specs.table.LineNames.{ClockLine.{after_second, fraction_start, after_fraction}, OffsetLine.{offset_start, after_zulu}}
use Rattle.ixdtf_grammar.specs.table.LineNames.ZoneLine.{identifier_start, zone_name_start, in_zone_name, after_zone_slash}
use Rattle.ixdtf_grammar.specs.table.LineNames.BracketLine.{first_bracket_start, first_critical_start, first_bracket_scan, first_dots_form, first_name_form, first_offset_form, after_bracket}
use Rattle.ixdtf_grammar.specs.table.LineNames.PairLine.{key_start, critical_key_start, in_key, value_start, in_value, after_value_hyphen}
use Rattle.ixdtf_grammar.specs.table.LineNames.LineName.{of_core, of_clock, of_offset, of_date_time, of_zone, of_bracket, of_pair, of_duration}

-- ---- lines of cores

abbrev pub DateAndSeparator : Shape
DateAndSeparator = some IsDate then one date_time_separator

abbrev pub DateTime : Shape
DateTime = DateAndSeparator then some IsTime

-- This is the text before a line of dates, in a core of the kind.
abbrev pub BeforeDate : CoreKind → DateLine → Shape
BeforeDate date_time year_start before = nothing before
BeforeDate date_time year_digits before = nothing before
BeforeDate date_time extended_year_digits before = nothing before
BeforeDate date_time minus_zero_year before = nothing before
BeforeDate date_time after_year before = nothing before
BeforeDate date_time month_digits before = nothing before
BeforeDate date_time month_range before = nothing before
BeforeDate date_time after_hyphened_month before = nothing before
BeforeDate date_time after_basic_month before = nothing before
BeforeDate date_time day_digits before = nothing before
BeforeDate date_time day_range before = nothing before
BeforeDate date_time after_date before = nothing before
BeforeDate internet_date_time line before = ⊥
BeforeDate year_month year_start before = nothing before
BeforeDate year_month year_digits before = nothing before
BeforeDate year_month extended_year_digits before = nothing before
BeforeDate year_month minus_zero_year before = nothing before
BeforeDate year_month after_year before = ⊥
BeforeDate year_month month_digits before = nothing before
BeforeDate year_month month_range before = nothing before
BeforeDate year_month after_hyphened_month before = ⊥
BeforeDate year_month after_basic_month before = ⊥
BeforeDate year_month day_digits before = ⊥
BeforeDate year_month day_range before = ⊥
BeforeDate year_month after_date before = ⊥
BeforeDate (month_day profile) line before = ⊥
BeforeDate (time_of_day profile) line before = ⊥

abbrev pub BeforeYearMonth : CoreKind → Shape
BeforeYearMonth year_month before = nothing before
BeforeYearMonth date_time before = ⊥
BeforeYearMonth internet_date_time before = ⊥
BeforeYearMonth (month_day profile) before = ⊥
BeforeYearMonth (time_of_day profile) before = ⊥

-- The text before a line of month-days is empty. If the line depends on a profile, it is the line of this profile.
abbrev pub InMonthDay : Profile → MonthDayLine → Shape
InMonthDay profile month_day_start before = nothing before
InMonthDay profile month_day_hyphen before = nothing before
InMonthDay profile month_day_month_digits before = nothing before
InMonthDay profile month_day_month_range before = nothing before
InMonthDay profile after_month_day_month before = nothing before
InMonthDay profile month_day_day_digits before = nothing before
InMonthDay profile (month_day_range other) before = nothing before × (other ≡ profile)
InMonthDay profile (after_month_day other) before = nothing before × (other ≡ profile)

abbrev pub BeforeMonthDay : CoreKind → MonthDayLine → Shape
BeforeMonthDay (month_day profile) line before = InMonthDay profile line before
BeforeMonthDay date_time line before = ⊥
BeforeMonthDay internet_date_time line before = ⊥
BeforeMonthDay year_month line before = ⊥
BeforeMonthDay (time_of_day profile) line before = ⊥

-- A core ends here: the text ends, or `[` follows.
abbrev pub AtCoreEnd : Shape
AtCoreEnd = nothing either (one opening then anything)

-- A time with its optional offset begins here, and extends to the end of the text or to a `[`.
abbrev pub ReadsAsTime : Shape
ReadsAsTime = some MarkedTime then AtCoreEnd

-- The lines for a time that begins like a date apply only if the text is a complete time up to a `[` or up to its end. The line of
-- year-months applies only if the line of month-days does not.
abbrev pub InTimeAlone : Profile → TimeLine → Text → Text → Type 0
InTimeAlone profile time_start before rest = nothing before
InTimeAlone profile (time_reads_as_month_day other) before rest = nothing before × ReadsAsTime rest × (other ≡ profile)
InTimeAlone profile time_reads_as_year_month before rest = nothing before × ReadsAsTime rest × ¬ (BeginsWith (some (IsMonthDay profile)) rest)

-- This is the text before the other lines of a time without a date, and a condition on the text from the prefix on.
abbrev pub BeforeTimeAlone : CoreKind → TimeLine → Text → Text → Type 0
BeforeTimeAlone (time_of_day profile) line before rest = InTimeAlone profile line before rest
BeforeTimeAlone date_time line before rest = ⊥
BeforeTimeAlone internet_date_time line before rest = ⊥
BeforeTimeAlone year_month line before rest = ⊥
BeforeTimeAlone (month_day profile) line before rest = ⊥

-- This is the text before a line of a core, and a condition on the text from the prefix on.
abbrev pub BeforeCore : CoreKind → CoreLine → Text → Text → Type 0
BeforeCore kind (dates line) before rest = BeforeDate kind line before
BeforeCore kind (year_months line) before rest = BeforeYearMonth kind before
BeforeCore kind (month_days line) before rest = BeforeMonthDay kind line before
BeforeCore kind (times line) before rest = BeforeTimeAlone kind line before rest

-- This is the text before a line of times. If a time without a date begins without `T` or `t`, a line of its own (`time_start`)
-- applies to its first code unit.
abbrev pub BeforeTime : CoreKind → ClockLine → Shape
BeforeTime date_time line before = DateAndSeparator before
BeforeTime internet_date_time line before = ⊥
BeforeTime year_month line before = ⊥
BeforeTime (month_day profile) line before = ⊥
BeforeTime (time_of_day profile) hour_start before = one time_letter before
BeforeTime (time_of_day profile) hour_digit before = TimeMark before
BeforeTime (time_of_day profile) hour_range before = TimeMark before
BeforeTime (time_of_day profile) after_hour before = TimeMark before
BeforeTime (time_of_day profile) minute_digits before = TimeMark before
BeforeTime (time_of_day profile) minute_range before = TimeMark before
BeforeTime (time_of_day profile) after_basic_minute before = TimeMark before
BeforeTime (time_of_day profile) after_colon_minute before = TimeMark before
BeforeTime (time_of_day profile) second_digits before = TimeMark before
BeforeTime (time_of_day profile) second_range before = TimeMark before
BeforeTime (time_of_day profile) after_second before = TimeMark before
BeforeTime (time_of_day profile) fraction_start before = TimeMark before
BeforeTime (time_of_day profile) after_fraction before = TimeMark before

-- This is the text before the sign of an offset, or before `Z`.
abbrev pub BeforeOffset : CoreKind → Shape
BeforeOffset date_time before = DateTime before
BeforeOffset internet_date_time before = ⊥
BeforeOffset year_month before = ⊥
BeforeOffset (month_day profile) before = ⊥
BeforeOffset (time_of_day profile) before = (TimeMark then some IsTime) before

abbrev pub BeforeOffsetLine : CoreKind → OffsetLine → Shape
BeforeOffsetLine kind offset_start before = ⊥
BeforeOffsetLine kind after_zulu before = BeforeOffset kind before

-- This is the text before the lines of date-times of RFC 3339.
abbrev pub BeforeInternetDateTime : CoreKind → Shape
BeforeInternetDateTime internet_date_time before = nothing before
BeforeInternetDateTime date_time before = ⊥
BeforeInternetDateTime year_month before = ⊥
BeforeInternetDateTime (month_day profile) before = ⊥
BeforeInternetDateTime (time_of_day profile) before = ⊥

-- ---- lines of brackets

-- The text is a complete core, `[`, and an optional `!`.
abbrev pub Opened : CoreKind → Shape
Opened kind = some (IsCore kind) then some Opens

-- The text is a core and one or more brackets, with these annotations.
abbrev pub Bracketed : CoreKind → List Pair → Text → Type 0
Bracketed kind pairs before =
    (cores brackets : Text) × (before ≡ cores ++ brackets) × some (IsCore kind) cores
    × (zone : Option ZoneNote) × IsTail (has_exact_zones kind) brackets zone pairs × (brackets ≢ [])

-- This is the text before a key. It ends with the opening of the first bracket, if a key begins there, or with the opening of another
-- bracket.
abbrev pub BeforeKey : CoreKind → List Pair → Text → Text → Type 0
BeforeKey kind pairs before rest = (Opened kind before × ReadsAsPair rest × (pairs ≡ [])) ⊎ (Bracketed kind pairs then some Opens) before

-- This is the text before a line, in a reader of a core of the kind and brackets. These are the complete annotations before the prefix.
abbrev pub BeforeBracketed : CoreKind → LineName → List Pair → Text → Text → Type 0
BeforeBracketed kind (of_core line) pairs before rest = BeforeCore kind line before rest × (pairs ≡ [])
BeforeBracketed kind (of_clock Time line) pairs before rest = BeforeTime kind line before × (pairs ≡ [])
BeforeBracketed kind (of_clock Offset line) pairs before rest = (BeforeOffset kind then one sign) before × (pairs ≡ [])
BeforeBracketed kind (of_clock MinuteOffset line) pairs before rest = (Opened kind then one sign) before × (pairs ≡ [])
BeforeBracketed kind (of_offset line) pairs before rest = BeforeOffsetLine kind line before × (pairs ≡ [])
BeforeBracketed kind (of_date_time line) pairs before rest = BeforeInternetDateTime kind before × (pairs ≡ [])
BeforeBracketed kind (of_zone identifier_start) pairs before rest = ⊥
BeforeBracketed kind (of_zone zone_name_start) pairs before rest = ⊥
BeforeBracketed kind (of_zone in_zone_name) pairs before rest = (Opened kind before × ReadsAsName rest) × (pairs ≡ [])
BeforeBracketed kind (of_zone after_zone_slash) pairs before rest = (Opened kind before × ReadsAsName rest) × (pairs ≡ [])
BeforeBracketed kind (of_bracket first_bracket_start) pairs before rest = some (IsCore kind) before × (pairs ≡ [])
BeforeBracketed kind (of_bracket first_critical_start) pairs before rest = some (IsCore kind) before × (pairs ≡ [])
BeforeBracketed kind (of_bracket first_bracket_scan) pairs before rest = Opened kind before × (pairs ≡ [])
BeforeBracketed kind (of_bracket first_dots_form) pairs before rest = (some (IsCore kind) before × IsTrue (has_exact_zones kind)) × (pairs ≡ [])
BeforeBracketed kind (of_bracket first_name_form) pairs before rest = (some (IsCore kind) before × IsTrue (has_exact_zones kind)) × (pairs ≡ [])
BeforeBracketed kind (of_bracket first_offset_form) pairs before rest = (some (IsCore kind) before × IsTrue (has_exact_zones kind)) × (pairs ≡ [])
BeforeBracketed kind (of_bracket after_bracket) pairs before rest = Bracketed kind pairs before
BeforeBracketed kind (of_pair key_start) pairs before rest = Bracketed kind pairs before
BeforeBracketed kind (of_pair critical_key_start) pairs before rest = Bracketed kind pairs before
BeforeBracketed kind (of_pair in_key) pairs before rest = BeforeKey kind pairs before rest
BeforeBracketed kind (of_pair value_start) pairs before rest = BeforeKey kind pairs before rest
BeforeBracketed kind (of_pair in_value) pairs before rest = BeforeKey kind pairs before rest
BeforeBracketed kind (of_pair after_value_hyphen) pairs before rest = BeforeKey kind pairs before rest
BeforeBracketed kind (of_duration profile line) pairs before rest = ⊥

-- ---- lines of readers without brackets

abbrev pub InRfc3339 : LineName → Shape
InRfc3339 (of_date_time line) before = nothing before
InRfc3339 (of_core line) before = ⊥
InRfc3339 (of_clock clock line) before = ⊥
InRfc3339 (of_offset line) before = ⊥
InRfc3339 (of_zone line) before = ⊥
InRfc3339 (of_bracket line) before = ⊥
InRfc3339 (of_pair line) before = ⊥
InRfc3339 (of_duration profile line) before = ⊥

abbrev pub InOffset : LineName → Shape
InOffset (of_offset offset_start) before = nothing before
InOffset (of_offset after_zulu) before = ⊥
InOffset (of_clock Offset line) before = one sign before
InOffset (of_clock Time line) before = ⊥
InOffset (of_clock MinuteOffset line) before = ⊥
InOffset (of_core line) before = ⊥
InOffset (of_zone line) before = ⊥
InOffset (of_date_time line) before = ⊥
InOffset (of_bracket line) before = ⊥
InOffset (of_pair line) before = ⊥
InOffset (of_duration profile line) before = ⊥

abbrev pub InIdentifier : LineName → Shape
InIdentifier (of_zone identifier_start) before = nothing before
InIdentifier (of_zone zone_name_start) before = ⊥
InIdentifier (of_zone in_zone_name) before = nothing before
InIdentifier (of_zone after_zone_slash) before = nothing before
InIdentifier (of_clock MinuteOffset line) before = one sign before
InIdentifier (of_clock Time line) before = ⊥
InIdentifier (of_clock Offset line) before = ⊥
InIdentifier (of_core line) before = ⊥
InIdentifier (of_offset line) before = ⊥
InIdentifier (of_date_time line) before = ⊥
InIdentifier (of_bracket line) before = ⊥
InIdentifier (of_pair line) before = ⊥
InIdentifier (of_duration profile line) before = ⊥

abbrev pub InIanaIdentifier : LineName → Shape
InIanaIdentifier (of_zone zone_name_start) before = nothing before
InIanaIdentifier (of_zone identifier_start) before = ⊥
InIanaIdentifier (of_zone in_zone_name) before = nothing before
InIanaIdentifier (of_zone after_zone_slash) before = nothing before
InIanaIdentifier (of_core line) before = ⊥
InIanaIdentifier (of_clock clock line) before = ⊥
InIanaIdentifier (of_offset line) before = ⊥
InIanaIdentifier (of_date_time line) before = ⊥
InIanaIdentifier (of_bracket line) before = ⊥
InIanaIdentifier (of_pair line) before = ⊥
InIanaIdentifier (of_duration profile line) before = ⊥

abbrev pub InDuration : Profile → LineName → Shape
InDuration profile (of_duration other line) before = nothing before × (other ≡ profile)
InDuration profile (of_core line) before = ⊥
InDuration profile (of_clock clock line) before = ⊥
InDuration profile (of_offset line) before = ⊥
InDuration profile (of_zone line) before = ⊥
InDuration profile (of_date_time line) before = ⊥
InDuration profile (of_bracket line) before = ⊥
InDuration profile (of_pair line) before = ⊥

-- ---- lines of any reader

-- The line applies in the reader after the text `before`, with the text `rest` from the prefix of the line on. `pairs` are the
-- complete annotations before the prefix.
abbrev pub Before : Reader → LineName → List Pair → Text → Text → Type 0
Before (bracketed kind) line pairs before rest = BeforeBracketed kind line pairs before rest
Before parse_rfc3339 line pairs before rest = InRfc3339 line before × (pairs ≡ [])
Before parse_offset line pairs before rest = InOffset line before × (pairs ≡ [])
Before parse_identifier line pairs before rest = InIdentifier line before × (pairs ≡ [])
Before parse_iana_identifier line pairs before rest = InIanaIdentifier line before × (pairs ≡ [])
Before (parse_duration profile) line pairs before rest = InDuration profile line before × (pairs ≡ [])
