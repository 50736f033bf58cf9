-- The text before a table line has no `Bad`. The condition of the line on the rest depends only on the code units before the
-- first `Bad`. So a row that fits a text with `Bad` is a row for `Bad`, or it fits each text with the same code units before it.
use Rattle.std.proofs.Common.{◌≡◌, ◌⊎◌, List, ◌++◌, inl, inr, sym, ap, ◌∙◌, subst, append_assoc}
use Rattle.ixdtf_grammar.specs.{declared.profile.Profile.Profile, language.{Letters.Text, Shapes.some, Times.Clock.{Time, Offset, MinuteOffset}}}
use Rattle.ixdtf_grammar.specs.language.{Months.IsMonthDay, Brackets.{Pair, ReadsAsName, ReadsAsPair}, Cores.{BeginsWith, IsCore}}
use Rattle.ixdtf_grammar.specs.language.Readers.{Reader, CoreKind, has_brackets, CoreKind.{date_time, internet_date_time, year_month, month_day, time_of_day}}
use Rattle.ixdtf_grammar.specs.language.Readers.Reader.{bracketed, parse_rfc3339, parse_offset, parse_identifier, parse_iana_identifier, parse_duration}
use Rattle.ixdtf_grammar.specs.table.Before.{DateAndSeparator, BeforeDate, BeforeYearMonth, BeforeMonthDay, AtCoreEnd, ReadsAsTime, InTimeAlone}
use Rattle.ixdtf_grammar.specs.table.Before.{BeforeTimeAlone, BeforeCore, InMonthDay, BeforeTime, BeforeOffset, BeforeOffsetLine, BeforeInternetDateTime, Opened, Bracketed}
use Rattle.ixdtf_grammar.specs.table.Before.{BeforeKey, BeforeBracketed, InRfc3339, InOffset, InIdentifier, InIanaIdentifier, InDuration, Before}
use Rattle.ixdtf_grammar.specs.table.LineNames.{DateLine, MonthDayLine, TimeLine, CoreLine, ClockLine, OffsetLine, LineName}
use Rattle.ixdtf_grammar.specs.table.LineNames.DateLine.{year_start, year_digits, extended_year_digits, minus_zero_year, month_digits, month_range}
use Rattle.ixdtf_grammar.specs.table.LineNames.MonthDayLine.{month_day_range, after_month_day}
use Rattle.ixdtf_grammar.specs.table.LineNames.TimeLine.{time_start, time_reads_as_month_day, time_reads_as_year_month}
use Rattle.ixdtf_grammar.specs.table.LineNames.{CoreLine.{dates, year_months, month_days, times}, ClockLine.hour_start, OffsetLine.{offset_start, after_zulu}}
use Rattle.ixdtf_grammar.specs.table.LineNames.ZoneLine.{identifier_start, zone_name_start}
use Rattle.ixdtf_grammar.specs.table.LineNames.BracketLine.{first_bracket_start, first_critical_start, first_bracket_scan, first_dots_form, first_name_form, first_offset_form, after_bracket}
use Rattle.ixdtf_grammar.specs.table.LineNames.PairLine.{key_start, critical_key_start}
use Rattle.ixdtf_grammar.specs.table.{LineNames.LineName.{of_core, of_clock, of_offset, of_date_time, of_zone, of_bracket, of_pair, of_duration}, Rows.{Row, Fits, left_at}}
use Rattle.ixdtf_grammar.proofs.{parts.CoreLetters.core_ends, widths.PlainTexts.{IsPlain, plain_append, PlainShape, plain_nowhere, plain_nothing, plain_one}}
use Rattle.ixdtf_grammar.proofs.widths.PlainTexts.{plain_with, ◌and_then◌, plain_some, date_plain, time_plain, plain_mark, marked_plain, core_plain}
use Rattle.ixdtf_grammar.proofs.widths.{PlainTexts.{opens_plain, tail_plain}, FirstBad.{Sees, sees_after, Moves, moves_anything, moves_nothing, moves_then}}
use Rattle.ixdtf_grammar.proofs.widths.FirstBad.{moves_either, moves_first, Stands, alone, ahead, ahead_where, besides, stands_either, never, moved_to}
use Rattle.ixdtf_grammar.proofs.{widths.{FirstBad.stops_move, PlainLines.plain_line}, theorems.NoRow.BeginsBad}
use Rattle.ixdtf_reading.proofs.parts.Fronts.{month_day_front_stays}
use Rattle.ixdtf_reading.proofs.theorems.RowPlaces.{left_is}

-- ---- lines of cores

before_date : (kind : CoreKind) (line : DateLine) → PlainShape (BeforeDate kind line)
before_date date_time year_start = plain_nothing
before_date date_time line = plain_nothing
before_date year_month year_start = plain_nothing
before_date year_month year_digits = plain_nothing
before_date year_month extended_year_digits = plain_nothing
before_date year_month minus_zero_year = plain_nothing
before_date year_month month_digits = plain_nothing
before_date year_month month_range = plain_nothing
before_date kind line = plain_nowhere

before_year_month : (kind : CoreKind) → PlainShape (BeforeYearMonth kind)
before_year_month year_month = plain_nothing
before_year_month kind = plain_nowhere

in_month_day : (profile : Profile) (line : MonthDayLine) → PlainShape (InMonthDay profile line)
in_month_day profile (month_day_range named) = plain_with plain_nothing
in_month_day profile (after_month_day named) = plain_with plain_nothing
in_month_day profile line = plain_nothing

before_month_day : (kind : CoreKind) (line : MonthDayLine) → PlainShape (BeforeMonthDay kind line)
before_month_day (month_day profile) line = in_month_day profile line
before_month_day kind line = plain_nowhere

moves_core_end : Moves AtCoreEnd
moves_core_end = moves_either moves_nothing (moves_then plain_one moves_anything)

moves_time : Moves ReadsAsTime
moves_time = moves_then (plain_some marked_plain) moves_core_end

-- If the other text begins with a month-day, this month-day is within the time, and so this text begins with it too.
month_day_front_back : (profile : Profile) (rest other_rest : Text) → Sees rest other_rest → ReadsAsTime rest → BeginsWith (some (IsMonthDay profile)) other_rest
    → BeginsWith (some (IsMonthDay profile)) rest
month_day_front_back profile rest other_rest sees (marked, after, is, time, ends) front =
    let next = sees_after marked after other_rest ((plain_some marked_plain).plain marked time) (rw (← is) sees) in
    let ends_there = core_ends next.0 (moves_core_end.moved after next.0 next.2 ends) in
    rw is (month_day_front_stays profile marked next.0 after ends_there (rw (← next.1) front))

in_time_alone : (profile : Profile) (line : TimeLine) → Stands (λ before rest. InTimeAlone profile line before rest)
in_time_alone profile time_start = alone plain_nothing
in_time_alone profile (time_reads_as_month_day named) = record {
  plain = λ before rest h. plain_nothing.plain before h.0;
  moved = λ before rest other_rest sees h. (h.0, moves_time.moved rest other_rest sees h.1, h.2);
}
in_time_alone profile time_reads_as_year_month = record {
  plain = λ before rest h. plain_nothing.plain before h.0;
  moved = λ before rest other_rest sees h.
      (h.0, moves_time.moved rest other_rest sees h.1, λ front. h.2 (month_day_front_back profile rest other_rest sees h.1 front));
}

before_time_alone : (kind : CoreKind) (line : TimeLine) → Stands (λ before rest. BeforeTimeAlone kind line before rest)
before_time_alone (time_of_day profile) line = in_time_alone profile line
before_time_alone kind line = never

before_core : (kind : CoreKind) (line : CoreLine) → Stands (λ before rest. BeforeCore kind line before rest)
before_core kind (dates line) = alone (before_date kind line)
before_core kind (year_months line) = alone (before_year_month kind)
before_core kind (month_days line) = alone (before_month_day kind line)
before_core kind (times line) = before_time_alone kind line

-- ---- lines of times and offsets

plain_start : PlainShape DateAndSeparator
plain_start = plain_some date_plain and_then plain_one

before_time : (kind : CoreKind) (line : ClockLine) → PlainShape (BeforeTime kind line)
before_time date_time line = plain_start
before_time (time_of_day profile) hour_start = plain_one
before_time (time_of_day profile) line = plain_mark
before_time kind line = plain_nowhere

before_offset : (kind : CoreKind) → PlainShape (BeforeOffset kind)
before_offset date_time = plain_start and_then plain_some time_plain
before_offset (time_of_day profile) = plain_mark and_then plain_some time_plain
before_offset kind = plain_nowhere

before_offset_line : (kind : CoreKind) (line : OffsetLine) → PlainShape (BeforeOffsetLine kind line)
before_offset_line kind offset_start = plain_nowhere
before_offset_line kind after_zulu = before_offset kind

before_internet_date_time : (kind : CoreKind) → PlainShape (BeforeInternetDateTime kind)
before_internet_date_time internet_date_time = plain_nothing
before_internet_date_time kind = plain_nowhere

-- ---- lines of brackets

plain_core : (kind : CoreKind) → PlainShape (some (IsCore kind))
plain_core kind = plain_some (core_plain kind)

plain_opened : (kind : CoreKind) → PlainShape (Opened kind)
plain_opened kind = plain_core kind and_then plain_some opens_plain

plain_bracketed : (kind : CoreKind) (pairs : List Pair) → PlainShape (Bracketed kind pairs)
plain_bracketed kind pairs = record { plain = λ before h. rw h.2 (plain_append h.0 h.1 ((plain_core kind).plain h.0 h.3) (tail_plain _ h.1 h.4 pairs h.5)) }

moves_name : Moves ReadsAsName
moves_name = moves_either (moves_then plain_one moves_anything) (moves_then plain_one moves_first)

moves_pair : Moves ReadsAsPair
moves_pair = moves_then plain_one moves_first

before_key : (kind : CoreKind) (pairs : List Pair) → Stands (λ before rest. BeforeKey kind pairs before rest)
before_key kind pairs = stands_either (ahead_where (plain_opened kind) moves_pair) (alone (plain_bracketed kind pairs and_then plain_some opens_plain))

before_bracketed : (kind : CoreKind) (name : LineName) (pairs : List Pair) → Stands (λ before rest. BeforeBracketed kind name pairs before rest)
before_bracketed kind (of_core line) pairs = besides (before_core kind line)
before_bracketed kind (of_clock Time line) pairs = besides (alone (before_time kind line))
before_bracketed kind (of_clock Offset line) pairs = besides (alone (before_offset kind and_then plain_one))
before_bracketed kind (of_clock MinuteOffset line) pairs = besides (alone (plain_opened kind and_then plain_one))
before_bracketed kind (of_offset line) pairs = besides (alone (before_offset_line kind line))
before_bracketed kind (of_date_time line) pairs = besides (alone (before_internet_date_time kind))
before_bracketed kind (of_zone identifier_start) pairs = never
before_bracketed kind (of_zone zone_name_start) pairs = never
before_bracketed kind (of_zone line) pairs = besides (ahead (plain_opened kind) moves_name)
before_bracketed kind (of_bracket first_bracket_start) pairs = besides (alone (plain_core kind))
before_bracketed kind (of_bracket first_critical_start) pairs = besides (alone (plain_core kind))
before_bracketed kind (of_bracket first_bracket_scan) pairs = besides (alone (plain_opened kind))
before_bracketed kind (of_bracket first_dots_form) pairs = besides (alone (plain_with (plain_core kind)))
before_bracketed kind (of_bracket first_name_form) pairs = besides (alone (plain_with (plain_core kind)))
before_bracketed kind (of_bracket first_offset_form) pairs = besides (alone (plain_with (plain_core kind)))
before_bracketed kind (of_bracket after_bracket) pairs = alone (plain_bracketed kind pairs)
before_bracketed kind (of_pair key_start) pairs = alone (plain_bracketed kind pairs)
before_bracketed kind (of_pair critical_key_start) pairs = alone (plain_bracketed kind pairs)
before_bracketed kind (of_pair line) pairs = before_key kind pairs
before_bracketed kind (of_duration profile line) pairs = never

-- ---- lines of readers without brackets

in_rfc_3339 : (name : LineName) → PlainShape (InRfc3339 name)
in_rfc_3339 (of_date_time line) = plain_nothing
in_rfc_3339 name = plain_nowhere

in_offset : (name : LineName) → PlainShape (InOffset name)
in_offset (of_offset offset_start) = plain_nothing
in_offset (of_clock Offset line) = plain_one
in_offset name = plain_nowhere

in_identifier : (name : LineName) → PlainShape (InIdentifier name)
in_identifier (of_zone zone_name_start) = plain_nowhere
in_identifier (of_zone line) = plain_nothing
in_identifier (of_clock MinuteOffset line) = plain_one
in_identifier name = plain_nowhere

in_iana_identifier : (name : LineName) → PlainShape (InIanaIdentifier name)
in_iana_identifier (of_zone identifier_start) = plain_nowhere
in_iana_identifier (of_zone line) = plain_nothing
in_iana_identifier name = plain_nowhere

in_duration : (profile : Profile) (name : LineName) → PlainShape (InDuration profile name)
in_duration profile (of_duration named line) = plain_with plain_nothing
in_duration profile name = plain_nowhere

-- ---- rows

before_line : (reader : Reader) (name : LineName) (pairs : List Pair) → Stands (λ before rest. Before reader name pairs before rest)
before_line (bracketed kind) name pairs = before_bracketed kind name pairs
before_line parse_rfc3339 name pairs = besides (alone (in_rfc_3339 name))
before_line parse_offset name pairs = besides (alone (in_offset name))
before_line parse_identifier name pairs = besides (alone (in_identifier name))
before_line parse_iana_identifier name pairs = besides (alone (in_iana_identifier name))
before_line (parse_duration profile) name pairs = besides (alone (in_duration profile name))

-- The row, with this text from its position on.
abbrev pub row_moved : Text → Row → Row
row_moved rest row = record { name = row.name; place = moved_to rest row.place; error = row.error }

-- A row that fits a text with `Bad` has no `Bad` before its position. It is a row for `Bad`, or it also fits the other text,
-- after the same code units.
pub fits_move : (reader : Reader) (row : Row) (pairs : List Pair) (text other_text : Text) → Sees text other_text → Fits reader row pairs text
    → (front : Text) × IsPlain front × (text ≡ front ++ left_at row.place)
    × (BeginsBad row.error (left_at row.place) ⊎ ((rest : Text) × (other_text ≡ front ++ rest) × Fits reader (row_moved rest row) pairs other_text))
fits_move reader row pairs text other_text sees (before, rest, is, b, (front, stop, splits, f, at)) =
    let plain_before = (before_line reader row.name pairs).plain before rest b in
    let plain_front = (plain_line (has_brackets reader) row.name).plain front f in
    let next = sees_after before rest other_text plain_before (rw (← is) sees) in
    let last = sees_after front stop next.0 plain_front (rw (← splits) next.2) in
    let left = left_is _ row.place row.error stop at in (
      before ++ front,
      plain_append before front plain_before plain_front,
      is ∙ ap (λ t. before ++ t) (splits ∙ ap (λ t. front ++ t) (sym left)) ∙ sym (append_assoc before front (left_at row.place)),
      elim (stops_move _ row.place row.error stop last.0 last.2 at) [
        | inl h ↦ inl (subst (λ t. BeginsBad row.error t) (sym left) h)
        | inr moved ↦ inr (
          last.0,
          next.1 ∙ ap (λ t. before ++ t) last.1 ∙ sym (append_assoc before front last.0),
          (before, next.0, next.1, (before_line reader row.name pairs).moved before rest next.0 next.2 b, (front, last.0, last.1, f, moved)),
        )
      ],
    )
