-- Computes the results of texts with annotations, for different replies to these annotations.
use Rattle.std.proofs.Common.{◌≡◌, ℕ, Bool, true, false, List, [], ◌∷◌, codes, Some, None, pos, refl, inl, inr}
use Rattle.ixdtf_grammar.specs.declared.records.Sign.TheVariants.{Positive, Negative}
use Rattle.ixdtf_grammar.specs.declared.records.UtcOffsetRecord.TheVariants.{MinutePrecision, FullPrecisionOffset}
use Rattle.ixdtf_grammar.specs.declared.records.UtcOffsetRecordOrZ.TheVariants.{Offset}
use Rattle.ixdtf.specs.Handlers.{calendar_key, first_calendar, NoneRefused, LastRefused, with_calendar, GivesRecord, GivesFault, own_replies, UnhandledRecord}
use Rattle.ixdtf.specs.Handlers.{UnhandledFault}
use Rattle.ixdtf.specs.language.Brackets.{Pair}
use Rattle.ixdtf.specs.language.Cores.{core_of}
use Rattle.ixdtf.specs.language.Readers.{parse}
use Rattle.ixdtf.specs.language.Languages.{Parsed, parsed_with}
use Rattle.ixdtf.specs.table.Faults.Fault.{InvalidEnd, AnnotationKeyLeadingChar, AnnotationKeyChar, UnrecognizedCritical, CriticalDuplicateCalendar}
use Rattle.ixdtf.specs.table.LineNames.LineName.{of_bracket, of_pair}
use Rattle.ixdtf.specs.table.LineNames.BracketLine.{after_bracket}
use Rattle.ixdtf.specs.table.LineNames.PairLine.{key_start, in_key}
use Rattle.ixdtf.specs.table.Rows.Place.{other}
use Rattle.ixdtf_reading.specs.reading.Looks.{row_of}
use Rattle.ixdtf_reading.specs.reading.Dates.{date_of}
use Rattle.ixdtf_reading.specs.reading.Times.{time_of}
use Rattle.ixdtf_tests.proofs.Helpers.{all_readings, text_of, new_years_day, tagged, zone_named}
use Rattle.ixdtf_tests.proofs.Replies.{all_accepted, last_refused, gives, stops_with, refuses, unhandled_record, differ}

-- This is the annotation of a calendar.
abbrev calendar : Bool → List ℕ → Pair
calendar critical value = tagged critical calendar_key value

-- This is an annotation that is not a calendar, and is not critical.
abbrev elective : List ℕ → List ℕ → Pair
elective key value = tagged false key value

abbrev critical : List ℕ → List ℕ → Pair
critical key value = tagged true key value

-- This is the record of 1 January 2020. `new_year_in` adds a calendar.
abbrev new_year : Parsed
new_year = parsed_with (core_of (Some new_years_day) None None) None

abbrev new_year_in : List ℕ → Parsed
new_year_in value = with_calendar new_year (Some value)

-- This is the record of 2 March 2024 at 8:48, with the offset -05:00.
abbrev morning : Parsed
morning = parsed_with (core_of (Some (date_of (pos 2024) 3 2)) (Some (time_of 8 48 0 None))
    (Some (Offset (MinutePrecision (record { sign = Negative; hour = 5; minute = 0 }))))) None

-- ---- the first calendar among replies

none_of_none : first_calendar [] ≡ None
none_of_none = refl

first_of_replies : first_calendar (Some (elective (codes "a") (codes "b")) ∷ None ∷ Some (calendar false (codes "c")) ∷ Some (calendar true (codes "d")) ∷ [])
    ≡ Some (calendar false (codes "c"))
first_of_replies = refl

no_calendar_in_uppercase : first_calendar (Some (elective (codes "u-cb") (codes "a")) ∷ Some (elective (codes "u_ca") (codes "a")) ∷ []) ≡ None
no_calendar_in_uppercase = refl

-- ---- which reply is refused

critical_calendar_after_another : LastRefused (own_replies (calendar false (codes "a") ∷ calendar true (codes "b") ∷ [])) CriticalDuplicateCalendar
critical_calendar_after_another =
    last_refused (own_replies (calendar false (codes "a") ∷ [])) (Some (calendar true (codes "b"))) CriticalDuplicateCalendar refl
    (refl, differ _ _ refl, inr refl)

-- The first of the two calendars is critical.
calendar_after_a_critical_one : LastRefused (own_replies (calendar true (codes "a") ∷ calendar false (codes "b") ∷ [])) CriticalDuplicateCalendar
calendar_after_a_critical_one =
    last_refused (own_replies (calendar true (codes "a") ∷ [])) (Some (calendar false (codes "b"))) CriticalDuplicateCalendar refl
    (refl, differ _ _ refl, inl refl)

-- A calendar is compared with the first one. So a critical `b` is refused after `a` and `b`.
compared_with_the_first : LastRefused (own_replies (calendar false (codes "a") ∷ calendar false (codes "b") ∷ calendar true (codes "b") ∷ []))
    CriticalDuplicateCalendar
compared_with_the_first =
    last_refused (own_replies (calendar false (codes "a") ∷ calendar false (codes "b") ∷ [])) (Some (calendar true (codes "b"))) CriticalDuplicateCalendar
    refl (refl, differ _ _ refl, inr refl)

-- No reply is refused because of an annotation that the handler dropped.
none_is_never_refused : NoneRefused (Some (calendar false (codes "a")) ∷ None ∷ None ∷ Some (calendar true (codes "a")) ∷ [])
none_is_never_refused = all_accepted _ refl

-- ---- texts that are accepted without a handler

first_of_three_calendars : UnhandledRecord parse (text_of (codes "2020-01-01[u-ca=a][u-ca=b][!u-ca=a]")) (new_year_in (codes "a"))
unfolding all_readings
first_of_three_calendars =
    unhandled_record (codes "2020-01-01[u-ca=a][u-ca=b][!u-ca=a]") new_year
    (calendar false (codes "a") ∷ calendar false (codes "b") ∷ calendar true (codes "a") ∷ []) refl refl

calendar_of_runs : UnhandledRecord parse (text_of (codes "2020-01-01[u-ca=a-bc-d]")) (new_year_in (codes "a-bc-d"))
unfolding all_readings
calendar_of_runs = unhandled_record (codes "2020-01-01[u-ca=a-bc-d]") new_year (calendar false (codes "a-bc-d") ∷ []) refl refl

-- A critical calendar is the calendar of the record. An annotation with another key does not change the record.
critical_calendar : UnhandledRecord parse (text_of (codes "+0020201108[!u-ca=iso8601][f-1a2b=a0sa-2l4s]"))
    (with_calendar (parsed_with (core_of (Some (date_of (pos 2020) 11 8)) None None) None) (Some (codes "iso8601")))
unfolding all_readings
critical_calendar =
    unhandled_record (codes "+0020201108[!u-ca=iso8601][f-1a2b=a0sa-2l4s]") (parsed_with (core_of (Some (date_of (pos 2020) 11 8)) None None) None)
    (calendar true (codes "iso8601") ∷ elective (codes "f-1a2b") (codes "a0sa-2l4s") ∷ []) refl refl

-- This is the record of 29 January 2021 with an offset that has seconds, and a zone.
abbrev night : Parsed
night = parsed_with (core_of (Some (date_of (pos 2021) 1 29)) (Some (time_of 2 12 48 None))
    (Some (Offset (FullPrecisionOffset (record { minute_precision_offset = record { sign = Positive; hour = 1; minute = 0 }; second = 0; fraction = None })))))
    (zone_named false (codes "u"))

zone_and_calendar : UnhandledRecord parse (text_of (codes "2021-01-29 02:12:48+01:00:00[u][u-ca=iso8601]")) (with_calendar night (Some (codes "iso8601")))
unfolding all_readings
zone_and_calendar = unhandled_record (codes "2021-01-29 02:12:48+01:00:00[u][u-ca=iso8601]") night (calendar false (codes "iso8601") ∷ []) refl refl

-- The text gives the record `morning` with the first of its calendars.
abbrev MorningInIso : List ℕ → Type 0
MorningInIso units = UnhandledRecord parse (text_of units) (with_calendar morning (Some (codes "iso8601")))

two_calendars : MorningInIso (codes "2024-03-02T08:48:00-05:00[u-ca=iso8601][u-ca=japanese]")
unfolding all_readings
two_calendars =
    unhandled_record (codes "2024-03-02T08:48:00-05:00[u-ca=iso8601][u-ca=japanese]") morning
    (calendar false (codes "iso8601") ∷ calendar false (codes "japanese") ∷ []) refl refl

-- A critical calendar is accepted if it has the value of the first one.
same_calendar_twice : MorningInIso (codes "2024-03-02T08:48:00-05:00[u-ca=iso8601][!u-ca=iso8601]")
unfolding all_readings
same_calendar_twice =
    unhandled_record (codes "2024-03-02T08:48:00-05:00[u-ca=iso8601][!u-ca=iso8601]") morning
    (calendar false (codes "iso8601") ∷ calendar true (codes "iso8601") ∷ []) refl refl

-- ---- texts that are refused without a handler

second_calendar_is_critical : UnhandledFault parse (text_of (codes "2020-01-01[u-ca=a][!u-ca=b]")) CriticalDuplicateCalendar
unfolding all_readings
second_calendar_is_critical = (
  _,
  refuses (codes "2020-01-01[u-ca=a][!u-ca=b]") [] new_year (calendar false (codes "a") ∷ calendar true (codes "b") ∷ [])
      (own_replies (calendar false (codes "a") ∷ [])) (Some (calendar true (codes "b"))) CriticalDuplicateCalendar refl refl (refl, differ _ _ refl, inr refl),
)

first_calendar_is_critical : UnhandledFault parse (text_of (codes "2020-01-01[!u-ca=a][u-ca=b]")) CriticalDuplicateCalendar
unfolding all_readings
first_calendar_is_critical = (
  _,
  refuses (codes "2020-01-01[!u-ca=a][u-ca=b]") [] new_year (calendar true (codes "a") ∷ calendar false (codes "b") ∷ [])
      (own_replies (calendar true (codes "a") ∷ [])) (Some (calendar false (codes "b"))) CriticalDuplicateCalendar refl refl (refl, differ _ _ refl, inl refl),
)

zone_after_a_calendar : UnhandledFault parse (text_of (codes "2020-01-01[u-ca=a][Europe/London]")) AnnotationKeyLeadingChar
unfolding all_readings
zone_after_a_calendar = (
  _,
  stops_with (codes "2020-01-01[u-ca=a][Europe/London]") (row_of (of_pair key_start) (other (text_of (codes "Europe/London]"))) AnnotationKeyLeadingChar)
      (calendar false (codes "a") ∷ []) (own_replies (calendar false (codes "a") ∷ [])) refl refl,
)

zone_after_a_pair : UnhandledFault parse (text_of (codes "2020-01-01[a=b][u]")) AnnotationKeyChar
unfolding all_readings
zone_after_a_pair = (
  _,
  stops_with (codes "2020-01-01[a=b][u]") (row_of (of_pair in_key) (other (text_of (codes "]"))) AnnotationKeyChar)
      (elective (codes "a") (codes "b") ∷ []) (own_replies (elective (codes "a") (codes "b") ∷ [])) refl refl,
)

-- The reply is refused before the code units after the bracket are read.
refused_before_the_end : UnhandledFault parse (text_of (codes "2020-01-01[!a=b]junk")) UnrecognizedCritical
unfolding all_readings
refused_before_the_end = (
  _,
  refuses (codes "2020-01-01[!a=b]") (codes "junk") new_year (critical (codes "a") (codes "b") ∷ [])
      [] (Some (critical (codes "a") (codes "b"))) UnrecognizedCritical refl refl (refl, differ _ _ refl),
)

-- ---- texts and a handler

-- A handler returns each annotation. The second reply is refused, and `[e=f]` is not read.
handed_back : GivesFault parse (text_of (codes "2020-01-01[a=b][!c=d][e=f]")) (elective (codes "a") (codes "b") ∷ critical (codes "c") (codes "d") ∷ [])
    (Some (elective (codes "a") (codes "b")) ∷ Some (critical (codes "c") (codes "d")) ∷ []) UnrecognizedCritical
unfolding all_readings
handed_back = refuses (codes "2020-01-01[a=b][!c=d]") (codes "[e=f]") new_year (elective (codes "a") (codes "b") ∷ critical (codes "c") (codes "d") ∷ [])
    (Some (elective (codes "a") (codes "b")) ∷ []) (Some (critical (codes "c") (codes "d"))) UnrecognizedCritical refl refl (refl, differ _ _ refl)

-- A handler returns `None` for each of the three annotations.
all_passed_over : GivesRecord parse (text_of (codes "2020-01-01[a=b][!c=d][e=f]"))
    (elective (codes "a") (codes "b") ∷ critical (codes "c") (codes "d") ∷ elective (codes "e") (codes "f") ∷ []) (None ∷ None ∷ None ∷ []) new_year
unfolding all_readings
all_passed_over = gives (codes "2020-01-01[a=b][!c=d][e=f]") new_year
    (elective (codes "a") (codes "b") ∷ critical (codes "c") (codes "d") ∷ elective (codes "e") (codes "f") ∷ []) (None ∷ None ∷ None ∷ []) refl refl

-- The handler is called twice, and then the text has an error.
two_calls_and_an_error : GivesFault parse (text_of (codes "2020-01-01[a=b][c=d]junk"))
    (elective (codes "a") (codes "b") ∷ elective (codes "c") (codes "d") ∷ [])
    (Some (elective (codes "a") (codes "b")) ∷ Some (elective (codes "c") (codes "d")) ∷ []) InvalidEnd
unfolding all_readings
two_calls_and_an_error = stops_with (codes "2020-01-01[a=b][c=d]junk") (row_of (of_bracket after_bracket) (other (text_of (codes "junk"))) InvalidEnd)
    (elective (codes "a") (codes "b") ∷ elective (codes "c") (codes "d") ∷ [])
    (Some (elective (codes "a") (codes "b")) ∷ Some (elective (codes "c") (codes "d")) ∷ []) refl refl

-- The reply is checked, and not the annotation of the text. The reply is the same annotation, made critical.
made_critical : GivesFault parse (text_of (codes "2020-01-01[x=y]")) (elective (codes "x") (codes "y") ∷ []) (Some (critical (codes "x") (codes "y")) ∷ [])
    UnrecognizedCritical
unfolding all_readings
made_critical = refuses (codes "2020-01-01[x=y]") [] new_year (elective (codes "x") (codes "y") ∷ []) []
    (Some (critical (codes "x") (codes "y"))) UnrecognizedCritical refl refl (refl, differ _ _ refl)

-- These are a calendar, and a critical annotation that the handler knows.
abbrev known : List Pair
known = calendar false (codes "iso8601") ∷ critical (codes "answer-to-universe") (codes "fortytwo") ∷ []

-- The reply to the second annotation is `None`.
handled_by_none : GivesRecord parse (text_of (codes "2024-03-02T08:48:00-05:00[u-ca=iso8601][!answer-to-universe=fortytwo]")) known
    (Some (calendar false (codes "iso8601")) ∷ None ∷ []) (with_calendar morning (Some (codes "iso8601")))
unfolding all_readings
handled_by_none = gives (codes "2024-03-02T08:48:00-05:00[u-ca=iso8601][!answer-to-universe=fortytwo]") morning known
    (Some (calendar false (codes "iso8601")) ∷ None ∷ []) refl refl
