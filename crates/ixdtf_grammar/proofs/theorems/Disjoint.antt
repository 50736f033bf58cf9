-- Under one profile, no text is in the languages of two of the readers of dates, times and durations.
use Rattle.std.proofs.Common.{◌≡◌, List, [], ◌∷◌, ◌++◌, refl, sym, ap, ◌∙◌, subst, inl, inr, arith, append_assoc, append-nil}
use Rattle.ixdtf_grammar.specs.{declared.{profile.Profile.Profile, records.DateRecord.DateRecord}, language.Letters.{Text, Letter.Plain}}
use Rattle.ixdtf_grammar.specs.language.{Shapes.{Shape, some}, Dates.DateText, Months.{IsYearMonth, IsMonthDay}, Brackets.Pair}
use Rattle.ixdtf_grammar.specs.language.{Cores.{Core, IsDateTimeCore, BeginsWith, IsCore}, Durations.IsDuration, Readers.{Reader, CoreKind}}
use Rattle.ixdtf_grammar.specs.language.Readers.CoreKind.{date_time, internet_date_time, year_month, month_day, time_of_day}
use Rattle.ixdtf_grammar.specs.language.Readers.Reader.{bracketed, parse_rfc3339, parse_offset, parse_identifier, parse_iana_identifier, parse_duration}
use Rattle.ixdtf_grammar.specs.language.Languages.{Parsed, IsBracketed, Derives.{as_parsed, as_lasting}}
use Rattle.ixdtf_grammar.specs.Laws.{IsKindUnder, InLanguage, LanguagesDisjoint, InNoOther}
use Rattle.ixdtf_grammar.proofs.{parts.{CoreLetters.{same_core, no_duration}, Texts.year_month_text}, theorems.CoreEnds.{tail_ends, core_inside}}
use Rattle.ixdtf_grammar.proofs.theorems.CoreSizes.{date_time_size, year_month_size, month_day_size, at_least, longer}

-- ---- prefixes of cores

-- This is the first day of the month of a date.
abbrev month_of : DateRecord → DateRecord
month_of date = record { year = date.year; month = date.month; day = 1 }

-- A date begins with a year-month.
date_front : (text more : Text) (date : DateRecord) → DateText text date → BeginsWith (some IsYearMonth) (text ++ more)
date_front text more date (inl h) = (
  h.years ++ h.months,
  h.days ++ more,
  rw h.is (simp append_assoc),
  (month_of date, year_month_text h.years [] h.months refl h.year (inl refl) h.month refl),
  tt,
)
date_front text more date (inr h) = (
  h.years ++ (Plain 45 ∷ h.months),
  Plain 45 ∷ (h.days ++ more),
  rw h.is (simp append_assoc),
  (month_of date, year_month_text h.years (Plain 45 ∷ []) h.months refl h.year (inr (45, refl, refl)) h.month refl),
  tt,
)

date_time_front : (text : Text) (core : Core) → IsDateTimeCore text core → BeginsWith (some IsYearMonth) text
date_time_front text core (inl h) = rw (← (append-nil text)) (date_front text [] h.0 h.1.0)
date_time_front text core (inr h) = rw h.is (date_front h.dates _ h.date h.is_date.0)

-- A text is a prefix of itself.
itself : (shape : Shape) (text : Text) → shape text → BeginsWith shape text
itself shape text h = (text, [], sym (append-nil text), h, tt)

-- ---- pairs of readers with brackets

-- The text is a core of the kind, and brackets.
abbrev Whole : CoreKind → Text → Type 0
Whole kind text = (found : Parsed) × (pairs : List Pair) × IsBracketed kind text found pairs

abbrev Apart : CoreKind → CoreKind → Type 0
Apart first second = (text : Text) → Whole first text → Whole second text → ⊥

-- If no text is a core of both kinds, no text is a core of both kinds with brackets after it.
cores_apart : (first second : CoreKind) → ((cores : Text) (core other : Core) → IsCore first cores core → IsCore second cores other → ⊥) → Apart first second
cores_apart first second clash text (found, pairs, h) (others, marks, k) =
    let inside = core_inside first h.cores h.core h.is_core in
    let ends = tail_ends _ h.brackets h.zone pairs h.is_tail in
    let inside_too = core_inside second k.cores k.core k.is_core in
    let ends_too = tail_ends _ k.brackets k.zone marks k.is_tail in
    let same : h.cores ≡ k.cores = same_core h.cores k.cores h.brackets k.brackets inside inside_too ends ends_too (sym h.is ∙ k.is) in
    clash h.cores h.core k.core h.is_core (rw same k.is_core)

date_times_and_year_months : Apart date_time year_month
date_times_and_year_months = cores_apart date_time year_month λ t core other h k.
    longer t 8 11 6 7 9 10 (omega arith) (omega arith) (date_time_size t core h) (year_month_size t k.0 k.1)

date_times_and_month_days : (profile : Profile) → Apart date_time (month_day profile)
date_times_and_month_days profile = cores_apart date_time (month_day profile) λ t core other h k.
    longer t 8 11 4 5 6 7 (omega arith) (omega arith) (date_time_size t core h) (month_day_size t k.0 k.1.0)

year_months_and_month_days : (profile : Profile) → Apart year_month (month_day profile)
year_months_and_month_days profile = cores_apart year_month (month_day profile) λ t core other h k.
    longer t 6 9 4 5 6 7 (omega arith) (omega arith) (at_least t 6 7 9 10 6 9 (omega arith) (omega arith) (year_month_size t h.0 h.1))
    (month_day_size t k.0 k.1.0)

date_times_and_times : (profile : Profile) → Apart date_time (time_of_day profile)
date_times_and_times profile = cores_apart date_time (time_of_day profile) λ t core other h k. k.1.1 (date_time_front t core h)

year_months_and_times : (profile : Profile) → Apart year_month (time_of_day profile)
year_months_and_times profile = cores_apart year_month (time_of_day profile) λ t core other h k. k.1.1 (itself (some IsYearMonth) t (h.0, h.1))

month_days_and_times : (profile : Profile) → Apart (month_day profile) (time_of_day profile)
month_days_and_times profile = cores_apart (month_day profile) (time_of_day profile) λ t core other h k. k.1.0 (itself (some (IsMonthDay profile)) t (h.0, h.1))

-- No text is both a month-day and a time, each with brackets, under one profile.
month_day_or_time : (profile first second : Profile) → first ≡ profile → second ≡ profile → (text : Text) → Whole (month_day first) text
    → Whole (time_of_day second) text → ⊥
month_day_or_time profile first second is too text h k =
    month_days_and_times profile text (subst (λ p. Whole (month_day p) text) is h) (subst (λ p. Whole (time_of_day p) text) too k)

same_kind : (profile : Profile) (first second : CoreKind) → IsKindUnder profile first → IsKindUnder profile second → (text : Text) → Whole first text
    → Whole second text → first ≡ second
same_kind profile date_time date_time is too text h k = refl
same_kind profile date_time internet_date_time is too text h k = absurd too
same_kind profile date_time year_month is too text h k = absurd (date_times_and_year_months text h k)
same_kind profile date_time (month_day second) is too text h k = absurd (date_times_and_month_days second text h k)
same_kind profile date_time (time_of_day second) is too text h k = absurd (date_times_and_times second text h k)
same_kind profile internet_date_time second is too text h k = absurd is
same_kind profile year_month date_time is too text h k = absurd (date_times_and_year_months text k h)
same_kind profile year_month internet_date_time is too text h k = absurd too
same_kind profile year_month year_month is too text h k = refl
same_kind profile year_month (month_day second) is too text h k = absurd (year_months_and_month_days second text h k)
same_kind profile year_month (time_of_day second) is too text h k = absurd (year_months_and_times second text h k)
same_kind profile (month_day first) date_time is too text h k = absurd (date_times_and_month_days first text k h)
same_kind profile (month_day first) internet_date_time is too text h k = absurd too
same_kind profile (month_day first) year_month is too text h k = absurd (year_months_and_month_days first text k h)
same_kind profile (month_day first) (month_day second) is too text h k = ap month_day (is ∙ sym too)
same_kind profile (month_day first) (time_of_day second) is too text h k = absurd (month_day_or_time profile first second is too text h k)
same_kind profile (time_of_day first) date_time is too text h k = absurd (date_times_and_times first text k h)
same_kind profile (time_of_day first) internet_date_time is too text h k = absurd too
same_kind profile (time_of_day first) year_month is too text h k = absurd (year_months_and_times first text k h)
same_kind profile (time_of_day first) (month_day second) is too text h k = absurd (month_day_or_time profile second first too is text k h)
same_kind profile (time_of_day first) (time_of_day second) is too text h k = ap time_of_day (is ∙ sym too)

-- ---- durations

-- A core that ends at the end of the text or at a `[` does not begin like a duration.
whole_no_duration : (profile : Profile) (kind : CoreKind) (text : Text) → Whole kind text → some (IsDuration profile) text → ⊥
whole_no_duration profile kind text (found, pairs, h) (duration, d) =
    let ends = tail_ends _ h.brackets h.zone pairs h.is_tail in
    no_duration h.cores h.brackets d.start _ d.sign (core_inside kind h.cores h.core h.is_core) ends d.is_start (sym h.is ∙ d.is)

-- ---- all of the readers

whole_of : (kind : CoreKind) (text : Text) → InLanguage (bracketed kind) text → Whole kind text
whole_of kind text (found, pairs, as_parsed h) = (_, pairs, h)

duration_of : (profile : Profile) (text : Text) → InLanguage (parse_duration profile) text → some (IsDuration profile) text
duration_of profile text (found, pairs, as_lasting h) = (_, h)

pub languages_disjoint : LanguagesDisjoint
languages_disjoint profile text (bracketed first) (bracketed second) is too h k =
    ap bracketed (same_kind profile first second is too text (whole_of first text h) (whole_of second text k))
languages_disjoint profile text (bracketed first) (parse_duration second) is too h k =
    absurd (whole_no_duration second first text (whole_of first text h) (duration_of second text k))
languages_disjoint profile text (parse_duration first) (bracketed second) is too h k =
    absurd (whole_no_duration first second text (whole_of second text k) (duration_of first text h))
languages_disjoint profile text (parse_duration first) (parse_duration second) is too h k = ap parse_duration (is ∙ sym too)
languages_disjoint profile text parse_rfc3339 second is too h k = absurd is
languages_disjoint profile text parse_offset second is too h k = absurd is
languages_disjoint profile text parse_identifier second is too h k = absurd is
languages_disjoint profile text parse_iana_identifier second is too h k = absurd is
languages_disjoint profile text first second is too h k = absurd too

-- A text in the language of one of these readers is in the language of no other one.
pub in_no_other : (profile : Profile) (reader : Reader) (text : Text) → InLanguage reader text → InNoOther profile reader text
in_no_other profile reader text h is other too differ k = differ (languages_disjoint profile text reader other is too h k)
