-- The month-days that have a text are those whose fields have texts, and the canonical text is one of these texts.
use Rattle.std.proofs.Common.{◌+◌, ◌≤◌, ◌≡◌, ◌↔◌, Bool, IsTrue, [], ◌∷◌, ◌++◌, length, Option, Some, None, refl, inl, inr, arith, pos}
use Rattle.std.proofs.lemmas.List.{length-append}
use Rattle.ixdtf_grammar.specs.declared.profile.Profile.{Profile, TheVariants.Crate}
use Rattle.ixdtf_grammar.specs.declared.records.{DateRecord.DateRecord, TimeRecord.TimeRecord, UtcOffsetRecordOrZ.UtcOffsetRecordOrZ}
use Rattle.ixdtf.specs.language.{Letters.{Letter, Text, Letter.Plain}, Months.IsMonthDay, Cores.{Core, core_of, DateAlone}}
use Rattle.ixdtf.specs.language.{Languages.Parsed, Readers.CoreKind.month_day}
use Rattle.ixdtf_grammar.proofs.theorems.CoreSizes.{digits_long}
use Rattle.ixdtf_print.specs.{Canonical.{two_digits, brackets_text}, Printing.{HasText, TestsText}, SpelledCores.{IsDayOfAnyYear, HasLoneDay, IsSpelledAs}}
use Rattle.ixdtf_print.specs.MonthDays.{day_text, optional_day_text, month_day_text, IsMonthDayText, IsPrintableMonthDay, IsMonthDayReadBack, MonthDayFits, MonthDayIsReadBack}
use Rattle.ixdtf_print.proofs.{parts.PaddedDigits.two_are, theorems.ReadBack.month_length_most}
use Rattle.ixdtf_print.proofs.theorems.BracketedRecords.{Written, tests, printable, read_back, fits}

is_day : (profile : Profile) (date : DateRecord) → IsDayOfAnyYear profile date → IsMonthDay profile (day_text date) date
unfolding day_text
is_day profile date d = (
  record {
    marks = [];
    months = two_digits date.month;
    hyphens = Plain 45 ∷ [];
    days = two_digits date.day;
    is = refl;
    mark = inl refl;
    month = (two_are date.month (omega (arith, d.month_to)), d.month_from, d.month_to);
    hyphen = inr (45, refl, refl);
    day = two_are date.day (omega (arith, d.day.1, month_length_most (pos 0) date.month));
    no_year = d.year;
  },
  d.day,
)

pub is_core : (profile : Profile) (date : Option DateRecord) (time : Option TimeRecord) (offset : Option UtcOffsetRecordOrZ) → HasLoneDay profile date time offset
    → DateAlone (IsMonthDay profile) (optional_day_text date) (core_of date time offset)
is_core profile None time offset h = absurd h
is_core profile (Some date) None None h = (date, is_day profile date h, refl)
is_core profile (Some date) None (Some offset) h = absurd h
is_core profile (Some date) (Some time) offset h = absurd h

pub day_long : (date : DateRecord) → length (day_text date) ≡ 5
unfolding day_text two_digits
day_long date = refl

of_day : (profile : Profile) (text : Text) (date : DateRecord) → IsMonthDay profile text date → IsDayOfAnyYear profile date × (length (day_text date) ≤ length text + 1)
of_day profile text date (h, day) = (
  record { year = h.no_year; month_from = h.month.1; month_to = h.month.2; day = day },
  rw h.is (omega (arith, day_long date, digits_long 2 _ h.month.0.0, digits_long 2 _ h.day.0, length-append {A = Letter})),
)

pub of_core : (profile : Profile) (text : Text) (core : Core) → DateAlone (IsMonthDay profile) text core
    → HasLoneDay profile core.date core.time core.offset × (length (optional_day_text core.date) ≤ length text + 1)
of_core profile text core (date, h, has) = rw has (of_day profile text date h)

pub is_whole : (found : Parsed) → month_day_text found ≡ optional_day_text found.date ++ brackets_text found
unfolding month_day_text
is_whole found = refl

-- The cores of `parse_month_day`.
abbrev pub lone_day : Profile → Written
lone_day profile = record {
  kind = month_day profile;
  any_zone = refl;
  has_core = HasLoneDay profile;
  core_text = λ core. optional_day_text core.date;
  text_of = month_day_text;
  more = 1;
  whole = is_whole;
  is_core = λ core h. is_core profile core.date core.time core.offset h;
  of_core = of_core profile;
}

pub month_day_is_read_back : MonthDayIsReadBack
month_day_is_read_back profile = read_back (lone_day profile)

pub month_day_reads_back : (found : Parsed) → IsPrintableMonthDay found → IsMonthDayReadBack found
month_day_reads_back found h = record {
  same = read_back (lone_day Crate) found h;
  profiles = λ profile k. read_back (lone_day profile) found k;
}

-- A day of any year under some profile is also one under the default profile.
any_profile : (profile : Profile) (date : Option DateRecord) (time : Option TimeRecord) (offset : Option UtcOffsetRecordOrZ)
    → HasLoneDay profile date time offset → HasLoneDay Crate date time offset
any_profile profile None time offset none = absurd none
any_profile profile (Some date) None None h =
    record { year = h.year; month_from = h.month_from; month_to = h.month_to; day = (omega arith, h.day.1) }
any_profile profile (Some date) None (Some offset) none = absurd none
any_profile profile (Some date) (Some time) offset none = absurd none

-- A record that `parse_month_day` returns under some profile is printable.
pub month_day_printable : (profile : Profile) (found : Parsed) → HasText (IsMonthDayText profile) found → IsPrintableMonthDay found
month_day_printable profile found h =
    let (core, brackets) = (printable (lone_day profile) found).0 h in
    (printable (lone_day Crate) found).1 (any_profile profile found.date found.time found.offset core, brackets)

pub month_day_fits : MonthDayFits
month_day_fits profile = fits (lone_day profile)

-- A test of the fields tells which records are printable.
pub tests_month_day : {test : Bool} (found : Parsed) → IsTrue test ↔ IsSpelledAs (HasLoneDay Crate) found
    → TestsText test (IsPrintableMonthDay found) (IsMonthDayReadBack found) (month_day_text found)
tests_month_day found = tests (lone_day Crate) found (month_day_reads_back found)
