-- The year-months that have a text are those whose fields have texts, and the canonical text is one of these texts.
use Rattle.std.proofs.Common.{◌+◌, ◌≤◌, ◌≡◌, ◌↔◌, Bool, IsTrue, [], ◌∷◌, ◌++◌, length, Option, Some, None, refl, inr, arith}
use Rattle.std.proofs.lemmas.List.{length-append}
use Rattle.ixdtf_grammar.specs.declared.records.{DateRecord.DateRecord, TimeRecord.TimeRecord, UtcOffsetRecordOrZ.UtcOffsetRecordOrZ}
use Rattle.ixdtf.specs.language.{Letters.{Letter, Text, Letter.Plain}, Months.{IsYearMonth}, Cores.{Core, core_of, DateAlone}}
use Rattle.ixdtf.specs.language.{Languages.Parsed, Readers.CoreKind.year_month}
use Rattle.ixdtf_grammar.proofs.theorems.CoreSizes.{digits_long}
use Rattle.ixdtf_print.specs.{Canonical.{two_digits, year_text, brackets_text}, Printing.TestsText, SpelledCores.{IsFirstDay, HasLoneMonth, IsSpelledAs}}
use Rattle.ixdtf_print.specs.YearMonths.{month_text, optional_month_text, year_month_text, IsPrintableYearMonth, IsYearMonthReadBack, YearMonthFits, YearMonthIsReadBack}
use Rattle.ixdtf_print.proofs.{parts.DerivedDates.of_year, parts.PaddedDigits.two_are, theorems.ReadBack.is_year}
use Rattle.ixdtf_print.proofs.theorems.BracketedRecords.{Written, tests, read_back, fits}

is_month : (date : DateRecord) → IsFirstDay date → IsYearMonth (month_text date) date
unfolding month_text
is_month date d = record {
  years = year_text date.year;
  hyphens = Plain 45 ∷ [];
  months = two_digits date.month;
  is = refl;
  year = is_year date.year d.year;
  hyphen = inr (45, refl, refl);
  month = (two_are date.month (omega (arith, d.month_to)), d.month_from, d.month_to);
  first_day = d.day;
}

pub is_core : (date : Option DateRecord) (time : Option TimeRecord) (offset : Option UtcOffsetRecordOrZ) → HasLoneMonth date time offset
    → DateAlone IsYearMonth (optional_month_text date) (core_of date time offset)
is_core None time offset h = absurd h
is_core (Some date) None None h = (date, is_month date h, refl)
is_core (Some date) None (Some offset) h = absurd h
is_core (Some date) (Some time) offset h = absurd h

pub month_long : (date : DateRecord) → length (month_text date) ≡ length (year_text date.year) + 3
unfolding month_text two_digits
month_long date = omega (arith, length-append {A = Letter})

of_month : (text : Text) (date : DateRecord) → IsYearMonth text date → IsFirstDay date × (length (month_text date) ≤ length text + 1)
of_month text date h =
    let year = of_year h.years date.year h.year in (
      record { year = year.0; month_from = h.month.1; month_to = h.month.2; day = h.first_day },
      rw h.is (omega (arith, year.1, month_long date, digits_long 2 _ h.month.0.0, length-append {A = Letter})),
    )

pub of_core : (text : Text) (core : Core) → DateAlone IsYearMonth text core
    → HasLoneMonth core.date core.time core.offset × (length (optional_month_text core.date) ≤ length text + 1)
of_core text core (date, h, has) = rw has (of_month text date h)

pub is_whole : (found : Parsed) → year_month_text found ≡ optional_month_text found.date ++ brackets_text found
unfolding year_month_text
is_whole found = refl

-- The cores of `parse_year_month`.
abbrev pub lone_month : Written
lone_month = record {
  kind = year_month;
  any_zone = refl;
  has_core = HasLoneMonth;
  core_text = λ core. optional_month_text core.date;
  text_of = year_month_text;
  more = 1;
  whole = is_whole;
  is_core = λ core h. is_core core.date core.time core.offset h;
  of_core = of_core;
}

pub year_month_is_read_back : YearMonthIsReadBack
year_month_is_read_back = read_back lone_month

pub year_month_fits : YearMonthFits
year_month_fits = fits lone_month

-- A test of the fields tells which records are printable.
pub tests_year_month : {test : Bool} (found : Parsed) → IsTrue test ↔ IsSpelledAs HasLoneMonth found
    → TestsText test (IsPrintableYearMonth found) (IsYearMonthReadBack found) (year_month_text found)
tests_year_month found = tests (lone_month) found (year_month_is_read_back found)
