-- How long the parts of the canonical text of a time, of a year and a month, and of a month and a day are.
use Rattle.std.proofs.Common.{◌+◌, ◌≡◌, ◌⊎◌, pos, length, Some, arith}
use Rattle.std.proofs.lemmas.List.{length-append}
use Rattle.std.specs.Prelude.{◌≤ℤ◌, ◌<ℤ◌}
use Rattle.ixdtf_grammar.specs.declared.records.{DateRecord.DateRecord, TimeRecord.TimeRecord}
use Rattle.ixdtf.specs.language.{Letters.Letter, Languages.Parsed}
use Rattle.ixdtf_print.specs.Canonical.{fraction_text, offset_text, brackets_text}
use Rattle.ixdtf_print.specs.{MonthDays.{optional_day_text, month_day_text}, Times.{unmarked_time_text, time_core_text, lone_time_text}}
use Rattle.ixdtf_print.specs.YearMonths.{month_text, optional_month_text, year_month_text}
use Rattle.ixdtf_print.proofs.{parts.DerivedTimes.clock_long, code.CanonicalLengths.{year_four, year_seven}, theorems.PrintableYearMonths.month_long}
use Rattle.ixdtf_print.proofs.theorems.PrintableMonthDays.{day_long}

pub unmarked_time_long : (time : TimeRecord) → length (unmarked_time_text (Some time)) ≡ 8 + length (fraction_text time.fraction)
unmarked_time_long time = omega (arith, clock_long time.hour time.minute time.second time.fraction)

pub time_core_long : (found : Parsed) → length (time_core_text found) ≡ length (unmarked_time_text found.time) + length (offset_text found.offset)
unfolding time_core_text
time_core_long found = omega (arith, length-append {A = Letter})

pub lone_time_long : (found : Parsed) → length (lone_time_text found) ≡ length (time_core_text found) + length (brackets_text found)
unfolding lone_time_text
lone_time_long found = omega (arith, length-append (time_core_text found) (brackets_text found))

pub four_digit_month_long : (date : DateRecord) → pos 0 ≤ℤ date.year → date.year ≤ℤ pos 9999 → length (month_text date) ≡ 7
four_digit_month_long date from to = omega (arith, month_long date, year_four date.year from to)

pub signed_month_long : (date : DateRecord) → ((pos 9999 <ℤ date.year) ⊎ (date.year <ℤ pos 0)) → length (month_text date) ≡ 10
signed_month_long date h = omega (arith, month_long date, year_seven date.year h)

pub year_month_long : (found : Parsed) → length (year_month_text found) ≡ length (optional_month_text found.date) + length (brackets_text found)
unfolding year_month_text
year_month_long found = omega (arith, length-append (optional_month_text found.date) (brackets_text found))

pub optional_day_long : (date : DateRecord) → length (optional_day_text (Some date)) ≡ 5
optional_day_long date = day_long date

pub month_day_long : (found : Parsed) → length (month_day_text found) ≡ length (optional_day_text found.date) + length (brackets_text found)
unfolding month_day_text
month_day_long found = omega (arith, length-append (optional_day_text found.date) (brackets_text found))

pub ruleset lone_lengths = (
  unmarked_time_long,
  time_core_long,
  lone_time_long,
  four_digit_month_long,
  signed_month_long,
  year_month_long,
  optional_day_long,
  month_day_long,
)
