-- How long the parts of a canonical text are.
use Rattle.std.proofs.Common.{◌+◌, ◌≡◌, ◌↔◌, ◌⊎◌, ℤ, pos, negsuc, false, ◌<◌, length, Some, refl, arith, nat_le, inl, inr}
use Rattle.std.proofs.lemmas.{Bool.Decides.nat_tests, Int.ints, List.length-append}
use Rattle.std.specs.Prelude.{◌≤ℤ◌, ◌<ℤ◌}
use Rattle.ixdtf_grammar.specs.declared.records.{DateRecord.DateRecord, FullPrecisionOffset.FullPrecisionOffset, MinutePrecisionOffset.MinutePrecisionOffset}
use Rattle.ixdtf_grammar.specs.declared.records.TimeRecord.{TimeRecord}
use Rattle.ixdtf.specs.language.{Letters.Letter, Fractions.FractionParts, Languages.Parsed}
use Rattle.ixdtf_print.specs.Canonical.{year_text, date_text, fraction_text, time_text, minute_offset_text, full_offset_text, offset_text, bracket_text}
use Rattle.ixdtf_print.specs.Canonical.{calendar_text, brackets_text, optional_date_text, core_text, canonical_text}
use Rattle.ixdtf_print.proofs.{parts.DerivedDates.{fraction_long, year_few, date_long}, parts.DerivedTimes.{minutes_long, clock_long}}

pub some_fraction_long : (fraction : FractionParts) → length (fraction_text (Some fraction)) ≡ 1 + fraction.count
some_fraction_long fraction = omega (arith, fraction_long fraction)

pub some_time_long : (time : TimeRecord) → length (time_text (Some time)) ≡ 9 + length (fraction_text time.fraction)
some_time_long time = omega (arith, clock_long time.hour time.minute time.second time.fraction)

pub minute_offset_long : (offset : MinutePrecisionOffset) → length (minute_offset_text offset) ≡ 6
minute_offset_long offset = omega (arith, minutes_long offset.hour offset.minute)

pub full_offset_long : (offset : FullPrecisionOffset) → length (full_offset_text offset) ≡ 9 + length (fraction_text offset.fraction)
full_offset_long offset = omega (arith, clock_long offset.minute_precision_offset.hour offset.minute_precision_offset.minute offset.second offset.fraction)

pub year_four : (year : ℤ) → pos 0 ≤ℤ year → year ≤ℤ pos 9999 → length (year_text year) ≡ 4
year_four (pos n) from to = year_few n (omega (arith, ints))
year_four (negsuc n) from to = absurd (omega (arith, ints))

pub year_seven : (year : ℤ) → ((pos 9999 <ℤ year) ⊎ (year <ℤ pos 0)) → length (year_text year) ≡ 7
unfolding year_text
year_seven (pos n) (inl h) =
    let later : 9999 < n = omega (arith, ints) in
    let test : nat_le n 9999 ≡ false = grind (arith, nat_tests, later) in
    rw test refl
year_seven (pos n) (inr h) = absurd (omega (arith, ints))
year_seven (negsuc n) h = refl

pub four_digit_date_long : (date : DateRecord) → pos 0 ≤ℤ date.year → date.year ≤ℤ pos 9999 → length (date_text date) ≡ 10
four_digit_date_long date from to = omega (arith, date_long date, year_four date.year from to)

pub signed_date_long : (date : DateRecord) → ((pos 9999 <ℤ date.year) ⊎ (date.year <ℤ pos 0)) → length (date_text date) ≡ 13
signed_date_long date h = omega (arith, date_long date, year_seven date.year h)

pub core_long : (found : Parsed) → length (core_text found)
    ≡ length (optional_date_text found.date) + length (time_text found.time) + length (offset_text found.offset)
unfolding core_text
core_long found = omega (arith, length-append {A = Letter})

pub brackets_long : (found : Parsed) → length (brackets_text found) ≡ length (bracket_text found.zone) + length (calendar_text found.calendar)
brackets_long found = length-append (bracket_text found.zone) (calendar_text found.calendar)

pub canonical_long : (found : Parsed) → length (canonical_text found) ≡ length (core_text found) + length (brackets_text found)
unfolding canonical_text
canonical_long found = length-append (core_text found) (brackets_text found)

-- If a text is short whenever there is one, its length is always counted.
pub always_counted : {A P F : Type 0} → A ↔ ¬ (P × F) → (P → F) → A ↔ ¬ P
always_counted both short = (λ a p. both.0 a (p, short p), λ none. both.1 (λ h. none h.0))

pub ruleset lengths = (
  some_fraction_long,
  some_time_long,
  minute_offset_long,
  full_offset_long,
  four_digit_date_long,
  signed_date_long,
  core_long,
  brackets_long,
  canonical_long,
)
