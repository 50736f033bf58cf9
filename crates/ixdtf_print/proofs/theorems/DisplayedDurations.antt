-- The code units of the canonical text of a duration that has one are from 1 to 126, so it is displayed as it is.
use Rattle.std.proofs.Common.{ℕ, suc, subst, sym, ◌<◌, ◌^◌, ◌≡◌, IsTrue, Bool, true, false, cond, nat_eq, [], ◌∷◌, ◌++◌, map, codes, Option, Some, None, refl, arith}
use Rattle.std.proofs.lemmas.Bool.Decides.{nat_tests}
use Rattle.ixdtf_grammar.specs.declared.records.{DurationParseRecord.DurationParseRecord, DateDurationRecord.DateDurationRecord, Sign.{Sign, TheVariants.{Positive, Negative}}}
use Rattle.ixdtf_grammar.specs.declared.records.TimeDurationRecord.{TimeDurationRecord, TheVariants.{Hours, Minutes, Seconds}}
use Rattle.ixdtf.specs.Widths.{is_shared}
use Rattle.ixdtf.specs.language.{Letters.{digit, decimal_mark, Letter.Plain}, Fractions.FractionParts}
use Rattle.ixdtf_grammar.proofs.parts.Classes.{AllOf, Within, all_append, all_within, all_digits}
use Rattle.ixdtf_print.specs.{Canonical.fraction_text, Shown.bytes_of, Spelled.HasDigits}
use Rattle.ixdtf_print.specs.Durations.{number_text, unit_text, date_units_text, has_no_unit, date_part_text, last_text, time_units_text, time_part_text}
use Rattle.ixdtf_print.specs.{Durations.{start_text, duration_text}, SpelledDurations.{AreDateUnits, HasDateUnits, AreTimeUnits, HasTimeUnits, AreParts}}
use Rattle.ixdtf_print.proofs.{code.PlainNumbers.is_number, theorems.{DisplayedText.{shared_ascii, shown_as_it_is}, ReadBack.is_fraction}}

pub shared_digit : Within digit is_shared
shared_digit c h = grind (arith, nat_tests, h)

shared_number : (n : ℕ) → n < 2 ^ 64 → AllOf is_shared (number_text n)
shared_number n small = let is = is_number n small in all_digits shared_digit (suc is.0.0) _ is.0.1

shared_unit : (n c : ℕ) → n < 2 ^ 64 → IsTrue (is_shared c) → AllOf is_shared (unit_text n c)
shared_unit n c small letter = by_test (nat_eq n 0)
  where
    by_test : (b : Bool) → AllOf is_shared (cond b [] (number_text n ++ (Plain c ∷ [])))
    by_test true = tt
    by_test false = all_append is_shared (number_text n) _ (shared_number n small) (letter, tt)

shared_mark : (c : ℕ) → IsTrue (decimal_mark c) → IsTrue (is_shared c)
shared_mark c h = grind (arith, nat_tests, h)

pub shared_fraction : (fraction : Option FractionParts) → HasDigits fraction → AllOf is_shared (fraction_text fraction)
shared_fraction None h = tt
shared_fraction (Some fraction) h =
    let is = is_fraction fraction h in subst (AllOf is_shared) (sym is.is) (shared_mark is.mark is.marks, all_digits shared_digit (suc is.some.0) _ is.some.1)

shared_last : (n c : ℕ) (fraction : Option FractionParts) → n < 2 ^ 64 → HasDigits fraction → IsTrue (is_shared c) → AllOf is_shared (last_text n fraction c)
unfolding last_text
shared_last n c fraction small h letter =
    all_append is_shared (number_text n) _ (shared_number n small) (all_append is_shared (fraction_text fraction) _ (shared_fraction fraction h) (letter, tt))

shared_units : (found : DateDurationRecord) → AreDateUnits found → AllOf is_shared (date_units_text found)
unfolding date_units_text
shared_units found h =
    all_append is_shared (unit_text found.years 89) _ (shared_unit found.years 89 (omega (arith, h.years)) refl)
    (all_append is_shared (unit_text found.months 77) _ (shared_unit found.months 77 (omega (arith, h.months)) refl)
    (all_append is_shared (unit_text found.weeks 87) _ (shared_unit found.weeks 87 (omega (arith, h.weeks)) refl) (shared_unit found.days 68 h.days refl)))

shared_date : (found : Option DateDurationRecord) → HasDateUnits found → AllOf is_shared (date_part_text found)
shared_date None h = tt
shared_date (Some found) h = by_test (has_no_unit found)
  where
    by_test : (b : Bool) → AllOf is_shared (cond b (map Plain (codes "0D")) (date_units_text found))
    by_test true = (refl, (refl, tt))
    by_test false = shared_units found h

shared_time : (found : TimeDurationRecord) → AreTimeUnits found → AllOf is_shared (time_units_text found)
shared_time (Hours h fraction) at = shared_last h 72 fraction at.0 at.1 refl
shared_time (Minutes h m fraction) at = all_append is_shared (unit_text h 72) _ (shared_unit h 72 at.0 refl) (shared_last m 77 fraction at.1 at.2 refl)
shared_time (Seconds h m s fraction) at =
    all_append is_shared (unit_text h 72) _ (shared_unit h 72 at.0 refl)
    (all_append is_shared (unit_text m 77) _ (shared_unit m 77 at.1 refl) (shared_last s 83 fraction at.2 at.3 refl))

shared_time_part : (found : Option TimeDurationRecord) → HasTimeUnits found → AllOf is_shared (time_part_text found)
shared_time_part None h = tt
shared_time_part (Some found) h = (refl, shared_time found h)

shared_start : (s : Sign) → AllOf is_shared (start_text s)
shared_start Positive = (refl, tt)
shared_start Negative = (refl, (refl, tt))

pub shared_duration : (duration : DurationParseRecord) → AreParts duration.date duration.time → AllOf is_shared (duration_text duration)
unfolding duration_text
shared_duration duration h =
    all_append is_shared (start_text duration.sign) _ (shared_start duration.sign)
    (all_append is_shared (date_part_text duration.date) _ (shared_date duration.date h.date) (shared_time_part duration.time h.time))

pub duration_is_shown : (duration : DurationParseRecord) → AreParts duration.date duration.time → map Plain (bytes_of (duration_text duration)) ≡ duration_text duration
duration_is_shown duration h = shown_as_it_is (duration_text duration) (all_within shared_ascii (duration_text duration) (shared_duration duration h))
