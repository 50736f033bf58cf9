-- The canonical text of a duration that has one is short.
use Rattle.std.proofs.Common.{ℕ, ◌+◌, ◌<◌, ◌≤◌, ◌^◌, length, Option, Some, None, arith}
use Rattle.std.proofs.lemmas.Fmt.{length-decimal-le}
use Rattle.ixdtf_grammar.specs.declared.records.{DurationParseRecord.DurationParseRecord, DateDurationRecord.DateDurationRecord}
use Rattle.ixdtf_grammar.specs.declared.records.{Sign.{Sign, TheVariants.{Positive, Negative}}, TimeDurationRecord.{TimeDurationRecord, TheVariants.{Hours, Minutes, Seconds}}}
use Rattle.ixdtf.specs.language.{Letters.Letter, Fractions.FractionParts}
use Rattle.ixdtf_print.specs.Durations.{number_text, unit_text, date_part_text, last_text, time_units_text, time_part_text, last_fraction, start_text, duration_text}
use Rattle.ixdtf_print.specs.{Canonical.fraction_text, Durations.IsPrintableDuration, Spelled.HasDigits, SpelledDurations.{HasDateUnits, AreTimeUnits, HasTimeUnits}}
use Rattle.ixdtf_print.proofs.{code.PlainNumbers.number_long, parts.DerivedDurations.{unit_most, units_long, part_long, last_long, duration_long}}
use Rattle.ixdtf_print.proofs.theorems.{PrintableDurations.printable_duration, ShortCores.fraction_short}
use Rattle.std.proofs.lemmas.List.{length-append}

number_short : (n : ℕ) → n < 2 ^ 64 → length (number_text n) ≤ 20
number_short n small = omega (arith, number_long n, length-decimal-le 20 n (omega arith) (omega arith) small)

unit_short : (n c : ℕ) → n < 2 ^ 64 → length (unit_text n c) ≤ 21
unit_short n c small = omega (arith, unit_most n c, number_short n small)

short_number : (n : ℕ) → n < 2 ^ 32 → length (number_text n) ≤ 10
short_number n small = omega (arith, number_long n, length-decimal-le 10 n (omega arith) (omega (arith, small)) (omega (arith, small)))

short_unit : (n c : ℕ) → n < 2 ^ 32 → length (unit_text n c) ≤ 11
short_unit n c small = omega (arith, unit_most n c, short_number n small)

date_short : (found : Option DateDurationRecord) → HasDateUnits found → length (date_part_text found) ≤ 54
date_short None h = omega arith
date_short (Some found) h =
    let y = short_unit found.years 89 h.years in
    let m = short_unit found.months 77 h.months in
    let w = short_unit found.weeks 87 h.weeks in
    let d = unit_short found.days 68 h.days in
    part_long found 54 (omega arith) (omega (arith, units_long found, y, m, w, d))

last_short : (n c : ℕ) (fraction : Option FractionParts) → n < 2 ^ 64 → length (last_text n fraction c) ≤ 21 + length (fraction_text fraction)
last_short n c fraction small = omega (arith, last_long n fraction c, number_short n small)

time_short : (found : TimeDurationRecord) → AreTimeUnits found → length (time_units_text found) ≤ 63 + length (fraction_text (last_fraction (Some found)))
time_short (Hours h fraction) at = omega (arith, last_short h 72 fraction at.0)
time_short (Minutes h m fraction) at = omega (arith, length-append {A = Letter}, unit_short h 72 at.0, last_short m 77 fraction at.1)
time_short (Seconds h m s fraction) at =
    omega (arith, length-append {A = Letter}, unit_short h 72 at.0, unit_short m 77 at.1, last_short s 83 fraction at.2)

time_part_short : (found : Option TimeDurationRecord) → HasTimeUnits found
    → length (time_part_text found) ≤ 64 + length (fraction_text (last_fraction found))
time_part_short None h = omega arith
time_part_short (Some found) h = omega (arith, time_short found h)

start_short : (s : Sign) → length (start_text s) ≤ 2
start_short Positive = omega arith
start_short Negative = omega arith

pub duration_short : (duration : DurationParseRecord) → IsPrintableDuration duration
    → length (duration_text duration) ≤ 120 + length (fraction_text (last_fraction duration.time))
duration_short duration is =
    let parts = (printable_duration duration).0 is in
    omega (arith, duration_long duration, start_short duration.sign, date_short duration.date parts.date, time_part_short duration.time parts.time)

last_digits : (found : Option TimeDurationRecord) → HasTimeUnits found → HasDigits (last_fraction found)
last_digits None h = tt
last_digits (Some (Hours h fraction)) at = at.1
last_digits (Some (Minutes h m fraction)) at = at.2
last_digits (Some (Seconds h m s fraction)) at = at.3

pub duration_most : (duration : DurationParseRecord) → IsPrintableDuration duration → length (duration_text duration) ≤ 376
duration_most duration is =
    let parts = (printable_duration duration).0 is in
    omega (arith, duration_short duration is, fraction_short (last_fraction duration.time) (last_digits duration.time parts.time))
