-- The canonical text of a record that the reader of RFC 9557 reads is a text of RFC 9557.
use Rattle.std.proofs.Common.{ℕ, ◌<◌, ◌≤◌, ◌≡◌, ◌^◌, true, ℤ, pos, []}
use Rattle.std.proofs.Common.{◌∷◌, ◌++◌, Option, Some, None, refl, sym, ap, inl, inr, arith, nat_le, subst}
use Rattle.std.proofs.lemmas.Bool.Decides.{nat_tests}
use Rattle.ixdtf_grammar.specs.declared.records.{DateRecord.DateRecord, MinutePrecisionOffset.MinutePrecisionOffset, TimeRecord.TimeRecord}
use Rattle.ixdtf_grammar.specs.declared.records.UtcOffsetRecordOrZ.{UtcOffsetRecordOrZ}
use Rattle.ixdtf_grammar.proofs.PaddedDigits.{decimal-whole}
use Rattle.ixdtf.specs.language.{Letters.{Text, Letter.Plain}, Digits.{decimal, padded_digits}, Dates.FourDigitYear, Fractions.{FractionParts, IsFraction}}
use Rattle.ixdtf.specs.language.DateTimes.{IsFullDate, IsSecfrac, OptionalSecfrac, IsPartialTime, IsNumOffset, IsTimeOffset}
use Rattle.ixdtf.specs.language.{ZoneNames.{Zone, IsExactZone, IsPartedName, Zone.{Name, Offset}}, Brackets.{ZoneNote, OptionalBracket}}
use Rattle.ixdtf.specs.language.{Cores.{Core, IsDateTime}, Languages.Parsed, Readers.CoreKind.internet_date_time}
use Rattle.ixdtf_print.specs.Canonical.{two_digits, year_text, date_text, minutes_text, seconds_text, fraction_digits, fraction_text, clock_text, mark_of}
use Rattle.ixdtf_print.specs.Canonical.{time_text, minute_offset_text, offset_text, zone_text, opening_text, bracket_text, optional_date_text, core_text, canonical_text}
use Rattle.ixdtf_print.specs.Laws.{Rfc9557IsReadBack}
use Rattle.ixdtf_print.proofs.parts.{PaddedDigits.{padded_are, two_are, up_to}, DerivedDates.{decimal_below, of_fraction}, DerivedTimes.of_bracket}
use Rattle.ixdtf_print.proofs.{parts.ParsedParts.{HasParts, to_parts, of_parts, one_record}, theorems.{OneTexts.has_one_text, PrintableRecords.{core_in, core_of_parts, of_brackets}}}
use Rattle.ixdtf_print.proofs.theorems.ReadBack.{month_length_most, is_fraction, is_sign, opens, is_bracket, parts_read_back}

-- ---- dates

four_digits : (n : ℕ) → n ≤ 9999 → FourDigitYear (year_text (pos n)) (pos n)
unfolding year_text
four_digits n small =
    let few : nat_le n 9999 ≡ true = grind (arith, nat_tests, small) in
    let same : decimal (padded_digits 4 n) ≡ n = decimal-whole 4 n (omega arith) in
    rw few (padded_are 4 n, ap pos (sym same))

four_digit_year : (text : Text) (year : ℤ) → FourDigitYear text year → FourDigitYear (year_text year) year
four_digit_year text year h =
    let small : decimal text < 10 ^ 4 = decimal_below 4 text h.0 in
    rw h.1 (four_digits (decimal text) (omega (arith, small)))

full_date : (text : Text) (date : DateRecord) → IsFullDate text date → IsFullDate (date_text date) date
unfolding date_text
full_date text date (h, day) = (
  record {
    years = year_text date.year;
    months = two_digits date.month;
    days = two_digits date.day;
    is = refl;
    year = four_digit_year h.years date.year h.year;
    month = (two_are date.month (omega (arith, h.month.2)), h.month.1, h.month.2);
    day = two_are date.day (omega (arith, day.1, month_length_most date.year date.month));
  },
  day,
)

-- ---- times

secfrac : (text : Text) (fraction : FractionParts) → IsSecfrac text fraction → IsSecfrac (fraction_text (Some fraction)) fraction
secfrac text fraction h =
    let read : IsFraction text fraction = record { mark = 46; ds = h.ds; is = h.is; marks = refl; some = h.some; value = h.value } in
    let written = is_fraction fraction (of_fraction text fraction read).0 in
    let same : written.ds ≡ fraction_digits fraction = cc (written.is) in
    record { ds = fraction_digits fraction; is = refl; some = rw same at written.some; value = rw same at written.value }

optional_secfrac : (text : Text) (fraction : Option FractionParts) → OptionalSecfrac text fraction → OptionalSecfrac (fraction_text fraction) fraction
optional_secfrac text None h = refl
optional_secfrac text (Some fraction) h = secfrac text fraction h

partial_time : (text : Text) (time : TimeRecord) → IsPartialTime text time → IsPartialTime (clock_text time.hour time.minute time.second time.fraction) time
unfolding clock_text seconds_text two_digits
partial_time text time h = record {
  hs = two_digits time.hour;
  ms = two_digits time.minute;
  ss = two_digits time.second;
  part = fraction_text time.fraction;
  is = refl;
  hour = up_to 23 time.hour (omega arith) h.hour.2;
  minute = up_to 59 time.minute (omega arith) h.minute.2;
  second = up_to 60 time.second (omega arith) h.second.2;
  fraction = optional_secfrac h.part time.fraction h.fraction;
}

-- ---- offsets

num_offset : (text : Text) (offset : MinutePrecisionOffset) → IsNumOffset text offset → IsNumOffset (minute_offset_text offset) offset
unfolding minutes_text
num_offset text offset h = record {
  c = mark_of offset.sign;
  hs = two_digits offset.hour;
  ms = two_digits offset.minute;
  is = refl;
  signed = (is_sign offset.sign).0;
  hour = up_to 23 offset.hour (omega arith) h.hour.2;
  minute = up_to 59 offset.minute (omega arith) h.minute.2;
  value = (is_sign offset.sign).1;
}

time_offset : (text : Text) (offset : UtcOffsetRecordOrZ) → IsTimeOffset text offset → IsTimeOffset (offset_text (Some offset)) offset
time_offset text offset (inl (z, is)) = rw is (inl ((90, refl, refl), refl))
time_offset text offset (inr (minutes, h, is)) = rw is (inr (minutes, num_offset text minutes h, refl))

-- ---- cores

date_time : (text : Text) (core : Core) → IsDateTime text core
    → IsDateTime (optional_date_text core.date ++ (time_text core.time ++ offset_text core.offset)) core
date_time text core h = rw h.has (record {
  dates = date_text h.date;
  letters = Plain 84 ∷ [];
  times = clock_text h.time.hour h.time.minute h.time.second h.time.fraction;
  offsets = offset_text (Some h.offset);
  date = h.date;
  time = h.time;
  offset = h.offset;
  is = refl;
  is_date = full_date h.dates h.date h.is_date;
  separates = (84, refl, refl);
  is_time = partial_time h.times h.time h.is_time;
  is_offset = time_offset h.offsets h.offset h.is_offset;
  has = refl;
})

-- ---- brackets

exact_zone : (text : Text) (zone : Zone) → IsExactZone text zone → IsExactZone (zone_text zone) zone
exact_zone text (Name name) h = (subst IsPartedName h.1 h.0, refl)
exact_zone text (Offset offset) h = num_offset text offset h

exact_bracket : (text : Text) (note : Option ZoneNote) → OptionalBracket true text note → OptionalBracket true (bracket_text note) note
exact_bracket text None h = refl
exact_bracket text (Some note) h = (
  (is_bracket (Some note) (of_bracket true text (Some note) h).0).0,
  record {
    start = opening_text note.critical;
    inside = zone_text note.zone;
    is = refl;
    opens = opens note.critical;
    zone = exact_zone h.1.inside note.zone h.1.zone;
  },
)

-- ---- records

parts_of : (text : Text) (found : Parsed) → HasParts internet_date_time text found → HasParts internet_date_time (canonical_text found) found
unfolding canonical_text core_text
parts_of text found h =
    let zone = subst (λ read. OptionalBracket true (bracket_text read.zone) read.zone) (sym h.has) (exact_bracket h.zones h.zone h.is_bracket) in
    parts_read_back internet_date_time (core_text found) found (date_time h.cores (core_in found) (core_of_parts text found h)) zone (of_brackets text found h).0.1

pub rfc9557_is_read_back : Rfc9557IsReadBack
rfc9557_is_read_back = has_one_text (one_record internet_date_time)
    (λ found p. of_parts (canonical_text found) found (parts_of p.0 found (to_parts internet_date_time p.0 found p.1)))
