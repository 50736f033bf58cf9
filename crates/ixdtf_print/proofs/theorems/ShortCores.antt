-- The date, the time and the offset of a printable record are short.
use Rattle.ixdtf_grammar.specs.declared.records.UtcOffsetRecord.TheVariants as offsets
use Rattle.ixdtf_grammar.specs.declared.records.UtcOffsetRecordOrZ.TheVariants as stands
use Rattle.std.proofs.Common.{◌+◌, ◌≤◌, length, Option, Some, None, arith}
use Rattle.ixdtf_grammar.specs.declared.records.{DateRecord.DateRecord, TimeRecord.TimeRecord, UtcOffsetRecordOrZ.UtcOffsetRecordOrZ}
use Rattle.ixdtf.specs.language.{Fractions.FractionParts, Languages.Parsed}
use Rattle.ixdtf_print.specs.Canonical.{fraction_text, time_text, offset_text, optional_date_text, core_text}
use Rattle.ixdtf_print.specs.{Printable.IsPrintable, Spelled.{HasDigits, IsDayTime, IsShift, HasTime}}
use Rattle.ixdtf_print.proofs.code.CanonicalLengths.{some_fraction_long, some_time_long, minute_offset_long, full_offset_long, core_long}
use Rattle.ixdtf_print.proofs.{parts.DerivedDates.{year_most, date_long}, theorems.PrintableRecords.printable_iff}

date_short : (date : Option DateRecord) → length (optional_date_text date) ≤ 13
date_short None = omega arith
date_short (Some date) = omega (arith, date_long date, year_most date.year)

pub fraction_short : (fraction : Option FractionParts) → HasDigits fraction → length (fraction_text fraction) ≤ 256
fraction_short None h = omega arith
fraction_short (Some fraction) h = omega (arith, some_fraction_long fraction, h.count_to)

clock_short : (time : TimeRecord) → IsDayTime time → length (time_text (Some time)) ≤ 265
clock_short time h = omega (arith, some_time_long time, fraction_short time.fraction h.fraction)

pub shift_short : (offset : UtcOffsetRecordOrZ) → IsShift offset → length (offset_text (Some offset)) ≤ 265
shift_short stands.Z h = omega arith
shift_short (stands.Offset (offsets.MinutePrecision offset)) h = omega (arith, minute_offset_long offset)
shift_short (stands.Offset (offsets.FullPrecisionOffset offset)) h = omega (arith, full_offset_long offset, fraction_short offset.fraction h.fraction)

time_short : (time : Option TimeRecord) (offset : Option UtcOffsetRecordOrZ) → HasTime time offset → length (time_text time) + length (offset_text offset) ≤ 530
time_short None None h = omega arith
time_short None (Some offset) h = absurd h
time_short (Some time) None h = omega (arith, clock_short time h)
time_short (Some time) (Some offset) h = omega (arith, clock_short time h.0, shift_short offset h.1)

pub core_short : (found : Parsed) → IsPrintable found → length (core_text found) ≤ 543
core_short found is =
    let spelled = (printable_iff found).0 is in
    omega (arith, core_long found, date_short found.date, time_short found.time found.offset spelled.time)
