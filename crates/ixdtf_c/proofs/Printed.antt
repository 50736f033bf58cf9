-- Records that can be printed, and records that were read.
use Rattle.ixdtf_grammar.specs.declared.records.UtcOffsetRecord.TheVariants as offsets
use Rattle.ixdtf_grammar.specs.declared.records.UtcOffsetRecordOrZ.TheVariants as shifts
use Rattle.std.proofs.Common.{refl, sym, true≢false, ◌∙◌, ◌≡◌, ◌≢◌, ◌↔◌, ◌≤◌, ◌+◌, ℕ, Bool, IsTrue, false, not, inl, inr, ap, if◌then◌else◌, List, length, Option, Some, None, IfSome}
use Rattle.std.proofs.{Common.{IsSomeAnd, Result, Ok, Err, IfOk, OnOk, map, take, arith}, lemmas.Bool.Decides.eqb_tells}
use Rattle.ixdtf_grammar.specs.declared.records.DurationParseRecord.{DurationParseRecord}
use Rattle.ixdtf_grammar.specs.declared.{profile.Profile.{Profile, TheVariants.Crate}, records.{DateRecord.DateRecord, MinutePrecisionOffset.MinutePrecisionOffset, Sign.Sign}}
use Rattle.ixdtf_grammar.specs.declared.records.{Sign.TheVariants.{Positive, Negative}, TimeDurationRecord.TimeDurationRecord, TimeRecord.TimeRecord}
use Rattle.ixdtf_grammar.specs.declared.records.UtcOffsetRecordOrZ.{UtcOffsetRecordOrZ}
use Rattle.ixdtf.specs.language.{Brackets.ZoneNote, Cores.core_of, Fractions.FractionParts, Languages.Parsed, Letters.{Letter, Text, byte_letter, wide_letter}, OffsetRecords.sign_for, Readers.{parse, CoreKind.date_time}}
use Rattle.ixdtf.specs.{language.ZoneNames.{Zone as SomeZone, Zone.{Name, Offset as ByOffset}}, Handlers.UnhandledRecord, Widths.wide_text}
use Rattle.ixdtf_c.specs.Crossing.{Contents, DurationContents, digits_for, value_for, is_negative, date_for, time_for, offset_for, time_zone_for, zone_for, units_for, is_there}
use Rattle.ixdtf_c.specs.{Crossing.record_for, Instants.offset_fraction, Outcomes.GivesRecord, Printing.{HaveDigits, PrintsText, text_where}}
use Rattle.ixdtf_c.specs.Standing.{where_there, fraction_by, date_by, time_by, minutes_by, offset_by, zone_by, parsed_by, record_by, lasting_by, utc_offset_in}
use Rattle.ixdtf_c.proofs.Numbers.{number_some}
use Rattle.ixdtf_print.specs.{Canonical.canonical_text, Durations.{duration_text, IsPrintableDuration, IsDurationReadBack}, Printable.IsPrintable, Spelled.{HasTime, HasDigits, IsDayTime, IsShift}}
use Rattle.ixdtf_print.specs.{Times.IsPrintableTime, YearMonths.IsPrintableYearMonth, MonthDays.IsPrintableMonthDay, SpelledCores.{HasLoneTime, HasLoneMonth, HasLoneDay, IsSpelledAs}}
use Rattle.ixdtf_print.{specs.declared.error.PrintError.{PrintError, TheVariants.NotPrintable}, proofs.theorems.ShortDurations.duration_most}
use Rattle.ixdtf_print.proofs.theorems.{PrintableTimes.tests_time, PrintableYearMonths.{tests_year_month, is_core as month_core}}
use Rattle.ixdtf_print.proofs.theorems.PrintableMonthDays.{tests_month_day, is_core as day_core}
use Rattle.ixdtf_print.specs.{Offsets.IsPrintableOffset, Printing.{HasText, HasOneText, PrintsOrRefuses}, SpelledDurations.HasTimeUnits}
use Rattle.ixdtf_print.proofs.{parts.ParsedParts.to_parts, theorems.{PrintableDurations.printable_duration, PrintableOffsets.printable_offset, PrintableRecords.{printable_iff, of_record}}}

time_of_both : (time : Option TimeRecord) (offset : Option UtcOffsetRecordOrZ) → HasTime time offset → IfSome time IsDayTime
time_of_both None offset has = tt
time_of_both (Some time) None has = has
time_of_both (Some time) (Some offset) has = has.0

offset_of_both : (time : Option TimeRecord) (offset : Option UtcOffsetRecordOrZ) → HasTime time offset → IfSome offset IsShift
offset_of_both None None has = tt
offset_of_both None (Some offset) has = absurd has
offset_of_both (Some time) None has = tt
offset_of_both (Some time) (Some offset) has = has.1

-- The fractions of a time of day and of an offset are valid (`HasDigits`).
digits_of_time : (time : Option TimeRecord) → IfSome time IsDayTime → IfSome time (λ it. HasDigits it.fraction)
digits_of_time None is = tt
digits_of_time (Some time) is = is.fraction

digits_of_offset : (offset : Option UtcOffsetRecordOrZ) → IfSome offset IsShift → IfSome offset (λ shift. HasDigits (offset_fraction shift))
digits_of_offset None is = tt
digits_of_offset (Some shifts.Z) is = tt
digits_of_offset (Some (shifts.Offset (offsets.MinutePrecision it))) is = tt
digits_of_offset (Some (shifts.Offset (offsets.FullPrecisionOffset it))) is = is.fraction

digits_of_both : (time : Option TimeRecord) (offset : Option UtcOffsetRecordOrZ) → HasTime time offset
    → IfSome time (λ it. HasDigits it.fraction) × IfSome offset (λ shift. HasDigits (offset_fraction shift))
digits_of_both time offset has = (digits_of_time time (time_of_both time offset has), digits_of_offset offset (offset_of_both time offset has))

-- If a struct stands for a record with valid fractions, its time and its offset have valid fractions, and the form of its zone has a
-- meaning.
module _ (r : Contents) where
  counted_parts : (offset : Option (Option UtcOffsetRecordOrZ)) (zone : Option (Option ZoneNote)) → IsSomeAnd (parsed_by r offset zone) HaveDigits
      → IfSome (time_by r.time) (λ it. HasDigits it.fraction) × IsSomeAnd offset (λ it. IfSome it (λ shift. HasDigits (offset_fraction shift))) × (zone ≢ None)
  counted_parts (Some offset) (Some it) is = (is.0, is.1, λ none. cc)
  counted_parts (Some _) None is = absurd is
  counted_parts None (Some _) is = absurd is
  counted_parts None None is = absurd is

  pub counted_time : IsSomeAnd (record_by r) HaveDigits → IfSome (time_by r.time) (λ it. HasDigits it.fraction)
  counted_time is = (counted_parts (offset_by r.offset) (zone_by r.zone) is).0

  pub counted_offset : IsSomeAnd (record_by r) HaveDigits → IsSomeAnd (offset_by r.offset) (λ it. IfSome it (λ shift. HasDigits (offset_fraction shift)))
  counted_offset is = (counted_parts (offset_by r.offset) (zone_by r.zone) is).1

  pub counted_zone : IsSomeAnd (record_by r) HaveDigits → zone_by r.zone ≢ None
  counted_zone is = (counted_parts (offset_by r.offset) (zone_by r.zone) is).2

-- If `P` gives `Q` for each value, and a value with `P` is present, then a value with `Q` is present.
on_some : {A : Type 0} {P Q : A → Type 0} (x : Option A) → ((a : A) → P a → Q a) → IsSomeAnd x P → IsSomeAnd x Q
on_some None f is = absurd is
on_some (Some a) f is = f a is

-- If `Q` is false for each value for which `P` is false, and no value with `P` is present, then no value with `Q` is present.
pub not_some : {A : Type 0} {P Q : A → Type 0} (x : Option A) → ((a : A) → ¬ (P a) → ¬ (Q a)) → ¬ (IsSomeAnd x P) → ¬ (IsSomeAnd x Q)
not_some None f none is = absurd is
not_some (Some a) f none is = f a none is

-- The fractions of a record that can be printed are valid.
digits_of_record : (found : Parsed) → IsPrintable found → HaveDigits found
digits_of_record found is = digits_of_both found.time found.offset ((printable_iff found).0 is).time

-- If a struct stands for a printable record, it stands for a record with valid fractions.
pub counted_record : (r : Contents) → IsSomeAnd (record_by r) IsPrintable → IsSomeAnd (record_by r) HaveDigits
counted_record r = on_some (record_by r) digits_of_record

-- If each record with such parts before its brackets has valid fractions, a record whose fractions are not valid is not printable.
not_spelled : (has_core : Option DateRecord → Option TimeRecord → Option UtcOffsetRecordOrZ → Type 0) {printable : Type 0} (found : Parsed)
    → ((IsTrue false ↔ IsSpelledAs has_core found) → IsTrue false ↔ printable) → (has_core found.date found.time found.offset → HaveDigits found)
    → ¬ (HaveDigits found) → ¬ printable
not_spelled has_core found tests digits none is =
    true≢false (sym ((tests ((λ no. absurd (true≢false (sym no))), λ s. absurd (none (digits s.0)))).1 is))

digits_of_lone_time : (date : Option DateRecord) (time : Option TimeRecord) (offset : Option UtcOffsetRecordOrZ) → HasLoneTime date time offset
    → IfSome time (λ it. HasDigits it.fraction) × IfSome offset (λ shift. HasDigits (offset_fraction shift))
digits_of_lone_time None None offset has = absurd has
digits_of_lone_time None (Some time) offset has = digits_of_both (Some time) offset has
digits_of_lone_time (Some date) time offset has = absurd has

pub no_time : (found : Parsed) → ¬ (HaveDigits found) → ¬ (IsPrintableTime found)
no_time found = not_spelled HasLoneTime found (λ both. (tests_time {test = false} found both).tests) (digits_of_lone_time found.date found.time found.offset)

-- A record that has only a date before its brackets has no fractions.
digits_of_lone_date : (found : Parsed) (date : Option DateRecord) → core_of found.date found.time found.offset ≡ core_of date None None → HaveDigits found
digits_of_lone_date found date has =
    let timeless : found.time ≡ None = ap (λ core. core.time) has in
    let unshifted : found.offset ≡ None = ap (λ core. core.offset) has in
    rw (timeless, unshifted) (tt, tt)

pub no_year_month : (found : Parsed) → ¬ (HaveDigits found) → ¬ (IsPrintableYearMonth found)
no_year_month found = not_spelled HasLoneMonth found (λ both. (tests_year_month {test = false} found both).tests)
    (λ has. digits_of_lone_date found _ (month_core found.date found.time found.offset has).2)

pub no_month_day : (found : Parsed) → ¬ (HaveDigits found) → ¬ (IsPrintableMonthDay found)
no_month_day found = not_spelled (HasLoneDay Crate) found (λ both. (tests_month_day {test = false} found both).tests)
    (λ has. digits_of_lone_date found _ (day_core Crate found.date found.time found.offset has).2)

-- ---- The struct that is written for a printable record stands for this record.

sign_back : (sign : Sign) → sign_for (not (is_negative sign)) ≡ sign
sign_back Positive = refl
sign_back Negative = refl

minutes_back : (it : MinutePrecisionOffset) → minutes_by (is_negative it.sign) it.hour it.minute ≡ it
minutes_back it = λ i. record { sign = sign_back it.sign i; hour = it.hour; minute = it.minute }

fraction_back : (part : Option FractionParts) → HasDigits part → fraction_by (digits_for part) (value_for part) ≡ part
fraction_back None has = refl
fraction_back (Some it) has = counted it.count it.value has.count_from
  where
    counted : (count value : ℕ) → 1 ≤ count → fraction_by count value ≡ Some (record { count = count; value = value })
    counted count value from = elim (eqb_tells count 0) [
      | inl p ↦ absurd (omega (arith, from, p.1))
      | inr p ↦ ap (λ test. if test then None else Some (record { count = count; value = value })) p.0
    ]

date_back : (date : Option DateRecord) → date_by (date_for date) ≡ date
date_back None = refl
date_back (Some it) = refl

time_back : (time : Option TimeRecord) → IfSome time IsDayTime → time_by (time_for time) ≡ time
time_back None is = refl
time_back (Some it) is =
    λ i. Some (record { hour = it.hour; minute = it.minute; second = it.second; fraction = fraction_back it.fraction is.fraction i })

offset_back : (offset : Option UtcOffsetRecordOrZ) → IfSome offset IsShift → offset_by (offset_for offset) ≡ Some offset
offset_back None is = refl
offset_back (Some shifts.Z) is = refl
offset_back (Some (shifts.Offset (offsets.MinutePrecision it))) is =
    λ i. Some (Some (shifts.Offset (offsets.MinutePrecision (minutes_back it i))))
offset_back (Some (shifts.Offset (offsets.FullPrecisionOffset it))) is = λ i. Some (Some (shifts.Offset (offsets.FullPrecisionOffset (record {
  minute_precision_offset = minutes_back it.minute_precision_offset i;
  second = it.second;
  fraction = fraction_back it.fraction is.fraction i;
}))))

zone_back : (zone : Option ZoneNote) → zone_by (zone_for zone) ≡ Some zone
zone_back None = refl
zone_back (Some it) = of it.critical it.zone
  where
    of : (critical : Bool) (zone : SomeZone) → zone_by (time_zone_for critical zone) ≡ Some (Some (record { critical = critical; zone = zone }))
    of critical (Name units) = refl
    of critical (ByOffset it) = λ i. Some (Some (record { critical = critical; zone = ByOffset (minutes_back it i) }))

calendar_back : (calendar : Option (List ℕ)) → where_there (is_there calendar) (units_for calendar) ≡ calendar
calendar_back None = refl
calendar_back (Some units) = refl

pub record_back : (found : Parsed) → IsPrintable found → record_by (record_for found) ≡ Some found
record_back found is =
    let has = ((printable_iff found).0 is).time in
    rw (offset_back found.offset (offset_of_both found.time found.offset has), zone_back found.zone)
    (λ i. Some (record {
      date = date_back found.date i;
      time = time_back found.time (time_of_both found.time found.offset has) i;
      offset = found.offset;
      zone = found.zone;
      calendar = calendar_back found.calendar i;
    }))

-- ---- Records that were read.

-- The struct that `ixdtf_parse` wrote stands for the record that the text gives.
read_back : (profile : Profile) (text : Text) (number : ℕ) (old new : Contents)
    → GivesRecord profile parse text number old new → number ≡ 0
    → (found : Parsed) × UnhandledRecord parse text found × (record_by new ≡ Some found)
read_back profile text number old new (Ok found, reads, given) zeroed =
    let gives = (reads.ok found).0 refl in
    (found, gives, rw given.1 (record_back found (text, gives)))
read_back profile text number old new (Err e, reads, given) zeroed = absurd (number_some e.fault (sym given.0 ∙ zeroed))

pub read_is_printable : (profile : Profile) (text : Text) (number : ℕ) (old new : Contents)
    → GivesRecord profile parse text number old new → number ≡ 0 → IsSomeAnd (record_by new) IsPrintable
read_is_printable profile text number old new read zeroed =
    let (found, gives, is) = read_back profile text number old new read zeroed in
    rw is (text, gives)

pub read_fits : (profile : Profile) (text : Text) (number : ℕ) (old new : Contents)
    → GivesRecord profile parse text number old new → number ≡ 0
    → IsSomeAnd (record_by new) (λ found. length (canonical_text found) ≤ length text + 14)
read_fits profile text number old new read zeroed =
    let (found, gives, is) = read_back profile text number old new read zeroed in
    rw is (of_record text found (to_parts date_time text found gives)).1

-- If a duration is printable, the form of its time has a meaning, and its time is valid (`HasTimeUnits`).
pub printed_units : (d : DurationContents) (time : Option (Option TimeDurationRecord)) → IsSomeAnd (lasting_by d time) IsPrintableDuration
    → IsSomeAnd time HasTimeUnits
printed_units d (Some time) is = ((printable_duration _).0 is).time
printed_units d None is = absurd is

-- What a printer returns for a value that is not printable.
pub refused : {U : Type 0} {letter : U → Letter} {printable : Type 0} {canonical : Text} {units : List U}
    → ¬ printable → PrintsText letter printable canonical units units (Err NotPrintable)
refused none = record {
  count = tt;
  fits = tt;
  text = tt;
  rest = tt;
  not_printable = (λ e. none, λ n. refl);
  too_short = (λ e. absurd cc, λ p. absurd (none p.0));
  unchanged = refl;
}

-- What a printer of the library for 8-bit text ensures, and what one for 16-bit text ensures.
module _ {printable : Type 0} {canonical : Text} {old new : List ℕ} {result : Result ℕ PrintError} (prints : PrintsOrRefuses printable canonical old new result) where
  prints_as : {letter : ℕ → Letter} → IfOk result (λ n. map letter (take n new) ≡ canonical) → PrintsText letter printable canonical old new result
  prints_as text = record {
    count = prints.count;
    fits = prints.fits;
    text = text;
    rest = prints.rest;
    not_printable = prints.not_printable;
    too_short = prints.too_short;
    unchanged = prints.unchanged;
  }

  pub prints_bytes : PrintsText byte_letter printable canonical old new result
  prints_bytes = prints_as prints.text

  pub prints_wide : IfOk result (λ n. wide_text (take n new) ≡ canonical) → PrintsText wide_letter printable canonical old new result
  prints_wide wide = prints_as wide

-- A statement about a value, if one is present, and about its text.
module _ {A : Type 0} (text_of : A → Text) (Q : Text → Type 0) (P : A → Type 0) where
  pub text_some : (x : Option A) → IsSomeAnd x P → Q (text_where text_of x) → IsSomeAnd x (λ a. Q (text_of a))
  text_some None is q = absurd is
  text_some (Some a) is q = q

  pub told_some : (x : Option A) {told : Type 0} → told ↔ (IsSomeAnd x P × Q (text_where text_of x)) → told ↔ IsSomeAnd x (λ a. P a × Q (text_of a))
  told_some None means = ((λ it. absurd (means.0 it).0), λ is. absurd is)
  told_some (Some a) means = means

-- The canonical text of a duration has at most 376 code units.
pub short_text : (duration : Option DurationParseRecord) → IsSomeAnd duration IsPrintableDuration → length (text_where duration_text duration) ≤ 376
short_text None is = absurd is
short_text (Some duration) is = duration_most duration is

-- If `P` gives `Q`, and `P` is true after the printer succeeds, then `Q` is true after it.
pub on_ok : {E P Q : Type 0} (result : Result ℕ E) → (P → Q) → OnOk result P → OnOk result Q
on_ok (Ok n) f is = f is
on_ok (Err e) f is = tt

-- If a duration is read back from its canonical text, it is printable.
pub read_is_duration : {E : Type 0} (duration : DurationParseRecord) (result : Result ℕ E)
    → OnOk result (IsDurationReadBack duration) → OnOk result (IsPrintableDuration duration)
read_is_duration duration (Ok n) back = (duration_text duration, (back Crate).same)
read_is_duration duration (Err e) back = tt

-- If an offset is printable, its fraction is valid.
pub printed_shift : (offset : Option (Option UtcOffsetRecordOrZ)) → IsSomeAnd (utc_offset_in offset) IsPrintableOffset
    → IsSomeAnd offset (λ it. IfSome it (λ shift. HasDigits (offset_fraction shift)))
printed_shift (Some (Some (shifts.Offset it))) is = digits_of_offset (Some (shifts.Offset it)) ((printable_offset it).0 is)
printed_shift (Some (Some shifts.Z)) is = absurd is
printed_shift (Some None) is = absurd is
printed_shift None is = absurd is

-- If a value is read back from its canonical text, it has a text.
pub read_is_text : {E R : Type 0} (stands : Text → R → Type 0) (text_of : R → Text) (found : R) (result : Result ℕ E)
    → OnOk result (HasOneText stands text_of found) → OnOk result (HasText stands found)
read_is_text stands text_of found (Ok n) back = (text_of found, back.same)
read_is_text stands text_of found (Err e) back = tt
