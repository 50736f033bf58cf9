-- The code units of the canonical text of a record are from 1 to 126, so this text is the same in both widths. A record is printed
-- if its core and its brackets are printed.
use Rattle.ixdtf_grammar.specs.declared.records.UtcOffsetRecordOrZ.TheVariants as stands
use Rattle.std.proofs.Common.{ℕ, suc, ◌<◌, ◌^◌, ◌≡◌, ◌↔◌, Bool, true, false, cond, nat_le, ℤ, pos, negsuc, List, [], ◌∷◌, ◌++◌, map, length, take, codes, refl, subst}
use Rattle.std.proofs.Common.{Option, Some, None, Result, Ok, Err, IfOk, OnOk, IfSome, OnSome, ◌∙◌, ap, sym, arith}
use Rattle.std.proofs.lemmas.Bool.Decides.{nat_tests}
use Rattle.ixdtf_grammar.specs.declared.profile.Profile.TheVariants.{Crate}
use Rattle.ixdtf_grammar.specs.declared.records.{DateRecord.DateRecord, TimeRecord.TimeRecord, UtcOffsetRecordOrZ.UtcOffsetRecordOrZ}
use Rattle.ixdtf.specs.language.{Letters.{Text, any, zone_char, value_char, Letter.{Plain, Bad}}, Shapes.one, Fractions.FractionParts}
use Rattle.ixdtf.specs.language.{ZoneNames.{Zone, ZoneName, Zone.{Name, Offset}}, Brackets.{ZoneNote, Value, ValueRun}, Digits.padded_digits, Languages.Parsed}
use Rattle.ixdtf.specs.Widths.{is_shared, wide_text}
use Rattle.ixdtf_grammar.proofs.parts.Classes.{AllOf, IsOf, PlainOf, one_of, plain_many, ◌and_then◌, ◌or_else◌, all_append, all_digits}
use Rattle.ixdtf_grammar.proofs.widths.PlainTexts.{IsPlain, plain_name}
use Rattle.ixdtf_print.specs.Canonical.{two_digits, year_text, date_text, seconds_text, fraction_text, clock_text, time_text, offset_text, zone_text}
use Rattle.ixdtf_print.specs.Canonical.{opening_text, bracket_text, calendar_text, brackets_text, optional_date_text, core_text, canonical_text}
use Rattle.ixdtf_print.specs.{Printable.IsPrintable, Printing.PrintsOrRefuses, declared.error.PrintError.PrintError}
use Rattle.ixdtf_print.specs.Spelled.{IsShift, HasDigits, HasTime, IsZoneText, HasZone, HasCalendar, HasBrackets, IsSpelled}
use Rattle.ixdtf_print.proofs.{parts.PaddedDigits.padded_are, theorems.{DisplayedText.{same_letters, same_in_both}, DisplayedDurations.{shared_digit, shared_fraction}}}
use Rattle.ixdtf_print.proofs.theorems.{SharedTexts.{shared_mark, shared_minutes, shared_offset, on_ok}, ReadBack.timed}
use Rattle.ixdtf.specs.language.{Cores.Core}
use Rattle.ixdtf_print.specs.{Printing.HasText, SpelledCores.HasLoneTime, Times.{unmarked_time_text, time_core_text, lone_time_text, IsPrintableTime}}
use Rattle.ixdtf_print.specs.YearMonths.{month_text, optional_month_text, year_month_text, IsPrintableYearMonth}
use Rattle.ixdtf_print.specs.MonthDays.{day_text, optional_day_text, month_day_text, IsPrintableMonthDay}
use Rattle.ixdtf_print.specs.Zones.{IsPrintableZone}
use Rattle.ixdtf_print.proofs.theorems.{PrintableRecords.{core_in, printable_iff}, BracketedRecords.{Written, Stands, printable}}
use Rattle.ixdtf_print.proofs.theorems.{PrintableTimes.{lone_time}, PrintableYearMonths.{lone_month}}
use Rattle.ixdtf_print.proofs.theorems.{PrintableMonthDays.{lone_day}, PrintableZones.{printable_zone}}

-- ---- zones and calendars

shared_name : PlainOf is_shared ZoneName
shared_name =
    let char : PlainOf is_shared (one zone_char) = one_of (λ c h. grind (arith, nat_tests, h)) in
    one_of (λ c h. grind (arith, nat_tests, h)) and_then plain_many (char or_else one_of (λ c h. grind (arith, nat_tests, h)) and_then char)

shared_value : PlainOf is_shared Value
shared_value =
    let char : PlainOf is_shared (one value_char) = one_of (λ c h. grind (arith, nat_tests, h)) in
    let run : PlainOf is_shared ValueRun = char and_then plain_many char in
    run and_then plain_many (one_of (λ c h. grind (arith, nat_tests, h)) and_then run)

pub shared_zone : (zone : Zone) → IsZoneText zone → AllOf is_shared (zone_text zone)
shared_zone (Name name) h = shared_name.plain (map Plain name) h
shared_zone (Offset offset) h = (shared_mark offset.sign, shared_minutes offset.hour offset.minute h.0 h.1)

shared_opening : (critical : Bool) → AllOf is_shared (opening_text critical)
shared_opening true = (refl, (refl, tt))
shared_opening false = (refl, tt)

shared_bracket : (note : Option ZoneNote) → HasZone note → AllOf is_shared (bracket_text note)
shared_bracket None h = tt
shared_bracket (Some note) h =
    all_append is_shared (opening_text note.critical) _ (shared_opening note.critical)
    (all_append is_shared (zone_text note.zone) _ (shared_zone note.zone h) (refl, tt))

shared_key : AllOf is_shared (map Plain (codes "[u-ca="))
shared_key = (refl, (refl, (refl, (refl, (refl, (refl, tt))))))

shared_calendar : (calendar : Option (List ℕ)) → HasCalendar calendar → AllOf is_shared (calendar_text calendar)
shared_calendar None h = tt
shared_calendar (Some value) h =
    all_append is_shared (map Plain (codes "[u-ca=")) _ shared_key (all_append is_shared (map Plain value) _ (shared_value.plain (map Plain value) h) (refl, tt))

pub shared_brackets : (found : Parsed) → HasBrackets found → AllOf is_shared (brackets_text found)
shared_brackets found h =
    all_append is_shared (bracket_text found.zone) _ (shared_bracket found.zone h.0) (shared_calendar found.calendar h.1)

-- ---- cores

shared_digits : (count number : ℕ) → AllOf is_shared (padded_digits count number)
shared_digits count number = all_digits shared_digit count (padded_digits count number) (padded_are count number)

pub shared_two : (number : ℕ) → AllOf is_shared (two_digits number)
unfolding two_digits
shared_two number = shared_digits 2 number

pub shared_year : (year : ℤ) → AllOf is_shared (year_text year)
unfolding year_text
shared_year (pos n) = by_test (nat_le n 9999)
  where
    by_test : (b : Bool) → AllOf is_shared (cond b (padded_digits 4 n) (Plain 43 ∷ padded_digits 6 n))
    by_test true = shared_digits 4 n
    by_test false = (refl, shared_digits 6 n)
shared_year (negsuc n) = (refl, shared_digits 6 (suc n))

shared_date : (date : Option DateRecord) → AllOf is_shared (optional_date_text date)
unfolding date_text
shared_date None = tt
shared_date (Some date) =
    all_append is_shared (year_text date.year) _ (shared_year date.year)
    (refl, all_append is_shared (two_digits date.month) _ (shared_two date.month) (refl, shared_two date.day))

shared_seconds : (h m s : ℕ) → AllOf is_shared (seconds_text h m s)
unfolding seconds_text
shared_seconds h m s =
    all_append is_shared (two_digits h) _ (shared_two h) (refl, all_append is_shared (two_digits m) _ (shared_two m) (refl, shared_two s))

pub shared_clock : (h m s : ℕ) (fraction : Option FractionParts) → HasDigits fraction → AllOf is_shared (clock_text h m s fraction)
unfolding clock_text
shared_clock h m s fraction digits =
    all_append is_shared (seconds_text h m s) (fraction_text fraction) (shared_seconds h m s) (shared_fraction fraction digits)

shared_shift : (offset : UtcOffsetRecordOrZ) → IsShift offset → AllOf is_shared (offset_text (Some offset))
shared_shift stands.Z h = (refl, tt)
shared_shift (stands.Offset offset) h = shared_offset offset h

pub shared_time : (time : Option TimeRecord) (offset : Option UtcOffsetRecordOrZ) → HasTime time offset
    → AllOf is_shared (time_text time) × AllOf is_shared (offset_text offset)
shared_time None None h = (tt, tt)
shared_time None (Some offset) h = absurd h
shared_time (Some time) None h = ((refl, shared_clock time.hour time.minute time.second time.fraction h.fraction), tt)
shared_time (Some time) (Some offset) h =
    ((refl, shared_clock time.hour time.minute time.second time.fraction h.0.fraction), shared_shift offset h.1)

shared_canonical : (found : Parsed) → IsSpelled found → AllOf is_shared (canonical_text found)
unfolding canonical_text core_text
shared_canonical found h =
    let time = shared_time found.time found.offset h.time in
    all_append is_shared (core_text found) (brackets_text found)
    (all_append is_shared (optional_date_text found.date) _ (shared_date found.date) (all_append is_shared (time_text found.time) _ time.0 time.1))
    (shared_brackets found (h.zone, h.calendar))

-- ---- names of 16-bit code units

plain_letters : (units : List ℕ) → IsPlain (wide_text units) → wide_text units ≡ map Plain units
plain_letters [] h = refl
plain_letters (n ∷ units) h = ap (λ letter. letter ∷ wide_text units) (by_test (is_shared n) h.0) ∙ ap (λ text. Plain n ∷ text) (plain_letters units h.1)
  where
    by_test : (b : Bool) → IsOf any (cond b (Plain n) Bad) → cond b (Plain n) Bad ≡ Plain n
    by_test true h = refl
    by_test false h = absurd h

-- The 16-bit text of a name is its 8-bit text.
pub plain_wide_name : (units : List ℕ) → ZoneName (wide_text units) → ZoneName (map Plain units)
plain_wide_name units h = subst ZoneName (plain_letters units (plain_name.plain (wide_text units) h)) h

pub same_wide_name : (units : List ℕ) → ZoneName (map Plain units) → wide_text units ≡ map Plain units
same_wide_name units h = same_letters units (shared_name.plain (map Plain units) h)

-- ---- printed records

on_known : {A E : Type 0} {before after : Type 0} (result : Result A E) → OnOk result before → (before → after) → OnOk result after
on_known (Ok a) k f = f k
on_known (Err e) k f = tt

prints_as : {before after : Type 0} {text : Text} {old new : List ℕ} {result : Result ℕ PrintError} → before ↔ after
    → PrintsOrRefuses before text old new result → PrintsOrRefuses after text old new result
prints_as h p = record {
  count = p.count;
  fits = p.fits;
  text = p.text;
  rest = p.rest;
  not_printable = (λ e a. p.not_printable.0 e (h.1 a), λ none. p.not_printable.1 (λ b. none (h.0 b)));
  too_short = (λ e. (h.0 (p.too_short.0 e).0, (p.too_short.0 e).1), λ a. p.too_short.1 (h.1 a.0, a.1));
  unchanged = p.unchanged;
}

-- A record is printed, its text is the same in both widths, and the record is read back from it.
abbrev pub IsPrinted : (can_print back : Type 0) (canonical : Text) (old new : List ℕ) (result : Result ℕ PrintError) → Type 0
IsPrinted can_print back canonical old new result = record {
  prints : PrintsOrRefuses can_print canonical old new result;
  wide : IfOk result (λ n. wide_text (take n new) ≡ canonical);
  read_back : OnOk result back;
}

-- If `before` holds, `after` holds with the same text, and the other way around. The text is the same in both widths.
pub record AreSame (before after : Type 0) (text canonical : Text) : Type 0 where
  pub both : before ↔ after
  pub same : text ≡ canonical
  pub shared : after → AllOf is_shared canonical

pub is_printed : {before after back : Type 0} {text canonical : Text} {old new : List ℕ} {result : Result ℕ PrintError}
    → AreSame before after text canonical → (after → back) → PrintsOrRefuses before text old new result → OnOk result before
    → IsPrinted after back canonical old new result
is_printed {before} {after} {canonical = canonical} {old = old} {new = new} {result = result} same reads p known =
    let prints : PrintsOrRefuses after canonical old new result = prints_as same.both (subst (λ t. PrintsOrRefuses before t old new result) same.same p) in
    let is = on_known result known same.both.0 in
    record {
      prints = prints;
      wide = on_ok result (on_known result is same.shared) prints.text (λ all n e. same_in_both (take n new) canonical all e);
      read_back = on_known result is reads;
    }

-- The length of the text of a record, if there is a text that fits into a slice.
abbrev HasNoLength : (can_print : Type 0) (canonical : Text) (result : Option ℕ) → Type 0
HasNoLength can_print canonical result = (result ≡ None) ↔ ¬ (can_print × (length canonical < 2 ^ 64))

abbrev pub IsCounted : (can_print : Type 0) (canonical : Text) (result : Option ℕ) → Type 0
IsCounted can_print canonical result = record {
  length : IfSome result (λ n. n ≡ length canonical);
  printable : OnSome result can_print;
  none : HasNoLength can_print canonical result;
}

on_some : {A : Type 0} {before after : Type 0} (result : Option A) → OnSome result before → (before → after) → OnSome result after
on_some (Some a) k f = f k
on_some None k f = tt

pub is_counted : {before after : Type 0} {text canonical : Text} {result : Option ℕ} → AreSame before after text canonical
    → IfSome result (λ n. n ≡ length text) → OnSome result before → HasNoLength before text result → IsCounted after canonical result
is_counted {result = result} same counted known none = record {
  length = rw same.same at counted;
  printable = on_some result known same.both.0;
  none = (
    λ e a. none.0 e (same.both.1 a.0, rw same.same a.1),
    λ h. none.1 (λ b. h (same.both.0 b.0, rw same.same at b.1)),
  );
}

-- The record without its zone and its calendar.
abbrev pub nameless : Parsed → Parsed
nameless found = record found { zone = None; calendar = None }

both_parts : (found : Parsed) → (IsPrintable (nameless found) × HasBrackets found) ↔ IsPrintable found
both_parts found = (
  λ h.
      let core = (printable_iff (nameless found)).0 h.0 in
      (printable_iff found).1 (record { date = core.date; time = core.time; zone = h.1.0; calendar = h.1.1 }),
  λ p.
      let s = (printable_iff found).0 p in
      ((printable_iff (nameless found)).1 (record { date = s.date; time = s.time; zone = tt; calendar = tt }), (s.zone, s.calendar)),
)

whole_text : (found : Parsed) → core_text (nameless found) ++ brackets_text found ≡ canonical_text found
unfolding canonical_text core_text
whole_text found = refl

pub record_is_same : (found bare : Parsed) → bare ≡ nameless found
    → AreSame (IsPrintable bare × HasBrackets found) (IsPrintable found) (core_text bare ++ brackets_text found) (canonical_text found)
record_is_same found bare e = rw e (record {
  both = both_parts found;
  same = whole_text found;
  shared = λ is. shared_canonical found ((printable_iff found).0 is);
})

-- ---- times, year-months and month-days

both_parts_of : (w : Written) (found : Parsed) → (HasText (Stands w) (nameless found) × HasBrackets found) ↔ HasText (Stands w) found
both_parts_of w found = (
  λ h. (printable w found).1 (((printable w (nameless found)).0 h.0).0, h.1),
  λ p. let s = (printable w found).0 p in ((printable w (nameless found)).1 (s.0, (tt, tt)), s.1),
)

shared_text : (w : Written) (found : Parsed) → ((core : Core) → w.has_core core.date core.time core.offset → AllOf is_shared (w.core_text core))
    → HasText (Stands w) found → AllOf is_shared (w.text_of found)
shared_text w found shared p =
    let s = (printable w found).0 p in
    rw (w.whole found) (all_append is_shared (w.core_text (core_in found)) (brackets_text found) (shared (core_in found) s.0) (shared_brackets found s.1))

kind_is_same : (w : Written) (found bare : Parsed) → bare ≡ nameless found
    → ((core : Core) → w.has_core core.date core.time core.offset → AllOf is_shared (w.core_text core))
    → AreSame (HasText (Stands w) bare × HasBrackets found) (HasText (Stands w) found) (w.core_text (core_in bare) ++ brackets_text found) (w.text_of found)
kind_is_same w found bare e shared = rw e (record {
  both = both_parts_of w found;
  same = sym (w.whole found);
  shared = shared_text w found shared;
})

time_core : (date : Option DateRecord) (time : Option TimeRecord) (offset : Option UtcOffsetRecordOrZ) → HasLoneTime date time offset
    → AllOf is_shared (unmarked_time_text time ++ offset_text offset)
time_core None None offset h = absurd h
time_core None (Some time) offset h =
    all_append is_shared (unmarked_time_text (Some time)) (offset_text offset)
    (shared_clock time.hour time.minute time.second time.fraction (timed time offset h).0.fraction) (shared_time (Some time) offset h).1
time_core (Some date) time offset h = absurd h

pub time_is_same : (found bare : Parsed) → bare ≡ nameless found
    → AreSame (IsPrintableTime bare × HasBrackets found) (IsPrintableTime found) (time_core_text bare ++ brackets_text found) (lone_time_text found)
unfolding time_core_text
time_is_same found bare e = kind_is_same (lone_time Crate) found bare e (λ core h. time_core core.date core.time core.offset h)

month_core : (date : Option DateRecord) → AllOf is_shared (optional_month_text date)
unfolding month_text
month_core None = tt
month_core (Some date) = all_append is_shared (year_text date.year) _ (shared_year date.year) (refl, shared_two date.month)

pub year_month_is_same : (found bare : Parsed) → bare ≡ nameless found
    → AreSame (IsPrintableYearMonth bare × HasBrackets found) (IsPrintableYearMonth found) (optional_month_text bare.date ++ brackets_text found) (year_month_text found)
year_month_is_same found bare e = kind_is_same lone_month found bare e (λ core h. month_core core.date)

day_core : (date : Option DateRecord) → AllOf is_shared (optional_day_text date)
unfolding day_text
day_core None = tt
day_core (Some date) = all_append is_shared (two_digits date.month) _ (shared_two date.month) (refl, shared_two date.day)

pub month_day_is_same : (found bare : Parsed) → bare ≡ nameless found
    → AreSame (IsPrintableMonthDay bare × HasBrackets found) (IsPrintableMonthDay found) (optional_day_text bare.date ++ brackets_text found) (month_day_text found)
month_day_is_same found bare e = kind_is_same (lone_day Crate) found bare e (λ core h. day_core core.date)

-- ---- zones

pub zone_is_same : (zone : Zone) → AreSame (IsZoneText zone) (IsPrintableZone zone) (zone_text zone) (zone_text zone)
zone_is_same zone =
    let both = printable_zone zone in
    record { both = (both.1, both.0); same = refl; shared = λ is. shared_zone zone (both.0 is) }
