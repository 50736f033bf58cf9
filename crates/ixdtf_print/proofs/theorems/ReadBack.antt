-- The canonical text of a record stands for the record.
use Rattle.ixdtf_grammar.specs.declared.records.UtcOffsetRecord.TheVariants as offsets
use Rattle.ixdtf_grammar.specs.declared.records.UtcOffsetRecordOrZ.TheVariants as stands
use Rattle.std.proofs.Common.{ℕ, suc, ◌+◌, ◌-◌, ◌<◌, ◌≤◌, ◌≡◌, ◌≢◌, min, IsTrue, Bool, true, false, cond, ℤ, pos, negsuc, nat_abs, List, [], ◌∷◌, ◌++◌, map, length}
use Rattle.std.proofs.Common.{take, replicate, codes, Option, Some, None, refl, sym, ◌∙◌, ap, inl, inr, arith, append-nil, nat_le}
use Rattle.std.proofs.{Common.subst, lemmas.{Bool.{leb-true, Decides.nat_tests}, List.{take_all, length-append, length-replicate}}}
use Rattle.std.proofs.Math.Seq.{take-append_seam}
use Rattle.ixdtf_grammar.specs.declared.records.{DateRecord.DateRecord, MinutePrecisionOffset.MinutePrecisionOffset, Sign.Sign}
use Rattle.ixdtf_grammar.specs.declared.records.{Sign.TheVariants.{Positive, Negative}, TimeRecord.TimeRecord}
use Rattle.ixdtf_grammar.specs.declared.records.{UtcOffsetRecord.UtcOffsetRecord, UtcOffsetRecordOrZ.UtcOffsetRecordOrZ}
use Rattle.ixdtf_grammar.proofs.PaddedDigits.{decimal-whole, length-padded}
use Rattle.ixdtf.specs.language.{Letters.{Text, sign, hyphen, Letter.Plain}, Digits.{decimal, padded_digits}, Shapes.digits}
use Rattle.ixdtf.specs.language.{Dates.{Year, IsDate, signed as year_of, month_length}, Fractions.{FractionParts, IsFraction, places_of}}
use Rattle.ixdtf.specs.language.Times.{Clock, TimeShape, SecondText, ClockOf, IsTime, has_seconds, greatest_second, writes_seconds, Clock as clocks}
use Rattle.ixdtf.specs.language.Times.TimeShape.{colon_minutes, seconds, fractions}
use Rattle.ixdtf.specs.language.Offsets.{IsSigned, IsOffset, IsOffsetOrZ, IsMinuteOffset, sign_of as sign_at, minutes_of as minutes_at}
use Rattle.ixdtf_reading.proofs.theorems.Replies.{NoneRefused-nothing, NoneRefused-more}
use Rattle.ixdtf.specs.language.ZoneNames.{Zone, IsZone, Zone.{Name, Offset}}
use Rattle.ixdtf.specs.language.Brackets.{ZoneNote, Opens, OptionalBracket, Pair, Key, Value, IsPair, ArePairs}
use Rattle.ixdtf.specs.{language.{Cores.{core_of, OptionalOffset, IsDateTimeCore, IsCore}, Languages.Parsed, Readers.{CoreKind, has_exact_zones, CoreKind.date_time}}, table.Faults.{Fault, Fault.UnrecognizedCritical}}
use Rattle.ixdtf.specs.Handlers.{RefusedBeside, NoneRefused, own_replies, calendar_key, calendar_value, first_calendar}
use Rattle.ixdtf_print.specs.Canonical.{two_digits, year_text, date_text, minutes_text, seconds_text, fraction_digits, clock_text, time_text, mark_of}
use Rattle.ixdtf_print.specs.Canonical.{minute_offset_text, offset_text, zone_text, opening_text, bracket_text, calendar_text, brackets_text, optional_date_text, core_text}
use Rattle.ixdtf_print.specs.{Canonical.canonical_text, Spelled.{IsDay, AreDigits, HasDigits, IsClock, IsDayTime, IsMinuteClock, IsShift, HasDay, HasTime}}
use Rattle.ixdtf_print.specs.Spelled.{IsZoneText, HasZone, HasCalendar, HasBrackets, IsSpelled}
use Rattle.ixdtf_print.proofs.{parts.ParsedParts.HasParts, parts.PaddedDigits.{padded_are, two_are, up_to, digits-append, zeros_are}}

-- ---- dates

-- A sign and six digits are a year, except `-000000`.
extended_year : (c n : ℕ) → IsTrue (sign c) → n ≤ 999999 → (IsTrue (hyphen c) → n ≢ 0) → Year (Plain c ∷ padded_digits 6 n) (year_of c n)
extended_year c n signs small not_zero =
    let same : decimal (padded_digits 6 n) ≡ n = decimal-whole 6 n (omega arith) in
    inr (record {
      c = c;
      ds = padded_digits 6 n;
      is = refl;
      sign = signs;
      digits = padded_are 6 n;
      no_minus_zero = rw same not_zero;
      value = rw same refl;
    })

pub is_year : (year : ℤ) → nat_abs year ≤ 999999 → Year (year_text year) year
unfolding year_text
is_year (pos n) small = by_test (nat_le n 9999) refl
  where
    by_test : (b : Bool) → nat_le n 9999 ≡ b → Year (cond b (padded_digits 4 n) (Plain 43 ∷ padded_digits 6 n)) (pos n)
    by_test true h = let few : n ≤ 9999 = leb-true _ _ h in inl (padded_are 4 n, ap pos (sym (decimal-whole 4 n (omega arith))))
    by_test false h = extended_year 43 n refl small (λ minus. absurd cc)
is_year (negsuc n) small = extended_year 45 (suc n) refl small (λ minus none. absurd cc)

pub month_length_most : (year : ℤ) (month : ℕ) → month_length year month ≤ 31
month_length_most year month = grind (arith, nat_tests)

pub is_date : (date : DateRecord) → IsDay date → IsDate (date_text date) date
unfolding date_text
is_date date d = (
  inr (record {
    years = year_text date.year;
    months = two_digits date.month;
    days = two_digits date.day;
    is = refl;
    year = is_year date.year d.year;
    month = (two_are date.month (omega (arith, d.month_to)), d.month_from, d.month_to);
    day = two_are date.day (omega (arith, d.day.1, month_length_most date.year date.month));
  }),
  d.day,
)

-- ---- fractions and times

-- The first 18 digits are those of the value.
of_value : (value zeros : Text) (count : ℕ) → length value ≡ min count 18 → length zeros ≡ count - 18 → take 18 (value ++ zeros) ≡ value
of_value value [] count long more = rw (append-nil value) (take_all 18 value (omega arith))
of_value value (zero ∷ zeros) count long more =
    let e : 18 ≡ length value = omega (arith, long, more) in
    ap (λ n. take n (value ++ zero ∷ zeros)) e ∙ take-append_seam value (zero ∷ zeros)

pub is_fraction : (fraction : FractionParts) → AreDigits fraction → IsFraction (Plain 46 ∷ fraction_digits fraction) fraction
unfolding fraction_digits
is_fraction fraction d =
    let value = padded_digits (places_of fraction) fraction.value in
    let zeros = replicate (fraction.count - 18) (Plain 48) in
    let places : length value ≡ places_of fraction = length-padded (places_of fraction) fraction.value in
    let many : length zeros ≡ fraction.count - 18 = length-replicate (fraction.count - 18) (Plain 48) in
    let long : length (value ++ zeros) ≡ fraction.count = omega (arith, length-append value zeros, places, many) in
    let all : take 18 (value ++ zeros) ≡ value = of_value value zeros fraction.count places many in
    let count : fraction.count ≡ min (length (value ++ zeros)) 255 = omega (arith, long, d.count_to) in
    let number : fraction.value ≡ decimal (take 18 (value ++ zeros)) = rw all (sym (decimal-whole (places_of fraction) fraction.value d.value)) in
    record {
      mark = 46;
      ds = value ++ zeros;
      is = refl;
      marks = refl;
      some = (
        fraction.count - 1,
        let e : places_of fraction + (fraction.count - 18) ≡ suc (fraction.count - 1) = omega (arith, d.count_from) in
            subst (λ k. digits k (value ++ zeros)) e (digits-append (places_of fraction) (fraction.count - 18) value zeros (padded_are _ _) (zeros_are _)),
      );
      value = λ i. record { count = count i; value = number i };
    }

-- The time with these numbers.
abbrev time_of : ℕ → ℕ → ℕ → Option FractionParts → TimeRecord
time_of hour minute second fraction = record { hour = hour; minute = minute; second = second; fraction = fraction }

-- The digits of a clock are derived as the time with these numbers.
module _ (clock : Clock) (may : IsTrue (has_seconds clock)) (small : greatest_second clock < 100) (h m s : ℕ) (part : Option FractionParts)
    (at : IsClock (greatest_second clock) h m s part) where
  second_text : SecondText clock (seconds_text h m s) (time_of h m s None)
  unfolding seconds_text
  second_text = inr (record {
    hs = two_digits h;
    ms = two_digits m;
    ss = two_digits s;
    is = refl;
    may = may;
    hour = up_to 23 h (omega arith) at.hour;
    minute = up_to 59 m (omega arith) at.minute;
    second = up_to (greatest_second clock) s small at.second;
    no_fraction = refl;
  })

  clock_of : (part' : Option FractionParts) → HasDigits part'
      → (shape : TimeShape) × IsTrue (writes_seconds shape) × ClockOf clock shape (clock_text h m s part') (time_of h m s part')
  unfolding clock_text
  clock_of None none = (seconds, refl, rw append-nil second_text)
  clock_of (Some fraction) d = (
    fractions,
    refl,
    record {
      whole = seconds_text h m s;
      part = Plain 46 ∷ fraction_digits fraction;
      fraction = fraction;
      is = refl;
      second = second_text;
      is_fraction = is_fraction fraction d;
      value = refl;
    },
  )

pub is_time : (time : TimeRecord) → IsDayTime time → IsTime (clock_text time.hour time.minute time.second time.fraction) time
is_time time at =
    let c = clock_of clocks.Time refl (omega arith) time.hour time.minute time.second time.fraction at time.fraction at.fraction in
    (c.0, c.2)

-- ---- offsets

minute_clock : (clock : Clock) (offset : MinutePrecisionOffset) → IsMinuteClock offset
    → ClockOf clock colon_minutes (minutes_text offset.hour offset.minute) (time_of offset.hour offset.minute 0 None)
unfolding minutes_text
minute_clock clock offset at = record {
  hs = two_digits offset.hour;
  ms = two_digits offset.minute;
  is = refl;
  hour = up_to 23 offset.hour (omega arith) at.0;
  minute = up_to 59 offset.minute (omega arith) at.1;
  no_second = refl;
  no_fraction = refl;
}

pub is_sign : (s : Sign) → IsTrue (sign (mark_of s)) × (s ≡ sign_at (mark_of s))
is_sign Positive = (refl, refl)
is_sign Negative = (refl, refl)

-- A sign and the text after it are an offset.
signed : {O : Type 0} {clock : Clock} {record_of : ℕ → TimeShape → TimeRecord → O} {body : Text} {offset : O} (s : Sign) (shape : TimeShape) (time : TimeRecord)
    → ClockOf clock shape body time → offset ≡ record_of (mark_of s) shape time → IsSigned clock record_of (Plain (mark_of s) ∷ body) offset
signed s shape time clock value = record { c = mark_of s; body = _; shape = shape; time = time; is = refl; sign = (is_sign s).0; clock = clock; value = value }

same_minutes : (offset : MinutePrecisionOffset) (second : ℕ) (part : Option FractionParts)
    → offset ≡ minutes_at (mark_of offset.sign) (time_of offset.hour offset.minute second part)
same_minutes offset second part = λ i. record { sign = (is_sign offset.sign).1 i; hour = offset.hour; minute = offset.minute }

minute_signed : {O : Type 0} (clock : Clock) (record_of : ℕ → TimeShape → TimeRecord → O) (offset : MinutePrecisionOffset) (value : O) → IsMinuteClock offset
    → value ≡ record_of (mark_of offset.sign) colon_minutes (time_of offset.hour offset.minute 0 None)
    → IsSigned clock record_of (minute_offset_text offset) value
minute_signed clock record_of offset value at is = signed offset.sign colon_minutes (time_of offset.hour offset.minute 0 None) (minute_clock clock offset at) is

pub is_minute_offset : (offset : MinutePrecisionOffset) → IsMinuteClock offset → IsMinuteOffset (minute_offset_text offset) offset
is_minute_offset offset at = minute_signed clocks.MinuteOffset _ offset offset at (same_minutes offset 0 None)

pub is_utc_offset : (offset : UtcOffsetRecord) → IsShift (stands.Offset offset) → IsOffset (offset_text (Some (stands.Offset offset))) offset
is_utc_offset (offsets.MinutePrecision offset) at =
    minute_signed clocks.Offset _ offset _ at (ap offsets.MinutePrecision (same_minutes offset 0 None))
is_utc_offset (offsets.FullPrecisionOffset offset) at =
    let minutes = offset.minute_precision_offset in
    let c = clock_of clocks.Offset refl (omega arith) minutes.hour minutes.minute offset.second offset.fraction at offset.fraction at.fraction in
    let time = time_of minutes.hour minutes.minute offset.second offset.fraction in
    let same = ap (λ m. offsets.FullPrecisionOffset (record offset { minute_precision_offset = m })) (same_minutes minutes offset.second offset.fraction) in
    signed minutes.sign c.0 time c.2 (same ∙ rw c.1 refl)

is_offset : (offset : UtcOffsetRecordOrZ) → IsShift offset → IsOffsetOrZ (offset_text (Some offset)) offset
is_offset stands.Z at = inr ((90, refl, refl), refl)
is_offset (stands.Offset offset) at = inl (offset, is_utc_offset offset at, refl)

-- ---- brackets

pub is_zone : (zone : Zone) → IsZoneText zone → IsZone (zone_text zone) zone
is_zone (Name name) h = inl (name, (h, refl), refl)
is_zone (Offset offset) h = inr (offset, is_minute_offset offset h, refl)

pub opens : (critical : Bool) → Opens (opening_text critical) critical
opens true = (Plain 91 ∷ [], Plain 33 ∷ [], refl, (91, refl, refl), (33, refl, refl))
opens false = (91, refl, refl)

pub is_bracket : (note : Option ZoneNote) → HasZone note → OptionalBracket false (bracket_text note) note
is_bracket None h = refl
is_bracket (Some note) h = (
  record {
    start = opening_text note.critical;
    inside = zone_text note.zone;
    is = refl;
    opens = opens note.critical;
    zone = is_zone note.zone h;
  },
  tt,
)

-- The annotation of a calendar.
abbrev calendar_pair : List ℕ → Pair
calendar_pair value = record { critical = false; key = calendar_key; value = value }

is_calendar_key : Key (map Plain calendar_key)
is_calendar_key = (
  Plain 117 ∷ [],
  map Plain (codes "-ca"),
  refl,
  (117, refl, refl),
  (
    (Plain 45 ∷ []) ∷ ((Plain 99 ∷ []) ∷ ((Plain 97 ∷ []) ∷ [])),
    (_, refl, (45, refl, refl), (_, refl, (99, refl, refl), (_, refl, (97, refl, refl), refl))),
  ),
)

is_calendar_pair : (value : List ℕ) → Value (map Plain value) → IsPair (calendar_text (Some value)) (calendar_pair value)
is_calendar_pair value h = record {
  start = Plain 91 ∷ [];
  keys = map Plain calendar_key;
  values = map Plain value;
  is = refl;
  opens = (91, refl, refl);
  is_key = is_calendar_key;
  is_value = h;
  key = refl;
  value = refl;
}

-- The annotations of a canonical text.
abbrev calendar_pairs : Option (List ℕ) → List Pair
calendar_pairs None = []
calendar_pairs (Some value) = calendar_pair value ∷ []

are_pairs : (calendar : Option (List ℕ)) → HasCalendar calendar → ArePairs (calendar_text calendar) (calendar_pairs calendar)
are_pairs None h = refl
are_pairs (Some value) h = (calendar_text (Some value), [], sym (append-nil _), is_calendar_pair value h, refl)

-- A calendar that is not critical is not refused if it is the only one.
not_refused : (value : List ℕ) (fault : Fault) → ¬ (RefusedBeside None (Some (calendar_pair value)) fault)
not_refused value UnrecognizedCritical h = absurd cc
not_refused value fault h = h

-- If there is one such calendar, or none, no reply is refused.
none_refused : (calendar : Option (List ℕ)) → NoneRefused (own_replies (calendar_pairs calendar))
none_refused None = NoneRefused-nothing
none_refused (Some value) = NoneRefused-more [] (Some (calendar_pair value)) NoneRefused-nothing (not_refused value)

-- The replies give the calendar.
gives_calendar : (calendar : Option (List ℕ)) → calendar ≡ calendar_value (first_calendar (own_replies (calendar_pairs calendar)))
gives_calendar None = refl
gives_calendar (Some value) = refl

-- ---- cores

-- The text of an offset after a time, if there is an offset, is read back.
pub timed : (time : TimeRecord) (offset : Option UtcOffsetRecordOrZ) → HasTime (Some time) offset → IsDayTime time × OptionalOffset (offset_text offset) offset
timed time None h = (h, refl)
timed time (Some offset) h = (h.0, is_offset offset h.1)

is_core : (date : Option DateRecord) (time : Option TimeRecord) (offset : Option UtcOffsetRecordOrZ) → HasDay date → HasTime time offset
    → IsDateTimeCore (optional_date_text date ++ (time_text time ++ offset_text offset)) (core_of date time offset)
is_core None time offset d h = absurd d
is_core (Some date) None None d h = inl (date, rw (append-nil (date_text date)) (is_date date d), refl)
is_core (Some date) None (Some offset) d h = absurd h
is_core (Some date) (Some time) offset d h = inr (record {
  dates = date_text date;
  separator = Plain 84 ∷ [];
  times = clock_text time.hour time.minute time.second time.fraction;
  offsets = offset_text offset;
  date = date;
  time = time;
  offset = offset;
  is = refl;
  is_date = is_date date d;
  separates = (84, refl, refl);
  is_time = is_time time (timed time offset h).0;
  is_offset = (timed time offset h).1;
  has = refl;
})

-- ---- records

-- A core and the canonical brackets of a record after it have the parts of the record.
pub parts_read_back : (kind : CoreKind) (cores : Text) (found : Parsed) → IsCore kind cores (core_of found.date found.time found.offset)
    → OptionalBracket (has_exact_zones kind) (bracket_text found.zone) found.zone → HasCalendar found.calendar → HasParts kind (cores ++ brackets_text found) found
parts_read_back kind cores found is_core is_bracket has_calendar = record {
  cores = cores;
  zones = bracket_text found.zone;
  pair_texts = calendar_text found.calendar;
  core = core_of found.date found.time found.offset;
  zone = found.zone;
  pairs = calendar_pairs found.calendar;
  is = refl;
  is_core = is_core;
  is_bracket = is_bracket;
  are_pairs = are_pairs found.calendar has_calendar;
  accepted = none_refused found.calendar;
  has = λ i. record found { calendar = gives_calendar found.calendar i };
}

-- A core and the canonical brackets have the parts of the record if a zone need not be exact.
pub brackets_read_back : (kind : CoreKind) (cores : Text) (found : Parsed) → has_exact_zones kind ≡ false → IsCore kind cores (core_of found.date found.time found.offset) → HasBrackets found
    → HasParts kind (cores ++ brackets_text found) found
brackets_read_back kind cores found any_zone is_core h = parts_read_back kind cores found is_core (rw any_zone (is_bracket found.zone h.0)) h.1

-- If all fields of a record have texts, its canonical text has the parts of the record.
pub canonical_reads_back : (found : Parsed) → IsSpelled found → HasParts date_time (canonical_text found) found
unfolding canonical_text core_text
canonical_reads_back found s =
    brackets_read_back date_time (core_text found) found refl (is_core found.date found.time found.offset s.date s.time) (s.zone, s.calendar)
