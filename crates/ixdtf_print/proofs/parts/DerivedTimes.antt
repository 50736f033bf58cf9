-- What is derived as a time, an offset, a zone or a calendar has a text, which is not much longer.
use Rattle.ixdtf_grammar.specs.declared.records.UtcOffsetRecordOrZ.TheVariants as stands
use Rattle.std.proofs.Common.{ℕ, ◌+◌, ◌≤◌, ◌≡◌, IsTrue, Bool, true, false, cond, List, [], ◌∷◌, length, Option, Some, None, refl, sym, inl}
use Rattle.std.proofs.{Common.{inr, arith}, lemmas.List.length-append}
use Rattle.std.specs.Cmp.Lexicographic.{same_text}
use Rattle.ixdtf_grammar.specs.declared.records.{MinutePrecisionOffset.MinutePrecisionOffset, TimeRecord.TimeRecord}
use Rattle.ixdtf_grammar.specs.declared.records.UtcOffsetRecordOrZ.{UtcOffsetRecordOrZ}
use Rattle.ixdtf.specs.language.{Letters.{Letter, Text}, Fractions.FractionParts}
use Rattle.ixdtf.specs.language.Times.{Clock, TimeShape, SecondText, ClockOf, IsTime, greatest_second, writes_seconds, Clock as clocks}
use Rattle.ixdtf.specs.language.Times.TimeShape.{hours, basic_minutes, colon_minutes, seconds, fractions}
use Rattle.ixdtf.specs.language.{Offsets.{IsOffsetOrZ, IsMinuteOffset, offset_of, minutes_of}, ZoneNames.{Zone, IsZone}}
use Rattle.ixdtf.specs.language.Brackets.{ZoneNote, Opens, OptionalBracket, Pair, IsPair, ArePairs}
use Rattle.ixdtf.specs.Handlers.{own_replies, calendar_key, calendar_value, first_calendar, is_calendar}
use Rattle.ixdtf_print.specs.Canonical.{two_digits, minutes_text, seconds_text, fraction_text, clock_text, minute_offset_text, offset_text, zone_text}
use Rattle.ixdtf_print.specs.Canonical.{opening_text, bracket_text, calendar_text}
use Rattle.ixdtf_print.specs.Spelled.{HasDigits, IsClock, IsDayTime, IsMinuteClock, IsShift, IsZoneText, HasZone, HasCalendar}
use Rattle.ixdtf_grammar.proofs.theorems.CoreSizes.{digits_long}
use Rattle.ixdtf_print.proofs.parts.DerivedDates.{of_fraction}

-- ---- clocks

pub seconds_long : (h m s : ℕ) → length (seconds_text h m s) ≡ 8
unfolding seconds_text two_digits
seconds_long h m s = refl

pub minutes_long : (h m : ℕ) → length (minutes_text h m) ≡ 5
unfolding minutes_text two_digits
minutes_long h m = refl

-- A canonical clock has at most this number of code units more than a text with or without seconds.
abbrev spare : Bool → ℕ
spare true = 2
spare false = 6

pub clock_long : (h m s : ℕ) (part : Option FractionParts) → length (clock_text h m s part) ≡ 8 + length (fraction_text part)
unfolding clock_text
clock_long h m s part = omega (arith, length-append {A = Letter}, seconds_long h m s)

abbrev clock_of : TimeRecord → Text
clock_of time = clock_text time.hour time.minute time.second time.fraction

abbrev Clocked : Clock → Bool → Text → TimeRecord → Type 0
Clocked clock in_full text time = IsClock (greatest_second clock) time.hour time.minute time.second time.fraction
    × (length (clock_of time) ≤ length text + spare in_full)

of_minutes : (clock : Clock) (text : Text) (time : TimeRecord) → time.hour ≤ 23 → time.minute ≤ 59 → time.second ≡ 0 → time.fraction ≡ None → 2 ≤ length text
    → Clocked clock false text time
of_minutes clock text time hour minute no_second no_fraction least = rw no_fraction (
  record { hour = hour; minute = minute; second = omega (arith, no_second); fraction = tt },
  omega (arith, clock_long time.hour time.minute time.second None, least),
)

-- A time with seconds has no fraction yet. With any fraction, it is a clock.
of_seconds : (clock : Clock) (text : Text) (time : TimeRecord) (part : Option FractionParts) → SecondText clock text time → HasDigits part
    → IsClock (greatest_second clock) time.hour time.minute time.second part × (time.fraction ≡ None) × (6 ≤ length text)
of_seconds clock text time part (inl h) d = (
  record { hour = h.hour.2; minute = h.minute.2; second = h.second.2; fraction = d },
  h.no_fraction,
  rw h.is (omega (arith, length-append {A = Letter}, digits_long 2 _ h.hour.0, digits_long 2 _ h.minute.0, digits_long 2 _ h.second.0)),
)
of_seconds clock text time part (inr h) d = (
  record { hour = h.hour.2; minute = h.minute.2; second = h.second.2; fraction = d },
  h.no_fraction,
  rw h.is (omega (arith, length-append {A = Letter}, digits_long 2 _ h.hour.0, digits_long 2 _ h.minute.0, digits_long 2 _ h.second.0)),
)

of_clock : (clock : Clock) (shape : TimeShape) (text : Text) (time : TimeRecord) → ClockOf clock shape text time
    → Clocked clock (writes_seconds shape) text time
of_clock clock hours text time h =
    of_minutes clock text time h.hour.2 (omega (arith, h.no_minute)) h.no_second h.no_fraction (omega (arith, digits_long 2 _ h.hour.0))
of_clock clock basic_minutes text time h =
    of_minutes clock text time h.hour.2 h.minute.2 h.no_second h.no_fraction (rw h.is (omega (arith, length-append {A = Letter}, digits_long 2 _ h.hour.0)))
of_clock clock colon_minutes text time h =
    of_minutes clock text time h.hour.2 h.minute.2 h.no_second h.no_fraction (rw h.is (omega (arith, length-append {A = Letter}, digits_long 2 _ h.hour.0)))
of_clock clock seconds text time h =
    let whole = of_seconds clock text time None h tt in
    rw whole.1 (whole.0, omega (arith, clock_long time.hour time.minute time.second None, whole.2))
of_clock clock fractions text time h =
    let part = of_fraction h.part h.fraction h.is_fraction in
    let whole = of_seconds clock h.whole _ (Some h.fraction) h.second part.0 in
    let long = clock_long time.hour time.minute time.second (Some h.fraction) in
    rw h.value (whole.0, rw h.is (omega (arith, long, whole.2, part.1, length-append {A = Letter})))

most_spare : (in_full : Bool) → spare in_full ≤ 6
most_spare true = omega arith
most_spare false = omega arith

pub of_time : (text : Text) (time : TimeRecord) → IsTime text time → IsDayTime time
    × (length (clock_text time.hour time.minute time.second time.fraction) ≤ length text + 6)
of_time text time (shape, h) =
    let c = of_clock clocks.Time shape text time h in
    (c.0, omega (arith, c.1, most_spare (writes_seconds shape)))

-- ---- offsets

of_minute_clock : (c : ℕ) (clock : Clock) (in_full : Bool) (body : Text) (time : TimeRecord) → Clocked clock in_full body time
    → IsMinuteClock (minutes_of c time) × (length (minute_offset_text (minutes_of c time)) ≤ length body + 4)
of_minute_clock c clock in_full body time whole = (
  (whole.0.hour, whole.0.minute),
  omega (
    arith,
    minutes_long time.hour time.minute,
    whole.1,
    clock_long time.hour time.minute time.second time.fraction,
    most_spare in_full,
  ),
)

of_signed : (c : ℕ) (in_full : Bool) (body : Text) (time : TimeRecord) → Clocked clocks.Offset in_full body time
    → IsShift (stands.Offset (offset_of c in_full time)) × (length (offset_text (Some (stands.Offset (offset_of c in_full time)))) ≤ length body + 4)
of_signed c true body time whole = (whole.0, omega (arith, whole.1))
of_signed c false body time whole = of_minute_clock c clocks.Offset false body time whole

pub of_offset : (text : Text) (offset : UtcOffsetRecordOrZ) → IsOffsetOrZ text offset → IsShift offset × (length (offset_text (Some offset)) ≤ length text + 3)
of_offset text offset (inl (o, h, is)) =
    let signed = of_signed h.c (writes_seconds h.shape) h.body h.time (of_clock clocks.Offset h.shape h.body h.time h.clock) in
    rw (is, h.value) (signed.0, rw h.is (omega (arith, signed.1)))
of_offset text offset (inr (z, is)) = rw is (tt, rw z.1 (omega arith))

of_minute_offset : (text : Text) (offset : MinutePrecisionOffset) → IsMinuteOffset text offset
    → IsMinuteClock offset × (length (minute_offset_text offset) ≤ length text + 3)
of_minute_offset text offset h =
    let whole = of_minute_clock h.c clocks.MinuteOffset _ h.body h.time (of_clock clocks.MinuteOffset h.shape h.body h.time h.clock) in
    rw h.value (whole.0, rw h.is (omega (arith, whole.1)))

-- ---- brackets

pub of_zone : (text : Text) (zone : Zone) → IsZone text zone → IsZoneText zone × (length (zone_text zone) ≤ length text + 3)
of_zone text zone (inl (name, (h, spelled), is)) = rw is (rw spelled at h, rw spelled (omega arith))
of_zone text zone (inr (offset, h, is)) = rw is (of_minute_offset text offset h)

opening_long : (text : Text) (critical : Bool) → Opens text critical → length text ≡ length (opening_text critical)
opening_long text true (first, second, is, (c, one, _), (d, two, _)) = rw (is, one, two) refl
opening_long text false (c, is, _) = rw is refl

pub of_bracket : (exact : Bool) (text : Text) (note : Option ZoneNote) → OptionalBracket exact text note → HasZone note × (length (bracket_text note) ≤ length text + 3)
of_bracket exact text None h = (tt, omega arith)
of_bracket exact text (Some note) h =
    let bracket = h.0 in
    let whole = of_zone bracket.inside note.zone bracket.zone in
    let opening = opening_long bracket.start note.critical bracket.opens in (
      whole.0,
      rw bracket.is (omega (arith, whole.1, opening, length-append {A = Letter})),
    )

-- ---- calendars

opening_least : (text : Text) (critical : Bool) → Opens text critical → 1 ≤ length text
opening_least text true h = omega (arith, opening_long text true h)
opening_least text false h = omega (arith, opening_long text false h)

-- If there is a calendar, it has a text, and this text is not longer than the given one.
abbrev pub Calendared : Text → Option (List ℕ) → Type 0
Calendared text calendar = HasCalendar calendar × (length (calendar_text calendar) ≤ length text)

of_pair : (text : Text) (pair : Pair) → IsPair text pair → pair.key ≡ calendar_key → Calendared text (Some pair.value)
of_pair text pair h is =
    let keys : length h.keys ≡ 4 = rw (h.key, is) refl in (
      rw h.value at h.is_value,
      rw (h.is, h.value) (omega (arith, keys, opening_least h.start pair.critical h.opens, length-append {A = Letter})),
    )

pub of_pairs : (text : Text) (pairs : List Pair) → ArePairs text pairs → Calendared text (calendar_value (first_calendar (own_replies pairs)))
of_pairs text [] h = (tt, omega arith)
of_pairs text (pair ∷ pairs) (first, rest, is, h, more) =
    by_test (is_calendar pair) (λ t. of_pair first pair h (same_text pair.key calendar_key (sym t))) (of_pairs rest pairs more)
  where
    long : length text ≡ length first + length rest
    long = rw is (length-append first rest)

    by_test : (b : Bool) → (IsTrue b → Calendared first (Some pair.value)) → Calendared rest (calendar_value (first_calendar (own_replies pairs)))
        → Calendared text (calendar_value (cond b (Some pair) (first_calendar (own_replies pairs))))
    by_test true here later = let now = here refl in (now.0, omega (arith, now.1, long))
    by_test false here later = (later.0, omega (arith, later.1, long))
