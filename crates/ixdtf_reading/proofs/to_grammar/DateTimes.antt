-- Reading a date-time of RFC 3339 returns a date-time, or the fault of a row that fits.
use Rattle.std.proofs.Common.{◌≡◌, ℕ, suc, ◌<◌, ◌≤◌, ◌⊎◌, Bool, true, false, IsTrue, IsFalse, [], ◌∷◌, ◌++◌, Ok, Err, Option, Some, None, refl, sym, ap, ◌∙◌}
use Rattle.std.proofs.{Common.{inl, inr, arith, append_assoc, append-nil, pos, ℤ, nat_le, ◌&&◌}, lemmas.Bool.{both_ways, and_parts, and_from, leb-true, le-leb}}
use Rattle.std.proofs.lemmas.Bool.{or_from, eqb-true, true≢false, Decides.nat_tests}
use Rattle.ixdtf_grammar.specs.declared.records.{DateRecord.DateRecord, TimeRecord.TimeRecord, MinutePrecisionOffset.MinutePrecisionOffset}
use Rattle.ixdtf_grammar.specs.declared.records.UtcOffsetRecordOrZ.{UtcOffsetRecordOrZ, TheVariants.{Offset, Z}}
use Rattle.ixdtf_grammar.specs.declared.records.UtcOffsetRecord.TheVariants.{MinutePrecision}
use Rattle.ixdtf_grammar.specs.language.Letters.{Text, Class, none, digit, hyphen, colon, sign, zulu, time_letter, ◌or◌, Letter.{Plain, Bad}}
use Rattle.ixdtf_grammar.specs.language.{Shapes.{Shape, one, some, digits, fewer_digits_than, ◌then◌, ◌either◌, nothing}, Digits.{decimal, UpTo}}
use Rattle.ixdtf_grammar.specs.language.{Dates.{Month, IsDayOfMonth, month_length}, Rfc3339.SecondFraction, Fractions.{FractionParts, fraction_of}}
use Rattle.ixdtf_grammar.specs.language.{Cores.{Core, core_of, IsDateTime}, Languages.{Parsed, parsed_with, IsRfc3339}, Readers.Reader.parse_rfc3339}
use Rattle.ixdtf_grammar.specs.language.DateTimes.{FullDateText, IsFullDate, IsSecfrac, OptionalSecfrac, IsPartialTime, IsNumOffset, IsTimeOffset}
use Rattle.ixdtf_grammar.specs.table.{Faults.Fault, LineNames.{DateTimeLine, LineName, LineName.of_date_time}}
use Rattle.ixdtf_grammar.specs.table.Lines.{date_time_line, line_of, range_fault, NoMonth, Past, OutOfRange, always}
use Rattle.ixdtf_grammar.specs.table.DateTimeFronts.{Field, point, UntilMonth, UntilDay, UntilHour, UntilMinute, UntilSecond, ThroughSecond, ThroughTime}
use Rattle.ixdtf_grammar.specs.table.DateTimeFronts.{UntilOffsetHour, UntilOffsetMinute, Until, Through, Field.{month_field, day_field, hour_field}}
use Rattle.ixdtf_grammar.specs.table.DateTimeFronts.Field.{minute_field, second_field, offset_hour_field, offset_minute_field}
use Rattle.ixdtf_grammar.specs.table.LineNames.DateTimeLine.{four_digits, after_four_digits, field_digits, field_range, after_field, after_point}
use Rattle.ixdtf_grammar.specs.table.{LineNames.DateTimeLine.{after_secfrac, after_utc}, Faults.Fault.{InvalidEnd, NonAsciiCodePoint}, Lines.{Line.line, Ending.ok}}
use Rattle.ixdtf_grammar.specs.table.Rows.{Row, Place, Stops, Fits, FitsHere, front_of, Place.{end, other, bad, anywhere}}
use Rattle.ixdtf_reading.specs.reading.{Looks.{Read, ◌>>=◌, row_of, look_of, letter_at, digits_at, digit_run, peek_by}, Dates.date_of, Times.time_of}
use Rattle.ixdtf_reading.specs.reading.DateTimes.{field_at, marked_field_at, is_month, is_day, at_most, num_offset, numeric_core, utc_core, Finish}
use Rattle.ixdtf_reading.specs.reading.DateTimes.{offset_minute_at, num_offset_at, time_offset_at, bad_after_secfrac, secfrac_digits_at, secfrac_at, after_whole_second_at}
use Rattle.ixdtf_reading.specs.reading.DateTimes.{whole_second_at, whole_minute_at, full_time_at, full_day_at, full_month_at, date_time_by, date_time_ends}
use Rattle.ixdtf_reading.specs.reading.DateTimes.{rfc_3339_at}
use Rattle.ixdtf_reading.proofs.parts.Looks.{OnRead, then_read, read_weaker, read_if, FitsIn, fits_in, lift, Looks, Goes, StopsHere, DigitsStop, digits_read}
use Rattle.ixdtf_reading.proofs.parts.Looks.{read_letter, OnRun, run_read, NotNext, Peeked, peek_line_read}
use Rattle.ixdtf_reading.proofs.to_reading.DateTimes.{Leads, written_fraction, time_to}

-- ---- ranges

-- The number of two digits is at most `greatest`.
within : (greatest : ℕ) (ds : Text) → digits 2 ds → IsTrue (at_most greatest (decimal ds)) → UpTo greatest ds (decimal ds)
within greatest ds two test = (two, refl, leb-true (decimal ds) greatest test)

not_at_most : (greatest n : ℕ) → IsFalse (at_most greatest n) → greatest < n
not_at_most greatest n test = grind (arith, nat_tests, test)

month_of : (ds : Text) → digits 2 ds → IsTrue (is_month (decimal ds)) → Month ds (decimal ds)
month_of ds two test = let both = and_parts _ _ test in ((two, refl), leb-true _ _ both.0, leb-true _ _ both.1)

no_month_of : (n : ℕ) → IsFalse (is_month n) → (n ≡ 0) ⊎ (12 < n)
no_month_of n test = grind (arith, nat_tests, test)

up_to_written : (greatest : ℕ) (ds : Text) (n : ℕ) → UpTo greatest ds n → UpTo greatest ds (decimal ds)
up_to_written greatest ds n h = (h.0, refl, rw h.1 at h.2)

-- If the first code unit of an offset is not `Z` or `z`, it is a sign.
sign_of_lead : (c : ℕ) → Leads c → IsFalse (zulu c) → IsTrue (sign c)
sign_of_lead c (inl h) no_utc = h
sign_of_lead c (inr h) no_utc = absurd (both_ways (zulu c) no_utc h)

lead_of : (c : ℕ) → IsTrue ((digit or sign or zulu) c) → IsFalse (digit c) → Leads c
lead_of c may no_digit = by_sign (sign c) refl
  where
    by_sign : (b : Bool) → sign c ≡ b → Leads c
    by_sign true is = inl is
    by_sign false is = inr (grind (arith, nat_tests, may, no_digit, is))

lead_past_point : (c : ℕ) → IsTrue ((point or sign or zulu) c) → IsFalse (point c) → Leads c
lead_past_point c may no_point = by_sign (sign c) refl
  where
    by_sign : (b : Bool) → sign c ≡ b → Leads c
    by_sign true is = inl is
    by_sign false is = inr (grind (arith, nat_tests, may, no_point, is))

-- A fraction or none, as in the record of a time.
part_of : (part : Text) (h : (nothing either SecondFraction) part) → OptionalSecfrac part (written_fraction part h)
part_of part (inl empty) = empty
part_of part (inr h) = record { ds = h.0; is = h.2; some = (h.1, h.3); value = refl }

-- ---- what was read up to the end of a time

-- The parts of a date-time before its offset.
record Parts (prior : Text) (date : DateRecord) (time : TimeRecord) : Type 0 where
  dates : Text
  letters : Text
  times : Text
  is : prior ≡ dates ++ (letters ++ times)
  is_date : IsFullDate dates date
  separates : one time_letter letters
  is_time : IsPartialTime times time

colon_is : (t : Text) → one colon t → t ≡ Plain 58 ∷ []
colon_is t h = h.1 ∙ ap (λ c. Plain c ∷ []) (eqb-true h.0 58 h.2)

parts_of : (prior : Text) (h : ThroughTime prior) → Parts prior h.3.3.3.3.3.0 (time_to prior h)
parts_of prior h =
    let seconds = h.3 in
    let minutes = seconds.3 in
    let hours = minutes.3 in
    let dated = hours.3 in record {
      dates = dated.0;
      letters = dated.1;
      times = hours.4.0 ++ (Plain 58 ∷ (minutes.4.0 ++ (Plain 58 ∷ (seconds.1 ++ h.1))));
      is = h.2
          ∙ rw (seconds.2, minutes.2, hours.2, dated.2, minutes.4.2, hours.4.2, colon_is minutes.4.1 minutes.4.4, colon_is hours.4.1 hours.4.4) (simp append_assoc);
      is_date = dated.3.1;
      separates = dated.4;
      is_time = record {
        hs = hours.4.0;
        ms = minutes.4.0;
        ss = seconds.1;
        part = h.1;
        is = refl;
        hour = up_to_written 23 hours.4.0 hours.4.3.0 hours.4.3.1;
        minute = up_to_written 59 minutes.4.0 minutes.4.3.0 minutes.4.3.1;
        second = up_to_written 60 seconds.1 seconds.4.0 seconds.4.1;
        fraction = part_of h.1 h.4;
      };
    }

-- A date-time with this offset.
with_offset : {prior : Text} {date : DateRecord} {time : TimeRecord} (offsets : Text) (offset : UtcOffsetRecordOrZ) → Parts prior date time
    → IsTimeOffset offsets offset → IsDateTime (prior ++ offsets) (core_of (Some date) (Some time) (Some offset))
with_offset {date} {time} offsets offset p o = record {
  dates = p.dates;
  letters = p.letters;
  times = p.times;
  offsets = offsets;
  date = date;
  time = time;
  offset = offset;
  is = rw p.is (simp append_assoc);
  is_date = p.is_date;
  separates = p.separates;
  is_time = p.is_time;
  is_offset = o;
  has = refl;
}

module _ {E : Type 0} (fault : Row → E) (brackets : Bool) (text : Text) where
  -- A row of the table lines of a date-time fits the text.
  abbrev pub FitsDateTime : Row → Type 0
  FitsDateTime row = FitsIn of_date_time brackets row text

  -- ---- one number

  module _ (field : Field) (test : ℕ → Bool) (prior body : Text) (is : text ≡ prior ++ body) (until : Until field prior)
      (out : (ds : Text) → digits 2 ds → IsFalse (test (decimal ds)) → OutOfRange field (prior ++ ds)) where
    longer_front : (ds rest : Text) → body ≡ ds ++ rest → text ≡ (prior ++ ds) ++ rest
    longer_front ds rest next = is ∙ rw next (simp append_assoc)

    -- There are fewer than two digits.
    digits_fit : (row : Row) → DigitsStop (of_date_time (field_digits field)) 2 body row → FitsDateTime row
    digits_fit row g =
        fits_in of_date_time brackets (field_digits field) row text (prior ++ g.2) g.3 g.6.0 (longer_front g.2 g.3 g.4) (prior, g.2, refl, until, (g.0, g.1, g.5)) g.6.1

    -- The number is not in its range.
    range_fits : (ds rest : Text) → body ≡ ds ++ rest → digits 2 ds → IsFalse (test (decimal ds))
        → FitsDateTime (row_of (of_date_time (field_range field)) (anywhere rest) (range_fault field))
    range_fits ds rest next two fails =
        fits_in of_date_time brackets (field_range field) (row_of (of_date_time (field_range field)) (anywhere rest) (range_fault field)) text (prior ++ ds) rest refl (longer_front ds rest next) (out ds two fails) (refl, refl)

    -- The digits of a number in its range were read.
    abbrev Numbered : ℕ → Text → Type 0
    Numbered n rest = (ds : Text) × (body ≡ ds ++ rest) × digits 2 ds × IsTrue (test (decimal ds)) × (n ≡ decimal ds)

    numbered : OnRead fault (field_at fault field test body) Numbered FitsDateTime
    unfolding field_at
    numbered = then_read fault (digits_at fault (of_date_time (field_digits field)) 2 body) _ _ _ Numbered FitsDateTime
        (digits_read fault (of_date_time (field_digits field)) (λ c. refl) 2 body)
        (λ ds rest g. read_if fault (test (decimal ds)) _ _ Numbered FitsDateTime
        (λ holds. (ds, g.0, g.1, holds, refl))
        (λ fails. (_, refl, range_fits ds rest g.0 g.1 fails)))
        digits_fit

    module _ {A : Type 0} (found : A → Text → Type 0) where
      field_read : (next : ℕ × Text → Read E A)
          → ((ds rest : Text) → body ≡ ds ++ rest → digits 2 ds → IsTrue (test (decimal ds)) → OnRead fault (next (decimal ds, rest)) found FitsDateTime)
          → OnRead fault (field_at fault field test body >>= next) found FitsDateTime
      field_read next goes_on = then_read fault (field_at fault field test body) next Numbered FitsDateTime found FitsDateTime numbered
          (λ n rest g. rw g.4 (goes_on g.0 rest g.1 g.2 g.3))
          (λ row g. g)

      marked_read : (next : ℕ × Text → Read E A) → Looks (line_of true (of_date_time (after_field field)))
          → ((ds : Text) → digits 2 ds → IsTrue (test (decimal ds)) → front_of (line_of brackets (of_date_time (after_field field))) (prior ++ ds))
          → ((place : Place) (e : Fault) (rest : Text) → Stops (line_of true (of_date_time (after_field field))) place e rest
          → Stops (line_of brackets (of_date_time (after_field field))) place e rest)
          → ((ds : Text) (c : ℕ) (rest : Text) → body ≡ ds ++ (Plain c ∷ rest) → digits 2 ds → IsTrue (test (decimal ds))
          → Goes (line_of true (of_date_time (after_field field))) c → OnRead fault (next (decimal ds, rest)) found FitsDateTime)
          → OnRead fault (marked_field_at fault field test body >>= next) found FitsDateTime
      unfolding marked_field_at
      marked_read next looks through same goes_on = go (field_at fault field test body) numbered
        where
          go : (r : Read E ℕ) → OnRead fault r Numbered FitsDateTime
              → OnRead fault ((r >>= λ number. letter_at fault (of_date_time (after_field field)) number.1 >>= λ mark. Ok (number.0, mark.1)) >>= next) found FitsDateTime
          go (Err e) h = h
          go (Ok x) h = then_read fault _ next (λ n rest. (c : ℕ) × (x.1 ≡ Plain c ∷ rest) × Goes (line_of true (of_date_time (after_field field))) c × (n ≡ x.0)) FitsDateTime found FitsDateTime
              (then_read fault (letter_at fault (of_date_time (after_field field)) x.1) _ _ _
              (λ n rest. (c : ℕ) × (x.1 ≡ Plain c ∷ rest) × Goes (line_of true (of_date_time (after_field field))) c × (n ≡ x.0)) FitsDateTime
              (read_letter fault (of_date_time (after_field field)) x.1 looks)
              (λ c rest g. (c, g.0, g.1, refl))
              (λ row g. fits_in of_date_time brackets (after_field field) row text (prior ++ h.0) x.1 g.0 (longer_front h.0 x.1 h.1) (through h.0 h.2 h.3)
              (same row.place row.error x.1 g.1)))
              (λ n rest g. rw (g.3, h.4) (goes_on h.0 g.0 rest (h.1 ∙ ap (λ t. h.0 ++ t) g.1) h.2 h.3 g.2))
              (λ row g. g)

  -- ---- stage by stage

  module _ {A : Type 0} (finish : Finish E A) (found : A → Text → Type 0)
      (utc_read : (prior rest : Text) (core : Core) → text ≡ prior ++ rest → IsDateTime prior core → front_of (date_time_line brackets after_utc) prior
      → OnRead fault (finish (of_date_time after_utc) core rest) found FitsDateTime)
      (offset_read : (prior rest : Text) (core : Core) → text ≡ prior ++ rest → IsDateTime prior core
      → front_of (date_time_line brackets (after_field offset_minute_field)) prior
      → OnRead fault (finish (of_date_time (after_field offset_minute_field)) core rest) found FitsDateTime) where
    abbrev Found : Read E A → Type 0
    Found read = OnRead fault read found FitsDateTime

    split : (prior ds rest body : Text) (c : ℕ) → text ≡ prior ++ body → body ≡ ds ++ (Plain c ∷ rest) → text ≡ (prior ++ (ds ++ (Plain c ∷ []))) ++ rest
    split prior ds rest body c is next = is ∙ rw next (simp append_assoc)

    offset_minute_read : (prior body : Text) → text ≡ prior ++ body → (h : UntilOffsetMinute prior)
        → Found (offset_minute_at fault finish h.3.3.3.3.3.3.3.0 (time_to h.3.0 h.3.3) h.3.4.0 (decimal h.4.0) body)
    unfolding offset_minute_at
    offset_minute_read prior body is h = field_read offset_minute_field (at_most 59) prior body is h
        (λ ds two fails. (prior, ds, refl, h, (two, not_at_most 59 (decimal ds) fails))) found _
        (λ ds rest next two holds.
        let hour = h.4 in
        let signs = h.3.4 in
        let offset : MinutePrecisionOffset = num_offset signs.0 (decimal hour.0) (decimal ds) in
        let written : IsNumOffset (Plain signs.0 ∷ (hour.0 ++ (Plain 58 ∷ ds))) offset = record {
          c = signs.0;
          hs = hour.0;
          ms = ds;
          is = refl;
          signed = signs.2;
          hour = up_to_written 23 hour.0 hour.3.0 hour.3.1;
          minute = within 59 ds two holds;
          value = refl;
        } in
        let prior_is : prior ≡ h.3.0 ++ (Plain signs.0 ∷ (hour.0 ++ (Plain 58 ∷ []))) =
        h.2 ∙ rw (h.3.2, signs.1, hour.2, colon_is hour.1 hour.4) (simp append_assoc) in
        let front : prior ++ ds ≡ h.3.0 ++ (Plain signs.0 ∷ (hour.0 ++ (Plain 58 ∷ ds))) = ap (λ t. t ++ ds) prior_is ∙ simp append_assoc in
        offset_read (prior ++ ds) rest _ (is ∙ rw next (simp append_assoc))
        (rw front (with_offset (Plain signs.0 ∷ (hour.0 ++ (Plain 58 ∷ ds))) (Offset (MinutePrecision offset)) (parts_of h.3.0 h.3.3) (inr (offset, written, refl))))
        (prior, ds, refl, h, (decimal ds, within 59 ds two holds)))

    num_offset_read : (prior body : Text) → text ≡ prior ++ body → (h : UntilOffsetHour prior)
        → Found (num_offset_at fault finish h.3.3.3.3.3.3.0 (time_to h.0 h.3) h.4.0 body)
    unfolding num_offset_at
    num_offset_read prior body is h = marked_read offset_hour_field (at_most 23) prior body is h
        (λ ds two fails. (prior, ds, refl, h, (two, not_at_most 23 (decimal ds) fails))) found _ tt
        (λ ds two holds. (prior, ds, refl, h, (decimal ds, within 23 ds two holds)))
        (λ place e rest at. at)
        (λ ds c rest next two holds may. offset_minute_read (prior ++ (ds ++ (Plain c ∷ []))) rest (split prior ds rest body c is next)
        (prior, ds ++ (Plain c ∷ []), refl, h, (ds, Plain c ∷ [], refl, (decimal ds, within 23 ds two holds), (c, refl, may))))

    -- Reading after a time and the first code unit of an offset.
    time_offset_read : (prior body : Text) (c : ℕ) → text ≡ (prior ++ (Plain c ∷ [])) ++ body → Leads c → (h : ThroughTime prior)
        → Found (time_offset_at fault finish h.3.3.3.3.3.0 (time_to prior h) c body)
    unfolding time_offset_at
    time_offset_read prior body c is leads h = read_if fault (zulu c) _ _ found FitsDateTime
        (λ utc. utc_read (prior ++ (Plain c ∷ [])) body _ is (with_offset (Plain c ∷ []) Z (parts_of prior h) (inl ((c, refl, utc), refl)))
        (prior, Plain c ∷ [], refl, h, (c, refl, utc)))
        (λ no_utc. num_offset_read (prior ++ (Plain c ∷ [])) body is (prior, Plain c ∷ [], refl, h, (c, refl, sign_of_lead c leads no_utc)))

    secfrac_read : (prior body : Text) → text ≡ (prior ++ (Plain 46 ∷ [])) ++ body → (h : ThroughSecond prior)
        → Found (secfrac_at fault finish h.3.3.3.3.0 (decimal h.3.3.4.0) (decimal h.3.4.0) (decimal h.1) body)
    unfolding secfrac_at secfrac_digits_at
    secfrac_read prior body is h = then_read fault (secfrac_digits_at fault body) _ Fractional FitsDateTime found FitsDateTime
        (then_read fault (letter_at fault (of_date_time after_point) body) _ _ _ Fractional FitsDateTime
        (read_letter fault (of_date_time after_point) body tt)
        (λ d more g. after_first d more g.0 g.1 (digit_run (bad_after_secfrac fault) more) (run_read (bad_after_secfrac fault) more))
        (λ row g. fits_in of_date_time brackets after_point row text (prior ++ (Plain 46 ∷ [])) body g.0 is (prior, Plain 46 ∷ [], refl, h, (46, refl, refl)) g.1))
        (λ fraction rest g. rw g.4 (after_run g.0 rest g.1 g.2 g.3.0 g.3.1))
        (λ row g. g)
      where
        -- The digits of a fraction were read.
        Fractional : FractionParts → Text → Type 0
        Fractional fraction rest = (ds : Text) × (n : ℕ) × (body ≡ ds ++ rest) × (digits (suc n) ds × NotNext digit rest) × (fraction ≡ fraction_of ds)

        behind : (ds rest : Text) → body ≡ ds ++ rest → text ≡ (prior ++ (Plain 46 ∷ ds)) ++ rest
        behind ds rest next = is ∙ rw next (simp append_assoc)

        shape : (ds : Text) (n : ℕ) → digits (suc n) ds → (ThroughSecond then SecondFraction) (prior ++ (Plain 46 ∷ ds))
        shape ds n some = (prior, Plain 46 ∷ ds, refl, h, (ds, n, refl, some))

        after_run : (ds rest : Text) (n : ℕ) → body ≡ ds ++ rest → digits (suc n) ds → NotNext digit rest
            → Found (letter_at fault (of_date_time after_secfrac) rest >>= λ lead. time_offset_at fault finish h.3.3.3.3.0
            (time_of (decimal h.3.3.4.0) (decimal h.3.4.0) (decimal h.1) (Some (fraction_of ds))) lead.0 lead.1)
        after_run ds rest n next some closed = then_read fault (letter_at fault (of_date_time after_secfrac) rest) _ _ _ found FitsDateTime
            (read_letter fault (of_date_time after_secfrac) rest tt)
            (λ c left g. let ends : IsFalse (digit c) = rw g.0 at closed in
            time_offset_read (prior ++ (Plain 46 ∷ ds)) left c (behind ds rest next ∙ rw g.0 (simp append_assoc)) (lead_of c g.1 ends)
            (prior, Plain 46 ∷ ds, refl, h, inr (ds, n, refl, some)))
            (λ row g. fits_in of_date_time brackets after_secfrac row text (prior ++ (Plain 46 ∷ ds)) rest g.0 (behind ds rest next) (shape ds n some) g.1)

        after_first : (d : ℕ) (more : Text) → body ≡ Plain d ∷ more → IsTrue (digit d) → (r : Read E Text) → OnRun (bad_after_secfrac fault) more r
            → OnRead fault (r >>= λ run. Ok (fraction_of (Plain d ∷ run.0), run.1)) Fractional FitsDateTime
        after_first d more next first (Ok x) g =
            (Plain d ∷ x.0, g.1.0, next ∙ ap (λ t. Plain d ∷ t) g.0, ((d, x.0, refl, first, g.1.1), g.2), refl)
        after_first d more next first (Err e) g = (
          row_of (of_date_time after_secfrac) (bad (Bad ∷ g.1)) NonAsciiCodePoint,
          g.2,
          fits_in of_date_time brackets after_secfrac (row_of (of_date_time after_secfrac) (bad (Bad ∷ g.1)) NonAsciiCodePoint) text (prior ++ (Plain 46 ∷ (Plain d ∷ g.0))) (Bad ∷ g.1) refl
              (behind (Plain d ∷ g.0) (Bad ∷ g.1) (next ∙ ap (λ t. Plain d ∷ t) g.3)) (shape (Plain d ∷ g.0) g.4 (d, g.0, refl, first, g.5)) (g.1, refl, refl, refl),
        )

    after_second_read : (prior body : Text) → text ≡ prior ++ body → (h : ThroughSecond prior)
        → Found (after_whole_second_at fault finish h.3.3.3.3.0 (decimal h.3.3.4.0) (decimal h.3.4.0) (decimal h.1) body)
    unfolding after_whole_second_at
    after_second_read prior body is h = then_read fault (letter_at fault (of_date_time (after_field second_field)) body) _ _ _ found FitsDateTime
        (read_letter fault (of_date_time (after_field second_field)) body tt)
        (λ c rest g. read_if fault (point c) _ _ found FitsDateTime
        (λ pointed. secfrac_read prior rest (is ∙ rw (g.0, eqb-true c 46 pointed) (simp append_assoc)) h)
        (λ no_point. time_offset_read prior rest c (is ∙ rw g.0 (simp append_assoc)) (lead_past_point c g.1 no_point) (prior, [], sym (append-nil prior), h, inl refl)))
        (λ row g. fits_in of_date_time brackets (after_field second_field) row text prior body g.0 is h g.1)

    second_read : (prior body : Text) → text ≡ prior ++ body → (h : UntilSecond prior)
        → Found (whole_second_at fault finish h.3.3.3.0 (decimal h.3.4.0) (decimal h.4.0) body)
    unfolding whole_second_at
    second_read prior body is h = field_read second_field (at_most 60) prior body is h
        (λ ds two fails. (prior, ds, refl, h, (two, not_at_most 60 (decimal ds) fails))) found _
        (λ ds rest next two holds. after_second_read (prior ++ ds) rest (is ∙ rw next (simp append_assoc))
        (prior, ds, refl, h, (decimal ds, within 60 ds two holds)))

    minute_read : (prior body : Text) → text ≡ prior ++ body → (h : UntilMinute prior) → Found (whole_minute_at fault finish h.3.3.0 (decimal h.4.0) body)
    unfolding whole_minute_at
    minute_read prior body is h = marked_read minute_field (at_most 59) prior body is h
        (λ ds two fails. (prior, ds, refl, h, (two, not_at_most 59 (decimal ds) fails))) found _ tt
        (λ ds two holds. (prior, ds, refl, h, (decimal ds, within 59 ds two holds)))
        (λ place e rest at. at)
        (λ ds c rest next two holds may. second_read (prior ++ (ds ++ (Plain c ∷ []))) rest (split prior ds rest body c is next)
        (prior, ds ++ (Plain c ∷ []), refl, h, (ds, Plain c ∷ [], refl, (decimal ds, within 59 ds two holds), (c, refl, may))))

    hour_read : (prior body : Text) → text ≡ prior ++ body → (h : UntilHour prior) → Found (full_time_at fault finish h.3.0 body)
    unfolding full_time_at
    hour_read prior body is h = marked_read hour_field (at_most 23) prior body is h
        (λ ds two fails. (prior, ds, refl, h, (two, not_at_most 23 (decimal ds) fails))) found _ tt
        (λ ds two holds. (prior, ds, refl, h, (decimal ds, within 23 ds two holds)))
        (λ place e rest at. at)
        (λ ds c rest next two holds may. minute_read (prior ++ (ds ++ (Plain c ∷ []))) rest (split prior ds rest body c is next)
        (prior, ds ++ (Plain c ∷ []), refl, h, (ds, Plain c ∷ [], refl, (decimal ds, within 23 ds two holds), (c, refl, may))))

    -- ---- dates

    module _ (years : Text) (y : digits 4 years) where
      abbrev year_mark : Text
      year_mark = years ++ (Plain 45 ∷ [])

      until_month : UntilMonth year_mark
      until_month = (years, Plain 45 ∷ [], refl, y, (45, refl, refl))

      day_read : (months body : Text) → Month months (decimal months) → text ≡ (year_mark ++ (months ++ (Plain 45 ∷ []))) ++ body
          → Found (full_day_at fault finish (pos (decimal years)) (decimal months) body)
      unfolding full_day_at
      day_read months body m is = marked_read day_field (is_day (pos (decimal years)) (decimal months)) month_mark body is
          (year_mark, months ++ (Plain 45 ∷ []), refl, until_month, (months, Plain 45 ∷ [], refl, (decimal months, m), (45, refl, refl)))
          (λ ds two fails. (date ds, (dated ds two, no_day ds fails))) found _ tt
          (λ ds two holds. (date ds, (dated ds two, day_of ds holds)))
          (λ place e rest at. at)
          (λ ds c rest next two holds may. hour_read ((month_mark ++ ds) ++ (Plain c ∷ [])) rest (is ∙ rw next (simp append_assoc))
          (month_mark ++ ds, Plain c ∷ [], refl, (date ds, (dated ds two, day_of ds holds)), (c, refl, may)))
        where
          month_mark : Text
          month_mark = year_mark ++ (months ++ (Plain 45 ∷ []))

          date : Text → DateRecord
          date ds = date_of (pos (decimal years)) (decimal months) (decimal ds)

          dated : (ds : Text) → digits 2 ds → FullDateText (month_mark ++ ds) (date ds)
          dated ds two =
              record { years = years; months = months; days = ds; is = simp append_assoc; year = (y, refl); month = m; day = (two, refl) }

          day_of : (ds : Text) → IsTrue (is_day (pos (decimal years)) (decimal months) (decimal ds)) → IsDayOfMonth (date ds)
          day_of ds holds = let both = and_parts _ _ holds in (leb-true _ _ both.0, leb-true _ _ both.1)

          no_day : (ds : Text) → IsFalse (is_day (pos (decimal years)) (decimal months) (decimal ds)) → ¬ (IsDayOfMonth (date ds))
          no_day ds fails h = both_ways _ fails (and_from _ _ (le-leb _ _ h.0) (le-leb _ _ h.1))

      month_read : (body : Text) → text ≡ year_mark ++ body → Found (full_month_at fault finish (pos (decimal years)) body)
      unfolding full_month_at
      month_read body is = marked_read month_field is_month year_mark body is until_month
          (λ ds two fails. (year_mark, ds, refl, until_month, (two, no_month_of (decimal ds) fails))) found _ tt
          (λ ds two holds. (year_mark, ds, refl, until_month, (decimal ds, month_of ds two holds)))
          (λ place e rest at. at)
          (λ ds c rest next two holds may. let mark : c ≡ 45 = eqb-true c 45 may in
          day_read ds rest (month_of ds two holds) (split year_mark ds rest body 45 is (next ∙ rw mark refl)))

    pub date_time_read : Found (date_time_by fault finish text)
    unfolding date_time_by
    date_time_read = then_read fault (digits_at fault (of_date_time four_digits) 4 text) _ _ _ found FitsDateTime
        (digits_read fault (of_date_time four_digits) (λ c. refl) 4 text)
        (λ years body g. then_read fault (letter_at fault (of_date_time after_four_digits) body) _ _ _ found FitsDateTime
        (read_letter fault (of_date_time after_four_digits) body tt)
        (λ c rest k. let mark : c ≡ 45 = eqb-true c 45 k.1 in month_read years g.1 rest (g.0 ∙ rw (k.0, mark) (simp append_assoc)))
        (λ row k. fits_in of_date_time brackets after_four_digits row text years body k.0 g.0 g.1 k.1))
        (λ row g. fits_in of_date_time brackets four_digits row text g.2 g.3 g.6.0 g.4 (g.0, g.1, g.5) g.6.1)

-- ---- a text that is a date-time

module _ {E : Type 0} (fault : Row → E) (text : Text) where
  abbrev WholeDateTime : Parsed → Text → Type 0
  WholeDateTime found rest = (rest ≡ []) × IsRfc3339 text found

  -- The end of the text, at a table line that accepts no code unit.
  ended : (name : DateTimeLine) (shape : Shape) (prior rest : Text) (core : Core) → text ≡ prior ++ rest → IsDateTime prior core
      → ((row : Row) → (row.name ≡ of_date_time name) × Stops (line shape none ok (always InvalidEnd)) row.place row.error rest → FitsDateTime fault false text row)
      → OnRead fault (peek_by (look_of fault (of_date_time name) (line shape none ok (always InvalidEnd))) rest >>= λ next. Ok (parsed_with core None, next.1))
      WholeDateTime (FitsDateTime fault false text)
  ended name shape prior rest core is d fits =
      then_read fault _ _ _ _ WholeDateTime (FitsDateTime fault false text) (peek_line_read fault (of_date_time name) shape none (always InvalidEnd) rest) at_next fits
    where
      at_next : (next : Option ℕ) (left : Text) → Peeked none rest next left → OnRead fault (Ok (parsed_with core None, left)) WholeDateTime (FitsDateTime fault false text)
      at_next None left k = let whole : text ≡ prior = is ∙ rw k.0 (append-nil prior) in (k.1, (core, rw whole d, refl))
      at_next (Some c) left k = absurd (true≢false (sym k.1))

  pub rfc_3339_read : OnRead fault (rfc_3339_at fault text) (λ found rest. (rest ≡ []) × IsRfc3339 text found) (λ row. Fits parse_rfc3339 row [] text)
  unfolding date_time_ends
  rfc_3339_read = read_weaker fault (rfc_3339_at fault text) WholeDateTime _ (FitsDateTime fault false text) _
      (date_time_read fault false text (date_time_ends fault) WholeDateTime
      (λ prior rest core is d front. ended after_utc (ThroughTime then one zulu) prior rest core is d
      (λ row h. fits_in of_date_time false after_utc row text prior rest h.0 is front h.1))
      (λ prior rest core is d front. ended (after_field offset_minute_field) (Through offset_minute_field) prior rest core is d
      (λ row h. fits_in of_date_time false (after_field offset_minute_field) row text prior rest h.0 is front h.1)))
      (λ found rest h. h)
      (λ row h. lift of_date_time parse_rfc3339 row text [] text refl (λ l. (refl, refl)) h)
