-- A date-time of RFC 3339 is read up to its end. Each row of its table lines is returned.
use Rattle.std.proofs.Common.{◌≡◌, ℕ, suc, ◌<◌, ◌≤◌, Bool, true, false, IsTrue, IsFalse, [], ◌∷◌, ◌++◌, Ok, Err, Option, Some, None, refl, sym, ap, ◌∙◌, subst}
use Rattle.std.proofs.{Common.{◌⊎◌, inl, inr, arith, append_assoc, append-nil, pos, ℤ, nat_le, ◌&&◌}, lemmas.Bool.{and_parts, and_from, or_parts, leb-true, le-leb}}
use Rattle.std.proofs.lemmas.Bool.{false_from_ne_true, eqb-true, Decides.nat_tests}
use Rattle.ixdtf_grammar.specs.declared.records.{DateRecord.DateRecord, TimeRecord.TimeRecord, MinutePrecisionOffset.MinutePrecisionOffset}
use Rattle.ixdtf_grammar.specs.declared.records.UtcOffsetRecordOrZ.{UtcOffsetRecordOrZ, TheVariants.{Offset, Z}}
use Rattle.ixdtf_grammar.specs.language.{Letters.{Text, digit, hyphen, colon, sign, zulu, time_letter, ◌or◌, Letter.{Plain, Bad}}, Shapes.{Shape, one, some, digits, ◌then◌, ◌either◌, nothing}, Digits.{decimal, UpTo}}
use Rattle.ixdtf_grammar.specs.language.{Dates.{Month, IsDayOfMonth, month_length}, Rfc3339.SecondFraction, Fractions.{FractionParts, fraction_of}, Cores.{Core, core_of, IsDateTime}}
use Rattle.ixdtf_grammar.specs.language.{Letters.none, Languages.{Parsed, parsed_with, IsRfc3339}, Readers.Reader.parse_rfc3339}
use Rattle.ixdtf_grammar.specs.language.DateTimes.{FullDateText, IsFullDate, IsSecfrac, OptionalSecfrac, IsPartialTime, IsNumOffset, IsTimeOffset}
use Rattle.ixdtf_grammar.specs.table.{Faults.Fault.InvalidEnd, Lines.always, DateTimeFronts.Through}
use Rattle.ixdtf_grammar.specs.table.{Faults.Fault, LineNames.{DateTimeLine, LineName.of_date_time}, Lines.{date_time_line, line_of, range_fault, NoMonth, Past}}
use Rattle.ixdtf_grammar.specs.table.DateTimeFronts.{Field, point, UntilMonth, UntilDay, UntilHour, UntilMinute, UntilSecond, ThroughSecond, ThroughTime}
use Rattle.ixdtf_grammar.specs.table.DateTimeFronts.{UntilOffsetHour, UntilOffsetMinute, Field.{month_field, day_field, hour_field, minute_field, second_field}}
use Rattle.ixdtf_grammar.specs.table.DateTimeFronts.Field.{offset_hour_field, offset_minute_field}
use Rattle.ixdtf_grammar.specs.table.LineNames.DateTimeLine.{four_digits, after_four_digits, field_digits, field_range, after_field, after_point}
use Rattle.ixdtf_grammar.specs.table.{LineNames.DateTimeLine.{after_secfrac, after_utc}, Rows.{Row, Place, Stops, Place.{end, other, bad, anywhere}}}
use Rattle.ixdtf_reading.specs.reading.{Looks.{Read, ◌>>=◌, row_of, letter_at, digits_at, digit_run}, Dates.date_of, Times.time_of}
use Rattle.ixdtf_reading.specs.reading.DateTimes.{field_at, marked_field_at, is_month, is_day, at_most, num_offset, numeric_core, utc_core, Finish}
use Rattle.ixdtf_reading.specs.reading.DateTimes.{offset_minute_at, num_offset_at, time_offset_at, bad_after_secfrac, secfrac_digits_at, secfrac_at, after_whole_second_at, whole_second_at}
use Rattle.ixdtf_reading.specs.reading.DateTimes.{whole_minute_at, full_time_at, full_day_at, full_month_at, date_time_by, date_time_ends, rfc_3339_at}
use Rattle.ixdtf_reading.proofs.parts.Looks.{ReadsOver, ◌before◌, ReadsTo, ◌upto◌, Halts, RowsRead, Looks, Goes, goes, stops, digits_go, digits_stop}
use Rattle.ixdtf_reading.proofs.parts.Looks.{NotNext, run_takes, run_bad, peek_end, peek_stops, ReadsAllRows}

-- ---- ranges

at_most_holds : (greatest : ℕ) (ds : Text) (n : ℕ) → UpTo greatest ds n → IsTrue (at_most greatest (decimal ds))
at_most_holds greatest ds n h = le-leb (decimal ds) greatest (rw h.1 at h.2)

past_fails : (greatest : ℕ) (ds : Text) → Past greatest ds → IsFalse (at_most greatest (decimal ds))
past_fails greatest ds h = false_from_ne_true _ (λ test. let fits : decimal ds ≤ greatest = leb-true (decimal ds) greatest test in omega (arith, fits, h.1))

month_holds : (ds : Text) (n : ℕ) → Month ds n → IsTrue (is_month (decimal ds))
month_holds ds n h = and_from _ _ (le-leb 1 (decimal ds) (rw h.0.1 at h.1)) (le-leb (decimal ds) 12 (rw h.0.1 at h.2))

no_month_fails : (ds : Text) → NoMonth ds → IsFalse (is_month (decimal ds))
no_month_fails ds h = false_from_ne_true _ (λ test. let both = and_parts _ _ test in out h.1 (leb-true _ _ both.0) (leb-true _ _ both.1))
  where
    out : (decimal ds ≡ 0) ⊎ (12 < decimal ds) → 1 ≤ decimal ds → decimal ds ≤ 12 → ⊥
    out (inl zero) least most = omega (arith, zero, least)
    out (inr past) least most = omega (arith, past, most)

-- The date of the numbers that are written.
abbrev pub date_written : {text : Text} {date : DateRecord} → FullDateText text date → DateRecord
date_written d = date_of (pos (decimal d.years)) (decimal d.months) (decimal d.days)

pub date_written_is : {text : Text} {date : DateRecord} (d : FullDateText text date) → date_written d ≡ date
date_written_is d = λ i. record { year = sym d.year.1 i; month = sym d.month.0.1 i; day = sym d.day.1 i }

day_holds : {text : Text} {date : DateRecord} (d : FullDateText text date) → IsDayOfMonth date
    → IsTrue (is_day (pos (decimal d.years)) (decimal d.months) (decimal d.days))
day_holds d h =
    let written : IsDayOfMonth (date_written d) = subst IsDayOfMonth (sym (date_written_is d)) h in
    and_from _ _ (le-leb _ _ written.0) (le-leb _ _ written.1)

no_day_fails : {text : Text} {date : DateRecord} (d : FullDateText text date) → ¬ (IsDayOfMonth date)
    → IsFalse (is_day (pos (decimal d.years)) (decimal d.months) (decimal d.days))
no_day_fails d none = false_from_ne_true _ (λ test.
    let both = and_parts _ _ test in none (subst IsDayOfMonth (date_written_is d) (leb-true _ _ both.0, leb-true _ _ both.1)))

-- The code unit is one with which an offset begins.
abbrev pub Leads : ℕ → Type 0
Leads c = IsTrue (sign c) ⊎ IsTrue (zulu c)

-- This code unit is not a digit and not a `.`. Table lines before an offset accept it.
lead_not_digit : (c : ℕ) (rest : Text) → Leads c → NotNext digit (Plain c ∷ rest)
lead_not_digit c rest (inl h) = grind (arith, nat_tests, h)
lead_not_digit c rest (inr h) = grind (arith, nat_tests, h)

lead_no_point : (c : ℕ) → Leads c → IsFalse (point c)
lead_no_point c (inl h) = grind (arith, nat_tests, h)
lead_no_point c (inr h) = grind (arith, nat_tests, h)

lead_may : (c : ℕ) → Leads c → IsTrue ((point or sign or zulu) c)
lead_may c (inl h) = grind (arith, nat_tests, h)
lead_may c (inr h) = grind (arith, nat_tests, h)

lead_may_too : (c : ℕ) → Leads c → IsTrue ((digit or sign or zulu) c)
lead_may_too c (inl h) = grind (arith, nat_tests, h)
lead_may_too c (inr h) = grind (arith, nat_tests, h)

-- The fraction that is written.
abbrev pub written_fraction : (part : Text) → (nothing either SecondFraction) part → Option FractionParts
written_fraction part (inl empty) = None
written_fraction part (inr h) = Some (fraction_of h.0)

-- The time of the text up to its end.
abbrev pub time_to : (prior : Text) → ThroughTime prior → TimeRecord
time_to prior h = time_of (decimal h.3.3.3.4.0) (decimal h.3.3.4.0) (decimal h.3.1) (written_fraction h.1 h.4)

module _ {E : Type 0} (fault : Row → E) where
  -- ---- one number

  module _ (field : Field) (test : ℕ → Bool) where
    field_takes : (ds rest : Text) → digits 2 ds → IsTrue (test (decimal ds)) → field_at fault field test (ds ++ rest) ≡ Ok (decimal ds, rest)
    unfolding field_at
    field_takes ds rest two holds = rw (digits_go fault (of_date_time (field_digits field)) (λ c. refl) 2 ds rest two, holds) refl

    field_stops : (k : ℕ) (ds rest : Text) (place : Place) (e : Fault) → k < 2 → digits k ds → Stops (date_time_line true (field_digits field)) place e rest
        → field_at fault field test (ds ++ rest) ≡ Err (fault (row_of (of_date_time (field_digits field)) place e))
    unfolding field_at
    field_stops k ds rest place e less h at = rw (digits_stop fault (of_date_time (field_digits field)) (λ c. refl) 2 k ds rest place e less h at) refl

    field_out : (ds rest : Text) → digits 2 ds → IsFalse (test (decimal ds))
        → field_at fault field test (ds ++ rest) ≡ Err (fault (row_of (of_date_time (field_range field)) (anywhere rest) (range_fault field)))
    unfolding field_at
    field_out ds rest two fails = rw (digits_go fault (of_date_time (field_digits field)) (λ c. refl) 2 ds rest two, fails) refl

    marked_takes : (ds rest : Text) (c : ℕ) → digits 2 ds → IsTrue (test (decimal ds)) → Looks (line_of true (of_date_time (after_field field)))
        → Goes (line_of true (of_date_time (after_field field))) c → marked_field_at fault field test (ds ++ (Plain c ∷ rest)) ≡ Ok (decimal ds, rest)
    unfolding marked_field_at
    marked_takes ds rest c two holds looks may =
        rw (field_takes ds (Plain c ∷ rest) two holds, goes fault (of_date_time (after_field field)) c rest looks may) refl

    marked_stops : (ds rest : Text) (place : Place) (e : Fault) → digits 2 ds → IsTrue (test (decimal ds)) → Looks (line_of true (of_date_time (after_field field)))
        → Stops (line_of true (of_date_time (after_field field))) place e rest
        → marked_field_at fault field test (ds ++ rest) ≡ Err (fault (row_of (of_date_time (after_field field)) place e))
    unfolding marked_field_at
    marked_stops ds rest place e two holds looks at =
        rw (field_takes ds rest two holds, stops fault (of_date_time (after_field field)) place e rest looks at) refl

    -- A fault in the number is the fault of a part that begins with it.
    marked_halts : (text : Text) (e : E) → field_at fault field test text ≡ Err e → marked_field_at fault field test text ≡ Err e
    unfolding marked_field_at
    marked_halts text e h = rw h refl

  -- ---- stage by stage

  module _ {A : Type 0} (finish : Finish E A) where
    abbrev whole : Text → Read E A
    whole = date_time_by fault finish

    over_until_month : (prior : Text) (h : UntilMonth prior) → ReadsOver whole prior (full_month_at fault finish (pos (decimal h.0)))
    unfolding date_time_by
    over_until_month prior h = record {
      over = λ rest. rw (
        h.2,
        h.4.1,
        append_assoc,
        digits_go fault (of_date_time four_digits) (λ c. refl) 4 h.0 (Plain h.4.0 ∷ rest) h.3,
        goes fault (of_date_time after_four_digits) h.4.0 rest tt h.4.2,
      ) refl;
    }

    over_month : (year : ℤ) (ds : Text) (c n : ℕ) → Month ds n → IsTrue (hyphen c) → ReadsOver (full_month_at fault finish year) (ds ++ (Plain c ∷ []))
        (full_day_at fault finish year (decimal ds))
    unfolding full_month_at
    over_month year ds c n h may =
        record { over = λ rest. rw (append_assoc, marked_takes month_field is_month ds rest c h.0.0 (month_holds ds n h) tt may) refl }

    over_until_day : (prior : Text) (h : UntilDay prior) → ReadsOver whole prior (full_day_at fault finish (pos (decimal h.3.0)) (decimal h.4.0))
    over_until_day prior h =
        rw (h.2, h.4.2, h.4.4.1) (over_until_month h.0 h.3 before over_month (pos (decimal h.3.0)) h.4.0 h.4.4.0 h.4.3.0 h.4.3.1 h.4.4.2)

    -- Reading goes up to the day of a full date. The day is not tested.
    day_reached : {dates : Text} {date : DateRecord} (d : FullDateText dates date) (rest : Text)
        → whole (dates ++ rest) ≡ full_day_at fault finish (pos (decimal d.years)) (decimal d.months) (d.days ++ rest)
    day_reached d rest =
        let until : UntilMonth (d.years ++ (Plain 45 ∷ [])) = (d.years, Plain 45 ∷ [], refl, d.year.0, (45, refl, refl)) in
        ap whole (rw d.is (simp append_assoc))
        ∙ (over_until_month _ until before over_month (pos (decimal d.years)) d.months 45 _ d.month refl).over (d.days ++ rest)

    over_full_date : (dates letter : Text) (date : DateRecord) → IsFullDate dates date → one time_letter letter
        → ReadsOver whole (dates ++ letter) (full_time_at fault finish date)
    unfolding full_day_at
    over_full_date dates letter date (d, h) (c, is, may) = record {
      over = λ rest.
          ap whole (rw is (simp append_assoc)) ∙ day_reached d (Plain c ∷ rest)
          ∙ rw (marked_takes day_field (is_day (pos (decimal d.years)) (decimal d.months)) d.days rest c d.day.0 (day_holds d h) tt may, date_written_is d) refl;
    }

    over_hour : (date : DateRecord) (ds : Text) (c n : ℕ) → UpTo 23 ds n → IsTrue (colon c)
        → ReadsOver (full_time_at fault finish date) (ds ++ (Plain c ∷ [])) (whole_minute_at fault finish date (decimal ds))
    unfolding full_time_at
    over_hour date ds c n h may =
        record { over = λ rest. rw (append_assoc, marked_takes hour_field (at_most 23) ds rest c h.0 (at_most_holds 23 ds n h) tt may) refl }

    over_minute : (date : DateRecord) (hour : ℕ) (ds : Text) (c n : ℕ) → UpTo 59 ds n → IsTrue (colon c)
        → ReadsOver (whole_minute_at fault finish date hour) (ds ++ (Plain c ∷ [])) (whole_second_at fault finish date hour (decimal ds))
    unfolding whole_minute_at
    over_minute date hour ds c n h may =
        record { over = λ rest. rw (append_assoc, marked_takes minute_field (at_most 59) ds rest c h.0 (at_most_holds 59 ds n h) tt may) refl }

    over_second : (date : DateRecord) (hour minute : ℕ) (ds : Text) (n : ℕ) → UpTo 60 ds n
        → ReadsOver (whole_second_at fault finish date hour minute) ds (after_whole_second_at fault finish date hour minute (decimal ds))
    unfolding whole_second_at
    over_second date hour minute ds n h = record { over = λ rest. rw (field_takes second_field (at_most 60) ds rest h.0 (at_most_holds 60 ds n h)) refl }

    -- ---- up to a number

    over_until_hour : (prior : Text) (h : UntilHour prior) → ReadsOver whole prior (full_time_at fault finish h.3.0)
    over_until_hour prior h = rw h.2 (over_full_date h.0 h.1 h.3.0 h.3.1 h.4)

    over_until_minute : (prior : Text) (h : UntilMinute prior) → ReadsOver whole prior (whole_minute_at fault finish h.3.3.0 (decimal h.4.0))
    over_until_minute prior h =
        rw (h.2, h.4.2, h.4.4.1) (over_until_hour h.0 h.3 before over_hour h.3.3.0 h.4.0 h.4.4.0 h.4.3.0 h.4.3.1 h.4.4.2)

    over_until_second : (prior : Text) (h : UntilSecond prior)
        → ReadsOver whole prior (whole_second_at fault finish h.3.3.3.0 (decimal h.3.4.0) (decimal h.4.0))
    over_until_second prior h =
        rw (h.2, h.4.2, h.4.4.1) (over_until_minute h.0 h.3 before over_minute h.3.3.3.0 (decimal h.3.4.0) h.4.0 h.4.4.0 h.4.3.0 h.4.3.1 h.4.4.2)

    pub over_through_second : (prior : Text) (h : ThroughSecond prior)
        → ReadsOver whole prior (after_whole_second_at fault finish h.3.3.3.3.0 (decimal h.3.3.4.0) (decimal h.3.4.0) (decimal h.1))
    over_through_second prior h =
        rw h.2 (over_until_second h.0 h.3 before over_second h.3.3.3.3.0 (decimal h.3.3.4.0) (decimal h.3.4.0) h.1 h.4.0 h.4.1)

    -- ---- after the seconds

    module _ (date : DateRecord) (hour minute second : ℕ) where
      over_point : (c : ℕ) → IsTrue (point c) → ReadsOver (after_whole_second_at fault finish date hour minute second) (Plain c ∷ [])
          (secfrac_at fault finish date hour minute second)
      unfolding after_whole_second_at
      over_point c h = record {
        over = λ rest.
            let may : IsTrue ((point or sign or zulu) c) = grind (arith, nat_tests, h) in
            rw (goes fault (of_date_time (after_field second_field)) c rest tt may, h) refl;
      }

      over_lead : (c : ℕ) → Leads c → ReadsOver (after_whole_second_at fault finish date hour minute second) (Plain c ∷ [])
          (time_offset_at fault finish date (time_of hour minute second None) c)
      unfolding after_whole_second_at
      over_lead c h = record {
        over = λ rest.
            let may : IsTrue ((point or sign or zulu) c) = lead_may c h in
            let no_point : IsFalse (point c) = lead_no_point c h in
            rw (goes fault (of_date_time (after_field second_field)) c rest tt may, no_point) refl;
      }

      -- A fraction, and the first code unit of an offset.
      over_secfrac : (ds : Text) (n c : ℕ) → digits (suc n) ds → Leads c → ReadsOver (secfrac_at fault finish date hour minute second) (ds ++ (Plain c ∷ []))
          (time_offset_at fault finish date (time_of hour minute second (Some (fraction_of ds))) c)
      unfolding secfrac_at secfrac_digits_at
      over_secfrac ds n c h leads = record {
        over = λ rest.
            let may : IsTrue ((digit or sign or zulu) c) = lead_may_too c leads in
            rw (
              append_assoc,
              h.2,
              goes fault (of_date_time after_point) h.0 (h.1 ++ (Plain c ∷ rest)) tt h.3,
              run_takes (bad_after_secfrac fault) n h.1 (Plain c ∷ rest) h.4 (lead_not_digit c rest leads),
              goes fault (of_date_time after_secfrac) c rest tt may,
            ) refl;
      }

      -- A fraction or none, and the first code unit of an offset.
      over_part : (part : Text) (h : (nothing either SecondFraction) part) (c : ℕ) → Leads c
          → ReadsOver (after_whole_second_at fault finish date hour minute second) (part ++ (Plain c ∷ []))
          (time_offset_at fault finish date (time_of hour minute second (written_fraction part h)) c)
      over_part part (inl none) c leads = rw none (over_lead c leads)
      over_part part (inr h) c leads = rw h.2 (over_point 46 refl before over_secfrac h.0 h.1 c h.3 leads)

    over_through_time : (prior : Text) (h : ThroughTime prior) (c : ℕ) → Leads c
        → ReadsOver whole (prior ++ (Plain c ∷ [])) (time_offset_at fault finish h.3.3.3.3.3.0 (time_to prior h) c)
    over_through_time prior h c leads =
        rw (h.2, append_assoc) (over_through_second h.0 h.3
        before over_part h.3.3.3.3.3.0 (decimal h.3.3.3.4.0) (decimal h.3.3.4.0) (decimal h.3.1) h.1 h.4 c leads)

    -- ---- offsets

    utc_over : (date : DateRecord) (time : TimeRecord) (c : ℕ) (rest : Text) → IsTrue (zulu c)
        → time_offset_at fault finish date time c rest ≡ finish (of_date_time after_utc) (utc_core date time) rest
    unfolding time_offset_at
    utc_over date time c rest h = rw h refl

    sign_over : (date : DateRecord) (time : TimeRecord) (c : ℕ) (rest : Text) → IsTrue (sign c)
        → time_offset_at fault finish date time c rest ≡ num_offset_at fault finish date time c rest
    unfolding time_offset_at
    sign_over date time c rest h = let no_zulu : IsFalse (zulu c) = grind (arith, nat_tests, h) in rw no_zulu refl

    over_until_offset_hour : (prior : Text) (h : UntilOffsetHour prior)
        → ReadsOver whole prior (num_offset_at fault finish h.3.3.3.3.3.3.0 (time_to h.0 h.3) h.4.0)
    over_until_offset_hour prior h = record {
      over = λ rest.
          rw (h.2, h.4.1) ((over_through_time h.0 h.3 h.4.0 (inl h.4.2)).over rest ∙ sign_over h.3.3.3.3.3.3.0 (time_to h.0 h.3) h.4.0 rest h.4.2);
    }

    pub over_offset_hour : (date : DateRecord) (time : TimeRecord) (s : ℕ) (ds : Text) (c n : ℕ) → UpTo 23 ds n → IsTrue (colon c)
        → ReadsOver (num_offset_at fault finish date time s) (ds ++ (Plain c ∷ [])) (offset_minute_at fault finish date time s (decimal ds))
    unfolding num_offset_at
    over_offset_hour date time s ds c n h may =
        record { over = λ rest. rw (append_assoc, marked_takes offset_hour_field (at_most 23) ds rest c h.0 (at_most_holds 23 ds n h) tt may) refl }

    over_until_offset_minute : (prior : Text) (h : UntilOffsetMinute prior)
        → ReadsOver whole prior (offset_minute_at fault finish h.3.3.3.3.3.3.3.0 (time_to h.3.0 h.3.3) h.3.4.0 (decimal h.4.0))
    over_until_offset_minute prior h =
        rw (h.2, h.4.2, h.4.4.1) (over_until_offset_hour h.0 h.3
        before over_offset_hour h.3.3.3.3.3.3.3.0 (time_to h.3.0 h.3.3) h.3.4.0 h.4.0 h.4.4.0 h.4.3.0 h.4.3.1 h.4.4.2)

    pub over_offset_minute : (date : DateRecord) (time : TimeRecord) (s hour : ℕ) (ds rest : Text) (n : ℕ) → UpTo 59 ds n
        → offset_minute_at fault finish date time s hour (ds ++ rest)
        ≡ finish (of_date_time (after_field offset_minute_field)) (numeric_core date time (num_offset s hour (decimal ds))) rest
    unfolding offset_minute_at
    over_offset_minute date time s hour ds rest n h = rw (field_takes offset_minute_field (at_most 59) ds rest h.0 (at_most_holds 59 ds n h)) refl

    -- ---- a fault in a number is the fault of what is read with it

    month_halts : (year : ℤ) (text : Text) (e : E) → marked_field_at fault month_field is_month text ≡ Err e → full_month_at fault finish year text ≡ Err e
    unfolding full_month_at
    month_halts year text e h = rw h refl

    day_halts : (year : ℤ) (month : ℕ) (text : Text) (e : E) → marked_field_at fault day_field (is_day year month) text ≡ Err e
        → full_day_at fault finish year month text ≡ Err e
    unfolding full_day_at
    day_halts year month text e h = rw h refl

    hour_halts : (date : DateRecord) (text : Text) (e : E) → marked_field_at fault hour_field (at_most 23) text ≡ Err e
        → full_time_at fault finish date text ≡ Err e
    unfolding full_time_at
    hour_halts date text e h = rw h refl

    minute_halts : (date : DateRecord) (hour : ℕ) (text : Text) (e : E) → marked_field_at fault minute_field (at_most 59) text ≡ Err e
        → whole_minute_at fault finish date hour text ≡ Err e
    unfolding whole_minute_at
    minute_halts date hour text e h = rw h refl

    second_halts : (date : DateRecord) (hour minute : ℕ) (text : Text) (e : E) → field_at fault second_field (at_most 60) text ≡ Err e
        → whole_second_at fault finish date hour minute text ≡ Err e
    unfolding whole_second_at
    second_halts date hour minute text e h = rw h refl

    offset_hour_halts : (date : DateRecord) (time : TimeRecord) (s : ℕ) (text : Text) (e : E) → marked_field_at fault offset_hour_field (at_most 23) text ≡ Err e
        → num_offset_at fault finish date time s text ≡ Err e
    unfolding num_offset_at
    offset_hour_halts date time s text e h = rw h refl

    offset_minute_halts : (date : DateRecord) (time : TimeRecord) (s hour : ℕ) (text : Text) (e : E)
        → field_at fault offset_minute_field (at_most 59) text ≡ Err e → offset_minute_at fault finish date time s hour text ≡ Err e
    unfolding offset_minute_at
    offset_minute_halts date time s hour text e h = rw h refl

    lead_halts : (date : DateRecord) (hour minute second : ℕ) (place : Place) (e : Fault) (rest : Text)
        → Stops (date_time_line true (after_field second_field)) place e rest
        → after_whole_second_at fault finish date hour minute second rest ≡ Err (fault (row_of (of_date_time (after_field second_field)) place e))
    unfolding after_whole_second_at
    lead_halts date hour minute second place e rest at = rw (stops fault (of_date_time (after_field second_field)) place e rest tt at) refl

    point_halts : (date : DateRecord) (hour minute second : ℕ) (place : Place) (e : Fault) (rest : Text) → Stops (date_time_line true after_point) place e rest
        → secfrac_at fault finish date hour minute second rest ≡ Err (fault (row_of (of_date_time after_point) place e))
    unfolding secfrac_at secfrac_digits_at
    point_halts date hour minute second place e rest at = rw (stops fault (of_date_time after_point) place e rest tt at) refl

    secfrac_halts : (date : DateRecord) (hour minute second : ℕ) (ds : Text) (n : ℕ) → digits (suc n) ds → (place : Place) (e : Fault) (rest : Text)
        → Stops (date_time_line true after_secfrac) place e rest
        → secfrac_at fault finish date hour minute second (ds ++ rest) ≡ Err (fault (row_of (of_date_time after_secfrac) place e))
    unfolding secfrac_at secfrac_digits_at
    secfrac_halts date hour minute second ds n h (bad left) e rest at =
        rw (
          h.2,
          at.3,
          at.1,
          at.2,
          goes fault (of_date_time after_point) h.0 (h.1 ++ (Bad ∷ at.0)) tt h.3,
          run_bad (bad_after_secfrac fault) n h.1 at.0 h.4,
        ) refl
    secfrac_halts date hour minute second ds n h (end left) e rest at =
        let closed : NotNext digit rest = rw at.0 tt in
        rw (
          h.2,
          goes fault (of_date_time after_point) h.0 (h.1 ++ rest) tt h.3,
          run_takes (bad_after_secfrac fault) n h.1 rest h.4 closed,
          stops fault (of_date_time after_secfrac) (end left) e rest tt at,
        ) refl
    secfrac_halts date hour minute second ds n h (other left) e rest at =
        let closed : NotNext digit rest = rw at.2 (or_parts (digit at.0) (sign at.0) (or_parts ((digit or sign) at.0) (zulu at.0) at.3).0).0 in
        rw (
          h.2,
          goes fault (of_date_time after_point) h.0 (h.1 ++ rest) tt h.3,
          run_takes (bad_after_secfrac fault) n h.1 rest h.4 closed,
          stops fault (of_date_time after_secfrac) (other left) e rest tt at,
        ) refl
    secfrac_halts date hour minute second ds n h (anywhere left) e rest at = absurd at

    to_err : (stage : Text → Read E A) (ds rest : Text) (e : E) → stage (ds ++ rest) ≡ Err e → Halts stage ds rest e
    to_err stage ds rest e h = record { reads_to = h }

    -- ---- each row

    module _ (brackets : Bool)
        (utc_stops : (core : Core) (place : Place) (e : Fault) (rest : Text) → Stops (date_time_line brackets after_utc) place e rest
        → finish (of_date_time after_utc) core rest ≡ Err (fault (row_of (of_date_time after_utc) place e)))
        (offset_stops : (core : Core) (place : Place) (e : Fault) (rest : Text) → Stops (date_time_line brackets (after_field offset_minute_field)) place e rest
        → finish (of_date_time (after_field offset_minute_field)) core rest ≡ Err (fault (row_of (of_date_time (after_field offset_minute_field)) place e))) where
      digits_rows : (field : Field) → RowsRead fault brackets whole (of_date_time (field_digits field))
      digits_rows month_field place e front rest f at =
          rw f.2 ((over_until_month f.0 f.3 upto to_err _ f.1 rest _ (month_halts _ _ _ (marked_halts month_field is_month _ _
          (field_stops month_field is_month f.4.0 f.1 rest place e f.4.1 f.4.2 at)))).reads_to)
      digits_rows day_field place e front rest f at =
          rw f.2 ((over_until_day f.0 f.3 upto to_err _ f.1 rest _ (day_halts _ _ _ _ (marked_halts day_field _ _ _
          (field_stops day_field _ f.4.0 f.1 rest place e f.4.1 f.4.2 at)))).reads_to)
      digits_rows hour_field place e front rest f at =
          rw f.2 ((over_until_hour f.0 f.3 upto to_err _ f.1 rest _ (hour_halts _ _ _ (marked_halts hour_field (at_most 23) _ _
          (field_stops hour_field (at_most 23) f.4.0 f.1 rest place e f.4.1 f.4.2 at)))).reads_to)
      digits_rows minute_field place e front rest f at =
          rw f.2 ((over_until_minute f.0 f.3 upto to_err _ f.1 rest _ (minute_halts _ _ _ _ (marked_halts minute_field (at_most 59) _ _
          (field_stops minute_field (at_most 59) f.4.0 f.1 rest place e f.4.1 f.4.2 at)))).reads_to)
      digits_rows second_field place e front rest f at =
          rw f.2 ((over_until_second f.0 f.3 upto to_err _ f.1 rest _ (second_halts _ _ _ _ _
          (field_stops second_field (at_most 60) f.4.0 f.1 rest place e f.4.1 f.4.2 at))).reads_to)
      digits_rows offset_hour_field place e front rest f at =
          rw f.2 ((over_until_offset_hour f.0 f.3 upto to_err _ f.1 rest _ (offset_hour_halts _ _ _ _ _ (marked_halts offset_hour_field (at_most 23) _ _
          (field_stops offset_hour_field (at_most 23) f.4.0 f.1 rest place e f.4.1 f.4.2 at)))).reads_to)
      digits_rows offset_minute_field place e front rest f at =
          rw f.2 ((over_until_offset_minute f.0 f.3 upto to_err _ f.1 rest _ (offset_minute_halts _ _ _ _ _ _
          (field_stops offset_minute_field (at_most 59) f.4.0 f.1 rest place e f.4.1 f.4.2 at))).reads_to)

      range_rows : (field : Field) → RowsRead fault brackets whole (of_date_time (field_range field))
      range_rows month_field (anywhere left) e front rest f at =
          rw (f.2, at.0, at.1) ((over_until_month f.0 f.3 upto to_err _ f.1 rest _ (month_halts _ _ _ (marked_halts month_field is_month _ _
          (field_out month_field is_month f.1 rest f.4.0 (no_month_fails f.1 f.4))))).reads_to)
      range_rows day_field (anywhere left) e front rest f at =
          let d = f.1.0 in
          rw (at.0, at.1) (day_reached d rest ∙ day_halts _ _ _ _ (marked_halts day_field _ _ _ (field_out day_field _ d.days rest d.day.0 (no_day_fails d f.1.1))))
      range_rows hour_field (anywhere left) e front rest f at =
          rw (f.2, at.0, at.1) ((over_until_hour f.0 f.3 upto to_err _ f.1 rest _ (hour_halts _ _ _ (marked_halts hour_field (at_most 23) _ _
          (field_out hour_field (at_most 23) f.1 rest f.4.0 (past_fails 23 f.1 f.4))))).reads_to)
      range_rows minute_field (anywhere left) e front rest f at =
          rw (f.2, at.0, at.1) ((over_until_minute f.0 f.3 upto to_err _ f.1 rest _ (minute_halts _ _ _ _ (marked_halts minute_field (at_most 59) _ _
          (field_out minute_field (at_most 59) f.1 rest f.4.0 (past_fails 59 f.1 f.4))))).reads_to)
      range_rows second_field (anywhere left) e front rest f at =
          rw (f.2, at.0, at.1) ((over_until_second f.0 f.3 upto to_err _ f.1 rest _ (second_halts _ _ _ _ _
          (field_out second_field (at_most 60) f.1 rest f.4.0 (past_fails 60 f.1 f.4)))).reads_to)
      range_rows offset_hour_field (anywhere left) e front rest f at =
          rw (f.2, at.0, at.1) ((over_until_offset_hour f.0 f.3 upto to_err _ f.1 rest _ (offset_hour_halts _ _ _ _ _
          (marked_halts offset_hour_field (at_most 23) _ _ (field_out offset_hour_field (at_most 23) f.1 rest f.4.0 (past_fails 23 f.1 f.4))))).reads_to)
      range_rows offset_minute_field (anywhere left) e front rest f at =
          rw (f.2, at.0, at.1) ((over_until_offset_minute f.0 f.3 upto to_err _ f.1 rest _ (offset_minute_halts _ _ _ _ _ _
          (field_out offset_minute_field (at_most 59) f.1 rest f.4.0 (past_fails 59 f.1 f.4)))).reads_to)
      range_rows field place e front rest f at = absurd at

      after_rows : (field : Field) → RowsRead fault brackets whole (of_date_time (after_field field))
      after_rows month_field place e front rest f at =
          rw f.2 ((over_until_month f.0 f.3 upto to_err _ f.1 rest _ (month_halts _ _ _
          (marked_stops month_field is_month f.1 rest place e f.4.1.0.0 (month_holds f.1 f.4.0 f.4.1) tt at))).reads_to)
      after_rows day_field place e front rest f at =
          let d = f.1.0 in
          day_reached d rest ∙ day_halts _ _ _ _ (marked_stops day_field _ d.days rest place e d.day.0 (day_holds d f.1.1) tt at)
      after_rows hour_field place e front rest f at =
          rw f.2 ((over_until_hour f.0 f.3 upto to_err _ f.1 rest _ (hour_halts _ _ _
          (marked_stops hour_field (at_most 23) f.1 rest place e f.4.1.0 (at_most_holds 23 f.1 f.4.0 f.4.1) tt at))).reads_to)
      after_rows minute_field place e front rest f at =
          rw f.2 ((over_until_minute f.0 f.3 upto to_err _ f.1 rest _ (minute_halts _ _ _ _
          (marked_stops minute_field (at_most 59) f.1 rest place e f.4.1.0 (at_most_holds 59 f.1 f.4.0 f.4.1) tt at))).reads_to)
      after_rows second_field place e front rest f at = (over_through_second front f).over rest ∙ lead_halts _ _ _ _ place e rest at
      after_rows offset_hour_field place e front rest f at =
          rw f.2 ((over_until_offset_hour f.0 f.3 upto to_err _ f.1 rest _ (offset_hour_halts _ _ _ _ _
          (marked_stops offset_hour_field (at_most 23) f.1 rest place e f.4.1.0 (at_most_holds 23 f.1 f.4.0 f.4.1) tt at))).reads_to)
      after_rows offset_minute_field place e front rest f at =
          rw f.2 ((over_until_offset_minute f.0 f.3 upto to_err _ f.1 rest _
          (over_offset_minute _ _ _ _ f.1 rest f.4.0 f.4.1 ∙ offset_stops _ place e rest at)).reads_to)

      pub date_time_rows : (l : DateTimeLine) → RowsRead fault brackets whole (of_date_time l)
      unfolding date_time_by
      date_time_rows four_digits place e front rest f at =
          rw (digits_stop fault (of_date_time four_digits) (λ c. refl) 4 f.0 front rest place e f.1 f.2 at) refl
      date_time_rows after_four_digits place e front rest f at =
          rw (digits_go fault (of_date_time four_digits) (λ c. refl) 4 front rest f, stops fault (of_date_time after_four_digits) place e rest tt at) refl
      date_time_rows (field_digits field) place e front rest f at = digits_rows field place e front rest f at
      date_time_rows (field_range field) place e front rest f at = range_rows field place e front rest f at
      date_time_rows (after_field field) place e front rest f at = after_rows field place e front rest f at
      date_time_rows after_point place e front rest f at =
          rw (f.2, f.4.1) ((over_through_second f.0 f.3 before over_point _ _ _ _ f.4.0 f.4.2).over rest ∙ point_halts _ _ _ _ place e rest at)
      date_time_rows after_secfrac place e front rest f at =
          rw (f.2, f.4.2) ((over_through_second f.0 f.3
          upto over_point _ _ _ _ 46 refl
          upto to_err _ f.4.0 rest _ (secfrac_halts _ _ _ _ f.4.0 f.4.1 f.4.3 place e rest at)).reads_to)
      date_time_rows after_utc place e front rest f at =
          rw (f.2, f.4.1) ((over_through_time f.0 f.3 f.4.0 (inr f.4.2)).over rest ∙ utc_over _ _ f.4.0 rest f.4.2 ∙ utc_stops _ place e rest at)

    -- ---- a complete date-time

    -- The fraction of a partial time, as it is written.
    secfrac_written : (part : Text) (fraction : Option FractionParts) → OptionalSecfrac part fraction
        → (w : (nothing either SecondFraction) part) × (written_fraction part w ≡ fraction)
    secfrac_written part None h = (inl h, refl)
    secfrac_written part (Some fraction) h = (inr (h.ds, h.some.0, h.is, h.some.1), ap Some (sym h.value))

    -- The result of reading up to the end of a time is its record.
    through : (dates letters times : Text) (date : DateRecord) (time : TimeRecord) → IsFullDate dates date → one time_letter letters → IsPartialTime times time
        → (h : ThroughTime (dates ++ (letters ++ times))) × (h.3.3.3.3.3.0 ≡ date) × (time_to (dates ++ (letters ++ times)) h ≡ time)
    through dates letters times date time d letter t =
        let written = secfrac_written t.part time.fraction t.fraction in (
          (
            ((dates ++ letters) ++ (t.hs ++ (Plain 58 ∷ []))) ++ (t.ms ++ (Plain 58 ∷ [])) ++ t.ss,
            t.part,
            rw t.is (simp append_assoc),
            (
              ((dates ++ letters) ++ (t.hs ++ (Plain 58 ∷ []))) ++ (t.ms ++ (Plain 58 ∷ [])),
              t.ss,
              simp append_assoc,
              (
                (dates ++ letters) ++ (t.hs ++ (Plain 58 ∷ [])),
                t.ms ++ (Plain 58 ∷ []),
                refl,
                (
                  dates ++ letters,
                  t.hs ++ (Plain 58 ∷ []),
                  refl,
                  (dates, letters, refl, (date, d), letter),
                  (t.hs, Plain 58 ∷ [], refl, (time.hour, t.hour), (58, refl, refl)),
                ),
                (t.ms, Plain 58 ∷ [], refl, (time.minute, t.minute), (58, refl, refl)),
              ),
              (time.second, t.second),
            ),
            written.0,
          ),
          refl,
          λ i. record { hour = sym t.hour.1 i; minute = sym t.minute.1 i; second = sym t.second.1 i; fraction = written.1 i },
        )

    -- Reading a date-time ends at one of its two table lines.
    abbrev pub Ends : Core → Text → Read E A → Type 0
    Ends core rest read = (read ≡ finish (of_date_time after_utc) core rest) ⊎ (read ≡ finish (of_date_time (after_field offset_minute_field)) core rest)

    pub date_time_takes : (front : Text) (core : Core) (rest : Text) → IsDateTime front core → Ends core rest (whole (front ++ rest))
    date_time_takes front core rest d = by_offset d.offsets d.offset d.is d.has d.is_offset
      where
        up : (h : ThroughTime (d.dates ++ (d.letters ++ d.times))) × (h.3.3.3.3.3.0 ≡ d.date) × (time_to (d.dates ++ (d.letters ++ d.times)) h ≡ d.time)
        up = through d.dates d.letters d.times d.date d.time d.is_date d.separates d.is_time

        reached : (c : ℕ) (more : Text) → Leads c
            → whole ((d.dates ++ (d.letters ++ d.times)) ++ (Plain c ∷ more)) ≡ time_offset_at fault finish d.date d.time c more
        reached c more leads =
            ap whole (sym (append_assoc (d.dates ++ (d.letters ++ d.times)) (Plain c ∷ []) more)) ∙ (over_through_time _ up.0 c leads).over more
            ∙ (λ i. time_offset_at fault finish (up.1 i) (up.2 i) c more)

        by_offset : (offsets : Text) (offset : UtcOffsetRecordOrZ) → front ≡ d.dates ++ (d.letters ++ (d.times ++ offsets))
            → core ≡ core_of (Some d.date) (Some d.time) (Some offset) → IsTimeOffset offsets offset → Ends core rest (whole (front ++ rest))
        by_offset offsets offset is has (inl ((z, z_is, zulu_is), value)) =
            inl (ap whole (rw (is, z_is) (simp append_assoc)) ∙ reached z rest (inr zulu_is) ∙ utc_over d.date d.time z rest zulu_is ∙ rw (has, value) refl)
        by_offset offsets offset is has (inr (minutes, o, value)) =
            let same : num_offset o.c (decimal o.hs) (decimal o.ms) ≡ minutes =
            λ i. record { sign = sym o.value i; hour = sym o.hour.1 i; minute = sym o.minute.1 i } in
            inr (ap whole (rw (is, o.is) (simp append_assoc)) ∙ reached o.c (o.hs ++ (Plain 58 ∷ (o.ms ++ rest))) (inl o.signed)
            ∙ sign_over d.date d.time o.c (o.hs ++ (Plain 58 ∷ (o.ms ++ rest))) o.signed
            ∙ ap (num_offset_at fault finish d.date d.time o.c) (sym (append_assoc o.hs (Plain 58 ∷ []) (o.ms ++ rest)))
            ∙ (over_offset_hour d.date d.time o.c o.hs 58 minutes.hour o.hour refl).over (o.ms ++ rest)
            ∙ over_offset_minute d.date d.time o.c (decimal o.hs) o.ms rest minutes.minute o.minute
            ∙ rw (has, value, same) refl)

  -- ---- a text that is a date-time

  pub rfc_3339_takes : (text : Text) (found : Parsed) → IsRfc3339 text found → rfc_3339_at fault text ≡ Ok (found, [])
  unfolding date_time_ends
  rfc_3339_takes text found (core, d, is) =
      rw is (ap (rfc_3339_at fault) (sym (append-nil text)) ∙ at_end (date_time_takes (date_time_ends fault) text core [] d))
    where
      at_end : Ends (date_time_ends fault) core [] (rfc_3339_at fault (text ++ [])) → rfc_3339_at fault (text ++ []) ≡ Ok (parsed_with core None, [])
      at_end (inl read) = read ∙ rw (peek_end _) refl
      at_end (inr read) = read ∙ rw (peek_end _) refl

  pub rfc_3339_rows : ReadsAllRows fault parse_rfc3339 (rfc_3339_at fault)
  unfolding date_time_ends
  rfc_3339_rows (of_date_time l) pairs place e prior front rest b f at =
      rw b.0 (date_time_rows (date_time_ends fault) false
      (λ core place e rest at. rw (peek_stops fault (of_date_time after_utc) (ThroughTime then one zulu) none (always InvalidEnd) place e rest at) refl)
      (λ core place e rest at. rw (peek_stops fault (of_date_time (after_field offset_minute_field)) (Through offset_minute_field) none (always InvalidEnd) place e rest at) refl)
      l place e front rest f at)
  rfc_3339_rows name pairs place e prior front rest b f at = absurd b.0
