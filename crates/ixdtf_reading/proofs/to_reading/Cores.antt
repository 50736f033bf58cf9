-- A core is read, with the end of the text or the bracket after it. Each row of the table lines of a core is returned.
use Rattle.std.proofs.Common.{◌≡◌, ℕ, true, false, IsTrue, IsFalse, [], ◌∷◌, ◌++◌, Ok, Err, Option, Some, None, refl, sym, ap, ◌∙◌, subst, inl, inr, ◌||◌}
use Rattle.std.proofs.{Common.{arith, append_assoc}, lemmas.Bool.{or_parts, Decides.nat_tests, or_left, or_right}}
use Rattle.ixdtf_grammar.specs.declared.{profile.Profile.Profile, records.{DateRecord.DateRecord, TimeRecord.TimeRecord, UtcOffsetRecordOrZ.UtcOffsetRecordOrZ}}
use Rattle.ixdtf_grammar.specs.{declared.records.UtcOffsetRecordOrZ.TheVariants.Z, language.Letters.{Text, digit, sign, zulu, opening, date_time_separator}}
use Rattle.ixdtf_grammar.specs.language.{Letters.{time_letter, Letter.Plain, ◌or◌}, Shapes.{Shape, one, some, ◌then◌, nothing}, Dates.IsDate}
use Rattle.ixdtf_grammar.specs.language.{Months.{IsYearMonth, IsMonthDay}, Times.{Clock, TimeShape, ClockOf, IsTime, writes_seconds, TimeShape.hours}}
use Rattle.ixdtf_grammar.specs.language.{Times.TimeShape.{seconds, fractions}, Offsets.offset_of, Cores.{Core, core_of, OptionalOffset, DateAlone}}
use Rattle.ixdtf_grammar.specs.language.{Cores.{IsDateTimeCore, IsDateTime, TimeMark, MarkedTime, IsCore}, Readers.{CoreKind, CoreKind.{date_time, internet_date_time, year_month, month_day}}}
use Rattle.ixdtf_grammar.specs.{language.Readers.CoreKind.time_of_day, table.{Faults.{Fault, Fault.InvalidEnd}, LineNames.{TimeLine, CoreLine, ClockLine, DateTimeLine}}}
use Rattle.ixdtf_grammar.specs.table.LineNames.{LineName, of_date, of_year_month, of_month_day, of_time, CoreLine.{dates, year_months, month_days, times}}
use Rattle.ixdtf_grammar.specs.table.LineNames.{LineName.{of_core, of_clock, of_offset, of_date_time}, DateLine.after_date, YearMonthLine.after_year_in_year_month}
use Rattle.ixdtf_grammar.specs.table.LineNames.{YearMonthLine.after_year_month, MonthDayLine.{month_day_range, after_month_day}, TimeLine.time_start}
use Rattle.ixdtf_grammar.specs.table.LineNames.{TimeLine.{time_reads_as_month_day, time_reads_as_year_month}, ClockLine.hour_start, OffsetLine.after_zulu}
use Rattle.ixdtf_grammar.specs.table.{Lines.{line_of, always, Line.line, Ending.ok}, Before.{DateAndSeparator, ReadsAsTime, InTimeAlone, BeforeCore}}
use Rattle.ixdtf_grammar.specs.table.{Before.{BeforeTime, BeforeOffset, BeforeInternetDateTime}, Rows.{Row, Place, Stops, Place.{other, anywhere}}}
use Rattle.ixdtf_grammar.proofs.parts.CoreLetters.{CoreEnds, core_ends}
use Rattle.ixdtf_reading.specs.reading.{Looks.{Read, ◌>>=◌, row_of, look_at, next_by}, Months.{year_month_at, month_day_at}, Times.{OpenTime, line_after}}
use Rattle.ixdtf_reading.specs.reading.{Times.{hour_from, clock_at}, Cores.{ClosedCore, core_look, core_end_at, with_offset, offset_core_at, after_time_at}}
use Rattle.ixdtf_reading.specs.reading.Cores.{time_core_at, after_date_at, date_time_core_at, date_alone_at, lone_time_at, marked_time_at, marked_core_at}
use Rattle.ixdtf_reading.specs.reading.Cores.{unfronted, time_alone_core_at, internet_date_time_core_at, core_at}
use Rattle.ixdtf_reading.proofs.parts.{Looks.{ReadsOver, RowsRead, peek_end, peek_goes, peek_other, peek_stops, row_here, RowsWhere}, Fronts.no_front_after}
use Rattle.ixdtf_reading.proofs.{parts.Fronts.{month_day_stops, year_month_stops, unfronted_goes}, to_reading.Dates.{date_takes, date_row_read}}
use Rattle.ixdtf_reading.proofs.to_reading.{Months.{year_month_takes, month_day_takes, year_month_date_row, year_month_row, month_day_row}, Times.closed_at_end}
use Rattle.ixdtf_reading.proofs.to_reading.{Times.{Closed, IsLater, stops_behind}, ClockRows.{RowsBehind, Refuses, TimeLead, hour_start_row, clock_lead}}
use Rattle.ixdtf_reading.proofs.to_reading.DateTimes.{Ends, date_time_takes as internet_date_time_takes, date_time_rows}
use Rattle.ixdtf_grammar.specs.table.DateTimeFronts.{Through, ThroughTime, Field.offset_minute_field}
use Rattle.ixdtf_grammar.specs.table.LineNames.DateTimeLine.{after_field, after_utc}
use Rattle.ixdtf_reading.proofs.to_reading.ClockRows.{over_time, start_rows, later_rows, over_clock, clock_rows}

-- A code unit that can follow a time does not continue it.
closed_before : (clock : Clock) (shape : TimeShape) (c : ℕ) (rest : Text) → IsTrue ((sign or zulu or opening) c) → Closed clock shape (Plain c ∷ rest)
closed_before clock hours c rest h = (grind (arith, nat_tests), grind (arith, nat_tests))
closed_before clock seconds c rest h = grind (arith, nat_tests)
closed_before clock fractions c rest h = grind (arith, nat_tests)
closed_before clock minutes c rest h = (grind (arith, nat_tests, h), grind (arith, nat_tests, h))

closed_at_core_end : (clock : Clock) (shape : TimeShape) (rest : Text) → CoreEnds rest → Closed clock shape rest
closed_at_core_end clock shape rest (inl is) = rw is (closed_at_end clock shape)
closed_at_core_end clock shape rest (inr h) = rw h.1 (closed_before clock shape 91 h.0 refl)

module _ {E : Type 0} (fault : Row → E) where
  -- ---- the end of a core

  -- The result of reading a core before the end of the text or before a bracket.
  abbrev pub Closes : Core → Text → Read E ClosedCore → Type 0
  Closes core rest read = (rest ≡ [] → read ≡ Ok ((core, false), [])) × ((more : Text) → rest ≡ Plain 91 ∷ more → read ≡ Ok ((core, true), more))

  -- If the end of the core is read next, the core ends here.
  end_closes : (name : LineName) (core : Core) (rest : Text) (read : Read E ClosedCore) → read ≡ core_end_at fault name core rest → Closes core rest read
  unfolding core_end_at
  end_closes name core rest read same =
      rw same (λ is. rw (is, peek_end (core_look fault name)), λ more is. rw (is, peek_goes (core_look fault name) 91 more refl))

  end_other : (name : LineName) (core : Core) (c : ℕ) (rest : Text) → IsFalse (opening c)
      → core_end_at fault name core (Plain c ∷ rest) ≡ Err (fault (row_of name (other (Plain c ∷ rest)) InvalidEnd))
  unfolding core_end_at
  end_other name core c rest out = rw (peek_other (core_look fault name) c rest out)

  -- Each row for what follows a core.
  end_rows : (name : LineName) (core : Core) (shown : Shape) (place : Place) (e : Fault) (rest : Text)
      → Stops (line shown opening ok (always InvalidEnd)) place e rest
      → core_end_at fault name core rest ≡ Err (fault (row_of name place e))
  unfolding core_end_at
  end_rows name core shown place e rest at = rw (peek_stops fault name shown opening (always InvalidEnd) place e rest at)

  -- ---- a time and what follows it, after the text before them

  module _ (date : Option DateRecord) where
    abbrev after_time : OpenTime × Text → Read E ClosedCore
    after_time time = after_time_at fault date time.0 time.1

    time_refuses : Refuses fault true Clock.Time after_time
    unfolding after_time_at look_at
    time_refuses shape t place e rest s =
        row_here fault (line_after Clock.Time shape) (λ rest. after_time ((shape, t), rest)) (line nothing (sign or zulu or opening) ok (always InvalidEnd))
        (tt, (λ rest. refl), at_other) place e rest (stops_behind _ place e rest s)
      where
        at_other : (c : ℕ) (rest : Text) → IsFalse ((sign or zulu or opening) c)
            → after_time ((shape, t), Plain c ∷ rest) ≡ Err (fault (row_of (line_after Clock.Time shape) (other (Plain c ∷ rest)) InvalidEnd))
        at_other c rest out =
            let parts = or_parts (sign c || zulu c) (opening c) out in
            let no_offset = or_parts (sign c) (zulu c) parts.0 in
            rw (no_offset.0, no_offset.1) (end_other (line_after Clock.Time shape) (core_of date (Some t) None) c rest parts.1)

    -- Reads what follows an offset.
    abbrev after_offset : TimeRecord → ℕ → OpenTime × Text → Read E ClosedCore
    after_offset time c offset =
        core_end_at fault (line_after Clock.Offset offset.0.0) (with_offset date time (offset_of c (writes_seconds offset.0.0) offset.0.1)) offset.1

    offset_refuses : (time : TimeRecord) (c : ℕ) → Refuses fault true Clock.Offset (after_offset time c)
    offset_refuses time c shape t place e rest s =
        end_rows (line_after Clock.Offset shape) _ nothing place e rest (stops_behind _ place e rest s)

    module _ (whole_at : Text → Read E ClosedCore) (prior : Text) (lead : TimeLead fault Clock.Time whole_at after_time prior) where
      -- A time was read.
      module _ (ts : Text) (shape : TimeShape) (t : TimeRecord) (x : ClockOf Clock.Time shape ts t) where
        timed_over : (rest : Text) → Closed Clock.Time shape rest → whole_at (prior ++ (ts ++ rest)) ≡ after_time ((shape, t), rest)
        timed_over rest closed = over_time fault Clock.Time whole_at after_time prior lead shape ts t rest x closed

        -- The text before the digits of an offset.
        abbrev signed : ℕ → Text
        signed c = (prior ++ ts) ++ (Plain c ∷ [])

        offset_lead : (c : ℕ) → IsTrue (sign c) → (body : Text) → whole_at (signed c ++ body) ≡ (clock_at fault Clock.Offset body >>= after_offset t c)
        unfolding after_time_at offset_core_at look_at
        offset_lead c h body =
            ap whole_at (simp append_assoc) ∙ timed_over (Plain c ∷ body) (closed_before Clock.Time shape c body (or_left _ _ (or_left _ _ h))) ∙ rw h

        zulu_over : (c : ℕ) → IsTrue (zulu c) → (rest : Text)
            → whole_at ((prior ++ ts) ++ (Plain c ∷ rest)) ≡ core_end_at fault (of_offset after_zulu) (core_of date (Some t) (Some Z)) rest
        unfolding after_time_at look_at
        zulu_over c h rest =
            let no_sign : IsFalse (sign c) = grind (arith, nat_tests, h) in
            let closed = closed_before Clock.Time shape c rest (or_left _ _ (or_right _ _ h)) in
            ap whole_at (simp append_assoc) ∙ timed_over (Plain c ∷ rest) closed ∙ rw (no_sign, h)

        without_offset_over : (rest : Text) → CoreEnds rest
            → whole_at (prior ++ (ts ++ rest)) ≡ core_end_at fault (line_after Clock.Time shape) (core_of date (Some t) None) rest
        unfolding after_time_at look_at
        without_offset_over rest (inl is) = timed_over rest (closed_at_core_end Clock.Time shape rest (inl is)) ∙ rw is
        without_offset_over rest (inr h) = timed_over rest (closed_at_core_end Clock.Time shape rest (inr h)) ∙ rw h.1

        offset_rows : (c : ℕ) → IsTrue (sign c) → (l : ClockLine) → RowsBehind fault true whole_at (signed c) (of_clock Clock.Offset l)
        offset_rows c h = clock_rows fault true Clock.Offset whole_at (after_offset t c) (signed c) (offset_lead c h) (offset_refuses t c)

        zulu_row : RowsBehind fault true whole_at (prior ++ ts) (of_offset after_zulu)
        zulu_row place e front rest f at =
            rw f.1 (zulu_over f.0 f.2 rest ∙ end_rows (of_offset after_zulu) (core_of date (Some t) (Some Z)) (one zulu) place e rest at)

        -- A time, and an optional offset or `Z`, before the end of the text or a bracket.
        timed_takes : (offsets : Text) (offset : Option UtcOffsetRecordOrZ) (rest : Text) → OptionalOffset offsets offset → CoreEnds rest
            → (name : LineName) × (whole_at (prior ++ (ts ++ (offsets ++ rest))) ≡ core_end_at fault name (core_of date (Some t) offset) rest)
        timed_takes offsets None rest none ends = rw none (line_after Clock.Time shape, without_offset_over rest ends)
        timed_takes offsets (Some o) rest (inl h) ends =
            rw (h.2, h.1.value, h.1.is) (
              line_after Clock.Offset h.1.shape,
              ap whole_at (simp append_assoc)
                  ∙ over_clock fault true Clock.Offset whole_at (after_offset t h.1.c) (signed h.1.c)
                  (offset_lead h.1.c h.1.sign) h.1.shape h.1.body h.1.time rest h.1.clock (closed_at_core_end Clock.Offset h.1.shape rest ends),
            )
        timed_takes offsets (Some o) rest (inr h) ends =
            rw (h.1, h.0.1) (of_offset after_zulu, ap whole_at (simp append_assoc) ∙ zulu_over h.0.0 h.0.2 rest)

  -- ---- as above, after any text that leads to a time, with its date

  module _ (before : Shape) (date_in : (prior : Text) → before prior → Option DateRecord) (whole_at : Text → Read E ClosedCore)
      (lead_of : (prior : Text) (b : before prior) → TimeLead fault Clock.Time whole_at (after_time (date_in prior b)) prior) where
    -- The row of the table line at which the time begins.
    first_rows : (prior : Text) (b : before prior) (name : LineName) → RowsRead fault true (lead_of prior b).start name
        → RowsBehind fault true whole_at prior name
    first_rows prior b = start_rows fault Clock.Time whole_at (after_time (date_in prior b)) prior (lead_of prior b) true

    time_rows : (l : ClockLine) → IsLater l → (prior : Text) → before prior → RowsBehind fault true whole_at prior (of_clock Clock.Time l)
    time_rows l is_later prior b =
        later_rows fault Clock.Time whole_at (after_time (date_in prior b)) prior (lead_of prior b) true (time_refuses (date_in prior b)) l is_later

    time_offset_rows : (l : ClockLine) (prior : Text) → ((before then some IsTime) then one sign) prior
        → RowsBehind fault true whole_at prior (of_clock Clock.Offset l)
    time_offset_rows l prior b place e front rest f at =
        let timed = b.3 in
        let time = timed.4 in
        rw (b.2, timed.2, b.4.1)
        (offset_rows (date_in timed.0 timed.3) whole_at timed.0 (lead_of timed.0 timed.3) timed.1 time.1.0 time.0 time.1.1 b.4.0 b.4.2 l place e front rest f
        at)

    time_zulu_row : (prior : Text) → (before then some IsTime) prior → RowsBehind fault true whole_at prior (of_offset after_zulu)
    time_zulu_row prior b place e front rest f at =
        let time = b.4 in
        rw b.2 (zulu_row (date_in b.0 b.3) whole_at b.0 (lead_of b.0 b.3) b.1 time.1.0 time.0 time.1.1 place e front rest f at)

    -- A time, and an optional offset.
    timed_closes : (prior ts offsets : Text) (b : before prior) (t : TimeRecord) (offset : Option UtcOffsetRecordOrZ) (rest : Text)
        → IsTime ts t → OptionalOffset offsets offset → CoreEnds rest
        → Closes (core_of (date_in prior b) (Some t) offset) rest (whole_at ((prior ++ (ts ++ offsets)) ++ rest))
    timed_closes prior ts offsets b t offset rest time o ends =
        let timed = timed_takes (date_in prior b) whole_at prior (lead_of prior b) ts time.0 t time.1 offsets offset rest o ends in
        end_closes timed.0 _ rest _ (ap whole_at (simp append_assoc) ∙ timed.1)

  -- ---- dates and times

  abbrev date_before : (prior : Text) → DateAndSeparator prior → Option DateRecord
  date_before prior b = Some b.3.0

  over_date : (prior : Text) (b : DateAndSeparator prior) (body : Text)
      → date_time_core_at fault (prior ++ body) ≡ (clock_at fault Clock.Time body >>= after_time (date_before prior b))
  unfolding date_time_core_at after_date_at time_core_at look_at
  over_date prior b body = let separator = b.4 in rw (b.2, append_assoc, date_takes fault b.0 b.3.0 (b.1 ++ body) b.3.1, separator.1, separator.2)

  abbrev date_time_lead : (prior : Text) (b : DateAndSeparator prior)
      → TimeLead fault Clock.Time (date_time_core_at fault) (after_time (date_before prior b)) prior
  date_time_lead prior b = clock_lead fault Clock.Time (date_time_core_at fault) (after_time (date_before prior b)) prior (over_date prior b)

  after_date_row : RowsRead fault true (date_time_core_at fault) (of_date after_date)
  unfolding date_time_core_at after_date_at look_at
  after_date_row place e front rest f at =
      rw (date_takes fault front f.0 rest f.1) (row_here fault (of_date after_date) (after_date_at fault f.0) (line_of true (of_date after_date)) (
        tt,
        (λ rest. refl),
        λ c rest out. let parts = or_parts (date_time_separator c) (opening c) out in
            rw parts.0 (end_other (of_date after_date) (core_of (Some f.0) None None) c rest parts.1),
      ) place e rest at)

  no_time : (ds : Text) (date : DateRecord) (rest : Text) → IsDate ds date → CoreEnds rest
      → date_time_core_at fault (ds ++ rest) ≡ core_end_at fault (of_date after_date) (core_of (Some date) None None) rest
  unfolding date_time_core_at after_date_at look_at
  no_time ds date rest d (inl is) = rw (date_takes fault ds date rest d, is)
  no_time ds date rest d (inr h) = rw (date_takes fault ds date rest d, h.1)

  date_time_takes : (front : Text) (core : Core) (rest : Text) → IsDateTimeCore front core → CoreEnds rest
      → Closes core rest (date_time_core_at fault (front ++ rest))
  date_time_takes front core rest (inl d) ends = rw d.2 (end_closes (of_date after_date) _ rest _ (no_time front d.0 rest d.1 ends))
  date_time_takes front core rest (inr d) ends =
      let before : DateAndSeparator (d.dates ++ d.separator) = (d.dates, d.separator, refl, (d.date, d.is_date), d.separates) in
      rw (d.is, d.has, ← append_assoc d.dates d.separator (d.times ++ d.offsets))
      (timed_closes _ _ _ date_time_lead (d.dates ++ d.separator) d.times d.offsets before d.time d.offset rest d.is_time d.is_offset ends)

  -- ---- cores that are only a date

  module _ (part : Text → DateRecord → Type 0) (name : LineName) (part_at : Text → Read E DateRecord)
      (takes : (front : Text) (date : DateRecord) (rest : Text) → part front date → part_at (front ++ rest) ≡ Ok (date, rest)) where
    alone_takes : (front : Text) (core : Core) (rest : Text) → DateAlone part front core → Closes core rest (date_alone_at fault name (part_at (front ++ rest)))
    alone_takes front core rest d = rw d.2 (end_closes name (core_of (Some d.0) None None) rest _ (rw (takes front d.0 rest d.1)))

    -- Each row for what follows the date.
    after_alone_rows : (place : Place) (e : Fault) (front rest : Text) → some part front → Stops (line (some part) opening ok (always InvalidEnd)) place e rest
        → date_alone_at fault name (part_at (front ++ rest)) ≡ Err (fault (row_of name place e))
    after_alone_rows place e front rest f at = rw (takes front f.0 rest f.1) (end_rows name (core_of (Some f.0) None None) (some part) place e rest at)

  -- ---- times without a date

  abbrev no_date : (prior : Text) → TimeMark prior → Option DateRecord
  no_date prior mark = None

  lone_starts : (c : ℕ) → IsTrue (digit c) → ReadsOver (marked_time_at fault) (Plain c ∷ []) (hour_from fault Clock.Time c)
  unfolding marked_time_at lone_time_at look_at next_by
  lone_starts c d = record { over = λ rest. let no_letter : IsFalse (time_letter c) = grind (arith, nat_tests, d) in rw (no_letter, d) refl }

  over_letter : (prior : Text) → one time_letter prior → (body : Text)
      → marked_core_at fault (prior ++ body) ≡ (clock_at fault Clock.Time body >>= after_time None)
  unfolding marked_core_at marked_time_at look_at
  over_letter prior h body = rw (h.1, h.2)

  over_nothing : (prior : Text) → prior ≡ [] → (body : Text) → marked_core_at fault (prior ++ body) ≡ (marked_time_at fault body >>= after_time None)
  unfolding marked_core_at
  over_nothing prior none body = rw none

  -- After `T` or `t`, a time begins with its hour. Without them, the look at its first digit is a different one.
  abbrev mark_lead : (prior : Text) → TimeMark prior → TimeLead fault Clock.Time (marked_core_at fault) (after_time None) prior
  mark_lead prior (inl none) = record { start = marked_time_at fault; starts = lone_starts; over = over_nothing prior none }
  mark_lead prior (inr letter) = clock_lead fault Clock.Time (marked_core_at fault) (after_time None) prior (over_letter prior letter)

  time_start_row : RowsRead fault true (marked_time_at fault) (of_time time_start)
  unfolding marked_time_at lone_time_at look_at next_by
  time_start_row place e front rest f at =
      rw f (row_here fault (of_time time_start) (marked_time_at fault) (line_of true (of_time time_start))
      (refl, (λ rest. refl), λ c rest out. rw ((or_parts (digit c) (time_letter c) out).0, (or_parts (digit c) (time_letter c) out).1) refl) place e rest at)

  marked_takes : (front : Text) (core : Core) (rest : Text) → MarkedTime front core → CoreEnds rest → Closes core rest (marked_core_at fault (front ++ rest))
  marked_takes front core rest d ends =
      rw (d.is, d.has) (timed_closes _ _ _ mark_lead d.marks d.times d.offsets d.mark d.time d.offset rest d.is_time d.is_offset ends)

  -- A fault in the time is returned before the beginning of the text is tested.
  in_marked : (profile : Profile) (name : LineName) (prior : Text) → RowsBehind fault true (marked_core_at fault) prior name
      → RowsBehind fault true (time_alone_core_at fault profile) prior name
  unfolding time_alone_core_at
  in_marked profile name prior h place e front rest f at = rw (h place e front rest f at)

  -- A complete time is read. Then the test of the beginning of the text returns a fault.
  front_refuses : (profile : Profile) (text : Text) (e : E) → ReadsAsTime text → ((x : ClosedCore × Text) → unfronted fault profile text (Ok x) ≡ Err e)
      → time_alone_core_at fault profile text ≡ Err e
  unfolding time_alone_core_at
  front_refuses profile text e h refuses =
      go (core_ends h.1 h.4) (subst (λ t. Closes h.3.0 h.1 (marked_core_at fault t)) (sym h.2) (marked_takes h.0 h.3.0 h.1 h.3.1 (core_ends h.1 h.4)))
    where
      go : CoreEnds h.1 → Closes h.3.0 h.1 (marked_core_at fault text) → time_alone_core_at fault profile text ≡ Err e
      go (inl is) closes = rw (closes.0 is) (refuses ((h.3.0, false), []))
      go (inr bracket) closes = rw (closes.1 bracket.0 bracket.1) (refuses ((h.3.0, true), bracket.0))

  -- The rows of the table lines of a time, except those inside the time.
  time_line_rows : (profile : Profile) (l : TimeLine) → RowsWhere fault true (time_alone_core_at fault profile) (of_time l) (InTimeAlone profile l)
  time_line_rows profile time_start place e prior front rest b f at =
      in_marked profile (of_time time_start) prior (first_rows _ _ _ mark_lead prior (inl b) (of_time time_start) time_start_row) place e front rest f at
  time_line_rows profile (time_reads_as_month_day named) (anywhere left) e prior front rest b f at =
      let here = rw b.2 at f in
      rw (b.0, at.0, at.1, b.2) (front_refuses profile (front ++ rest) _ b.1
      (λ x. month_day_stops profile (front ++ rest) fault (Ok x) rest (front, refl, here)))
  time_line_rows profile (time_reads_as_month_day named) place e prior front rest b f at = absurd at
  time_line_rows profile time_reads_as_year_month (anywhere left) e prior front rest b f at =
      rw (b.0, at.0, at.1) (front_refuses profile (front ++ rest) _ b.1 (λ x. year_month_stops profile (front ++ rest) fault (Ok x) rest (front, refl, f) b.2))
  time_line_rows profile time_reads_as_year_month place e prior front rest b f at = absurd at

  -- ---- date-times of RFC 3339

  internet_date_time_closes : (front : Text) (core : Core) (rest : Text) → IsDateTime front core → Closes core rest (internet_date_time_core_at fault (front ++ rest))
  internet_date_time_closes front core rest d = by_end (internet_date_time_takes fault (core_end_at fault) front core rest d)
    where
      by_end : Ends fault (core_end_at fault) core rest (internet_date_time_core_at fault (front ++ rest)) → Closes core rest (internet_date_time_core_at fault (front ++ rest))
      by_end (inl same) = end_closes (of_date_time after_utc) core rest _ same
      by_end (inr same) = end_closes (of_date_time (after_field offset_minute_field)) core rest _ same

  internet_date_time_rows : (l : DateTimeLine) → RowsRead fault true (internet_date_time_core_at fault) (of_date_time l)
  internet_date_time_rows l = date_time_rows fault (core_end_at fault) true
      (λ core place e rest at. end_rows (of_date_time after_utc) core (ThroughTime then one zulu) place e rest at)
      (λ core place e rest at. end_rows (of_date_time (after_field offset_minute_field)) core (Through offset_minute_field) place e rest at)
      l

  -- ---- a core of any kind

  -- A core is read if the end of the text or a bracket follows it.
  pub core_takes : (kind : CoreKind) (front : Text) (core : Core) (rest : Text) → IsCore kind front core → CoreEnds rest
      → Closes core rest (core_at fault kind (front ++ rest))
  unfolding time_alone_core_at
  core_takes date_time front core rest d ends = date_time_takes front core rest d ends
  core_takes internet_date_time front core rest d ends = internet_date_time_closes front core rest d
  core_takes year_month front core rest d ends =
      alone_takes IsYearMonth (of_year_month after_year_month) (year_month_at fault) (year_month_takes fault) front core rest d
  core_takes (month_day profile) front core rest d ends =
      alone_takes (IsMonthDay profile) (of_month_day (after_month_day profile)) (month_day_at fault profile) (month_day_takes fault profile) front core rest d
  core_takes (time_of_day profile) front core rest d ends =
      let closes = marked_takes front core rest d.0 ends in
      let none = no_front_after profile front rest ends d.1 in
      let goes : (x : ClosedCore × Text) → unfronted fault profile (front ++ rest) (Ok x) ≡ Ok x =
      λ x. unfronted_goes profile (front ++ rest) fault (Ok x) none in
      ((λ is. rw (closes.0 is) (goes _)), λ more is. rw (closes.1 more is) (goes _))

  -- Each row of the table lines of a core is returned.
  pub core_line_rows : (kind : CoreKind) (l : CoreLine) → RowsWhere fault true (core_at fault kind) (of_core l) (BeforeCore kind l)
  unfolding date_time_core_at
  core_line_rows date_time (dates after_date) place e prior front rest b f at = rw b (after_date_row place e front rest f at)
  core_line_rows date_time (dates l) place e prior front rest b f at = rw (b, date_row_read fault true l tt place e front rest f at) refl
  core_line_rows internet_date_time (dates l) place e prior front rest b f at = absurd b
  core_line_rows year_month (dates l) place e prior front rest b f at = rw (year_month_date_row fault l prior b place e front rest f at) refl
  core_line_rows year_month (year_months after_year_in_year_month) place e prior front rest b f at =
      rw (b, year_month_row fault place e front rest f at) refl
  core_line_rows year_month (year_months after_year_month) place e prior front rest b f at =
      rw b (after_alone_rows IsYearMonth (of_year_month after_year_month) (year_month_at fault) (year_month_takes fault) place e front rest f at)
  core_line_rows (month_day profile) (month_days (after_month_day named)) place e prior front rest b f at =
      let here : some (IsMonthDay profile) front = rw b.1 at f in
      rw (b.0, b.1) (after_alone_rows (IsMonthDay profile) (of_month_day (after_month_day profile)) (month_day_at fault profile) (month_day_takes fault profile)
      place e front rest here at)
  core_line_rows (month_day profile) (month_days (month_day_range named)) place e prior front rest b f at =
      rw (b.0, month_day_row fault profile (month_day_range named) b.1 place e front rest f at) refl
  core_line_rows (month_day profile) (month_days l) place e prior front rest b f at =
      rw (b, month_day_row fault profile l tt place e front rest f at) refl
  core_line_rows (time_of_day profile) (times l) place e prior front rest b f at = time_line_rows profile l place e prior front rest b f at
  core_line_rows kind l place e prior front rest b f at = absurd b

  pub core_time_rows : (kind : CoreKind) (l : ClockLine) (prior : Text) → BeforeTime kind l prior
      → RowsBehind fault true (core_at fault kind) prior (of_clock Clock.Time l)
  core_time_rows date_time hour_start prior b =
      first_rows _ _ _ date_time_lead prior b (of_clock Clock.Time hour_start) (hour_start_row fault Clock.Time true)
  core_time_rows date_time l prior b = time_rows _ _ _ date_time_lead l tt prior b
  core_time_rows (time_of_day profile) hour_start prior b =
      in_marked profile (of_clock Clock.Time hour_start) prior
      (first_rows _ _ _ mark_lead prior (inr b) (of_clock Clock.Time hour_start) (hour_start_row fault Clock.Time true))
  core_time_rows (time_of_day profile) l prior b = in_marked profile (of_clock Clock.Time l) prior (time_rows _ _ _ mark_lead l tt prior b)
  core_time_rows kind l prior b = absurd b

  pub core_offset_rows : (kind : CoreKind) (l : ClockLine) (prior : Text) → (BeforeOffset kind then one sign) prior
      → RowsBehind fault true (core_at fault kind) prior (of_clock Clock.Offset l)
  core_offset_rows date_time l prior b = time_offset_rows _ _ _ date_time_lead l prior b
  core_offset_rows (time_of_day profile) l prior b = in_marked profile (of_clock Clock.Offset l) prior (time_offset_rows _ _ _ mark_lead l prior b)
  core_offset_rows kind l prior b = absurd b.3

  pub core_zulu_row : (kind : CoreKind) (prior : Text) → BeforeOffset kind prior → RowsBehind fault true (core_at fault kind) prior (of_offset after_zulu)
  core_zulu_row date_time prior b = time_zulu_row _ _ _ date_time_lead prior b
  core_zulu_row (time_of_day profile) prior b = in_marked profile (of_offset after_zulu) prior (time_zulu_row _ _ _ mark_lead prior b)
  core_zulu_row kind prior b = absurd b

  pub core_date_time_rows : (kind : CoreKind) (l : DateTimeLine) (prior : Text) → BeforeInternetDateTime kind prior
      → RowsBehind fault true (core_at fault kind) prior (of_date_time l)
  core_date_time_rows internet_date_time l prior b place e front rest f at = rw b (internet_date_time_rows l place e front rest f at)
  core_date_time_rows kind l prior b place e front rest f at = absurd b
