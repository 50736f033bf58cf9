-- Reading a year-month or a month-day returns its record and the rest. Each row of their table lines is returned.
use Rattle.std.proofs.Common.{◌≡◌, ℕ, Bool, true, false, [], ◌∷◌, ◌++◌, Ok, Err, refl, sym, ap, ◌∙◌, inl, inr, append_assoc, ℤ, pos, nat_le}
use Rattle.std.proofs.lemmas.Bool.{and_parts, and_from, leb-true, le-leb, false_from_ne_true}
use Rattle.ixdtf_grammar.specs.{declared.{profile.Profile.Profile, records.DateRecord.DateRecord}, language.Letters.{Text, digit, hyphen, Letter.Plain}}
use Rattle.ixdtf_grammar.specs.language.{Shapes.{one, some, digits, ◌then◌, ◌either◌}, Digits.{TwoDigits, decimal}, Dates.Month}
use Rattle.ixdtf_grammar.specs.language.Months.{Marks, OptionalHyphen, IsYearMonth, MonthDayText, IsDayOfSomeYear, IsMonthDay, greatest_day, least_day}
use Rattle.ixdtf_grammar.specs.{language.Readers.CoreKind.year_month, table.Faults.{Fault, Fault.{InvalidMonthRange, InvalidMonthDay}}}
use Rattle.ixdtf_grammar.specs.table.LineNames.{DateLine, MonthDayLine, of_date, of_year_month, of_month_day, YearMonthLine.after_year_in_year_month}
use Rattle.ixdtf_grammar.specs.table.LineNames.MonthDayLine.{month_day_start, month_day_hyphen, month_day_month_digits, month_day_month_range}
use Rattle.ixdtf_grammar.specs.table.LineNames.MonthDayLine.{after_month_day_month, month_day_day_digits, month_day_range, after_month_day}
use Rattle.ixdtf_grammar.specs.table.{Lines.{month_day_line, MonthDayMonthDigits, NoMonthDay}, Before.BeforeDate, Rows.{Row, Place, Stops, Place.anywhere}}
use Rattle.ixdtf_reading.specs.reading.{Looks.{Read, ◌>>=◌, row_of, mark_at}, Dates.date_of}
use Rattle.ixdtf_reading.specs.reading.Months.{year_month_at, marks_at, lone_month_in_range, lone_day_in_range, lone_day_at, month_day_at}
use Rattle.ixdtf_reading.proofs.parts.{Looks.{ReadsOver, ◌before◌, ◌upto◌, Halts, RowsRead}, Marks.{hyphens_of, Starts, Begun}}
use Rattle.ixdtf_reading.proofs.parts.Marks.{hyphen_is, hyphen_over, mark_over, mark_stops, two_digits_over, two_digits_stop}
use Rattle.ixdtf_reading.proofs.to_reading.Dates.{hyphens_are, month_is, month_is_none, over_year, over_month, year_stops, year_and_month_row}

-- ---- year-months

module _ {E : Type 0} (fault : Row → E) where
  -- The first day of the month.
  abbrev first_of : ℤ → (ℕ × Bool) × Text → Read E DateRecord
  first_of y month = Ok (date_of y month.0.0 1, month.1)

  over_year_month : (text : Text) (date : DateRecord) → IsYearMonth text date
      → ReadsOver (year_month_at fault) text (λ rest. Ok (date_of date.year date.month 1, rest))
  unfolding year_month_at
  over_year_month text date h =
      let t = hyphens_are h.hyphens h.hyphen in
      rw (h.is, t.1)
      (over_year fault (of_year_month after_year_in_year_month) (λ c. refl) first_of _ _ h.year
      before over_month fault (of_year_month after_year_in_year_month) (λ c. refl) first_of _ t.0 _ _ h.month)

  pub year_month_takes : (text : Text) (date : DateRecord) (rest : Text) → IsYearMonth text date → year_month_at fault (text ++ rest) ≡ Ok (date, rest)
  year_month_takes text date rest h = (over_year_month text date h).over rest ∙ λ i. Ok (date_of date.year date.month (sym h.first_day i), rest)

  -- Every row of a year and of a month after it.
  pub year_month_date_row : (l : DateLine) (prior : Text) → BeforeDate year_month l prior
      → RowsRead fault true (λ body. year_month_at fault (prior ++ body)) (of_date l)
  unfolding year_month_at
  year_month_date_row = year_and_month_row fault (of_year_month after_year_in_year_month) (λ c. refl) first_of true

  pub year_month_row : RowsRead fault true (year_month_at fault) (of_year_month after_year_in_year_month)
  unfolding year_month_at
  year_month_row place e front rest f at = year_stops fault (of_year_month after_year_in_year_month) (λ c. refl) first_of front f.0 place e rest f.1 at

-- ---- month-days

-- The row of two digits that are not a month.
abbrev pub no_lone_month : Text → Row
no_lone_month left = row_of (of_month_day month_day_month_range) (anywhere left) InvalidMonthRange

-- Two hyphens, or nothing.
abbrev pub marks_of : Bool → Text
marks_of true = Plain 45 ∷ (Plain 45 ∷ [])
marks_of false = []

two_marks : (t : Text) → (one hyphen then one hyphen) t → t ≡ marks_of true
two_marks t h = h.2 ∙ rw (hyphen_is h.0 h.3, hyphen_is h.1 h.4)

marks_are : (t : Text) → Marks t → (b : Bool) × (t ≡ marks_of b)
marks_are t (inl h) = (false, h)
marks_are t (inr h) = (true, two_marks t h)

begun : (b : Bool) (ds : Text) → one digit ds → Begun b ds
begun true ds h = inr h
begun false ds h = h

-- The beginning of a month, with two hyphens before it or without.
begun_month : (t : Text) → MonthDayMonthDigits t → (b : Bool) × (ds : Text) × (t ≡ marks_of b ++ ds) × Begun b ds
begun_month t (inl h) = (true, [], two_marks t h, inl refl)
begun_month t (inr h) = let m = marks_are h.0 h.3 in (m.0, h.1, h.2 ∙ ap (λ u. u ++ h.1) m.1, begun m.0 h.1 h.4)

-- The beginning of a day, with a hyphen before it or without.
begun_day : (t : Text) → (one hyphen either (OptionalHyphen then one digit)) t → (b : Bool) × (ds : Text) × (t ≡ hyphens_of b ++ ds) × Begun b ds
begun_day t (inl h) = (true, [], hyphen_is t h, inl refl)
begun_day t (inr h) = let m = hyphens_are h.0 h.3 in (m.0, h.1, h.2 ∙ ap (λ u. u ++ h.1) m.1, begun m.0 h.1 h.4)

-- The table lines whose rows are returned when a month-day is read.
abbrev pub IsInMonthDay : Profile → MonthDayLine → Type 0
IsInMonthDay profile (month_day_range other) = other ≡ profile
IsInMonthDay profile (after_month_day other) = ⊥
IsInMonthDay profile line = Unit {0}

module _ {E : Type 0} (fault : Row → E) (profile : Profile) where
  day_fits : (m d : ℕ) (rest : Text) → IsDayOfSomeYear profile (date_of (pos 0) m d) → lone_day_in_range fault profile m d rest ≡ Ok (date_of (pos 0) m d, rest)
  unfolding lone_day_in_range
  day_fits m d rest h = rw (and_from _ _ (le-leb (least_day profile) d h.0) (le-leb d _ h.1))

  day_refused : (m d : ℕ) (rest : Text) → ¬ (IsDayOfSomeYear profile (date_of (pos 0) m d))
      → lone_day_in_range fault profile m d rest ≡ Err (fault (row_of (of_month_day (month_day_range profile)) (anywhere rest) InvalidMonthDay))
  unfolding lone_day_in_range
  day_refused m d rest h = rw (false_from_ne_true _ (λ test. h (
      let both = and_parts (nat_le (least_day profile) d) (nat_le d (greatest_day m)) test in
      (leb-true _ _ both.0, leb-true _ _ both.1)))) refl

  -- ---- from stage to stage

  over_marks : (b : Bool) (text : Text) → Starts b text → marks_at fault (marks_of b ++ text) ≡ Ok (b, text)
  unfolding marks_at
  over_marks true text starts = rw (
    hyphen_over fault (of_month_day month_day_start) true (Plain 45 ∷ text) (λ c. refl) tt,
    mark_over fault (of_month_day month_day_hyphen) true text tt refl tt,
  ) refl
  over_marks false text starts = rw (hyphen_over fault (of_month_day month_day_start) false text (λ c. refl) starts)

  -- Reads on from the digits of a month.
  abbrev month_from : Bool → Text × Text → Read E DateRecord
  month_from b ds = lone_month_in_range fault ds >>= λ month. lone_day_at fault profile month.0 month.1

  over_digits : (b : Bool) (ds : Text) → digits 2 ds → ReadsOver (month_day_at fault profile) (marks_of b ++ ds) (λ rest. month_from b (ds, rest))
  unfolding month_day_at
  over_digits b = two_digits_over fault (marks_at fault) (of_month_day month_day_month_digits) (λ c. refl) month_from b (marks_of b) (over_marks b)

  over_lone_month : (b : Bool) (ms : Text) (m : ℕ) → Month ms m → ReadsOver (month_day_at fault profile) (marks_of b ++ ms) (lone_day_at fault profile m)
  unfolding lone_month_in_range
  over_lone_month b ms m h = record { over = λ rest. (over_digits b ms h.0.0).over rest ∙ rw (sym h.0.1, month_is m h.1 h.2) refl }

  -- Reads on from the digits of a day.
  abbrev day_from : ℕ → Bool → Text × Text → Read E DateRecord
  day_from m b ds = lone_day_in_range fault profile m (decimal ds.0) ds.1

  over_hyphen : (b : Bool) (text : Text) → Starts b text → mark_at fault (of_month_day after_month_day_month) hyphen (hyphens_of b ++ text) ≡ Ok (b, text)
  over_hyphen b text = hyphen_over fault (of_month_day after_month_day_month) b text (λ c. refl)

  pub over_lone_day : (m : ℕ) (b : Bool) (ds : Text) (d : ℕ) → TwoDigits ds d
      → ReadsOver (lone_day_at fault profile m) (hyphens_of b ++ ds) (lone_day_in_range fault profile m d)
  unfolding lone_day_at
  over_lone_day m b ds d h =
      rw (← h.1) at (two_digits_over fault (mark_at fault (of_month_day after_month_day_month) hyphen) (of_month_day month_day_day_digits) (λ c. refl)
      (day_from m) b (hyphens_of b) (over_hyphen b) ds h.0)

  day_stops : (m : ℕ) (b : Bool) (ds rest : Text) (place : Place) (e : Fault) → Begun b ds → Stops (month_day_line month_day_day_digits) place e rest
      → Halts (lone_day_at fault profile m) (hyphens_of b ++ ds) rest (fault (row_of (of_month_day month_day_day_digits) place e))
  unfolding lone_day_at
  day_stops m b =
      two_digits_stop fault (mark_at fault (of_month_day after_month_day_month) hyphen) (of_month_day month_day_day_digits) (λ c. refl) (day_from m)
      b (hyphens_of b) (over_hyphen b)

  over_month_day : (text : Text) (date : DateRecord) → MonthDayText text date
      → ReadsOver (month_day_at fault profile) text (lone_day_in_range fault profile date.month date.day)
  over_month_day text date h =
      let marks = marks_are h.marks h.mark in
      let hyphens = hyphens_are h.hyphens h.hyphen in
      rw (h.is, ← append_assoc h.marks h.months (h.hyphens ++ h.days), marks.1, hyphens.1)
      (over_lone_month marks.0 _ _ h.month before over_lone_day _ hyphens.0 _ _ h.day)

  pub month_day_takes : (text : Text) (date : DateRecord) (rest : Text) → IsMonthDay profile text date
      → month_day_at fault profile (text ++ rest) ≡ Ok (date, rest)
  month_day_takes text date rest h = (over_month_day text date h.0).over rest ∙ day_fits date.month date.day rest h.1
      ∙ λ i. Ok (date_of (sym h.0.no_year i) date.month date.day, rest)

  -- Every row of a month-day, except those for what follows it.
  pub month_day_row : (l : MonthDayLine) → IsInMonthDay profile l → RowsRead fault true (month_day_at fault profile) (of_month_day l)
  unfolding month_day_at marks_at lone_month_in_range lone_day_at
  month_day_row month_day_start h place e front rest f at = rw (f, mark_stops fault (of_month_day month_day_start) place e rest tt at)
  month_day_row month_day_hyphen h place e front rest f at =
      rw (
        hyphen_is front f,
        hyphen_over fault (of_month_day month_day_start) true rest (λ c. refl) tt,
        mark_stops fault (of_month_day month_day_hyphen) place e rest tt at,
      ) refl
  month_day_row month_day_month_digits h place e front rest f at =
      let t = begun_month front f in
      rw t.2 ((two_digits_stop fault (marks_at fault) (of_month_day month_day_month_digits) (λ c. refl) month_from t.0 (marks_of t.0) (over_marks t.0)
      t.1 rest place e t.3 at).reads_to)
  month_day_row month_day_month_range h (anywhere left) e front rest f at =
      let t = marks_are f.0 f.3 in
      rw (f.2, t.1, at.0, at.1) ((over_digits t.0 f.1 f.4.0).over rest ∙ rw (month_is_none (decimal f.1) f.4.1) refl)
  month_day_row after_month_day_month h place e front rest f at =
      let t = marks_are f.0 f.3 in
      rw (f.2, t.1) ((over_lone_month t.0 f.1 f.4.0 f.4.1).over rest ∙ rw (mark_stops fault (of_month_day after_month_day_month) place e rest tt at))
  month_day_row month_day_day_digits h place e front rest f at =
      let t = marks_are f.0 f.3 in
      let s = begun_day f.4.1 f.4.4 in
      rw (f.2, f.4.2, ← append_assoc f.0 f.4.0 f.4.1, t.1, s.2)
      ((over_lone_month t.0 f.4.0 f.4.3.0 f.4.3.1 upto day_stops f.4.3.0 s.0 s.1 rest place e s.3 at).reads_to)
  month_day_row (month_day_range other) h (anywhere left) e front rest f at =
      let here : some (NoMonthDay profile) front = rw h at f in
      rw (h, at.0, at.1) ((over_month_day front here.0 here.1.0).over rest ∙ day_refused here.0.month here.0.day rest here.1.1)
  month_day_row (after_month_day other) h place e front rest f at = absurd h
  month_day_row l h place e front rest f at = absurd at
