-- Reading a date returns its record and the rest. Each row of the table lines of a date is returned.
use Rattle.std.proofs.Common.{◌≡◌, ℕ, ◌<◌, ◌⊎◌, Bool, true, false, [], ◌++◌, Ok, Err, refl, sym, ap, ◌∙◌, inl, inr, arith, ℤ, nat_le, ◌&&◌, ◌≤◌}
use Rattle.std.proofs.lemmas.Bool.{and_parts, and_from, leb-true, le-leb, false_from_ne_true, Decides.nat_tests}
use Rattle.ixdtf_grammar.specs.{declared.records.DateRecord.DateRecord, language.{Letters.{Text, ◌or◌, digit, hyphen}, Shapes.digits, Digits.decimal}}
use Rattle.ixdtf_grammar.specs.language.{Digits.TwoDigits, Months.OptionalHyphen, Dates.{Year, Month, DateText, IsDayOfMonth, IsDate, month_length}}
use Rattle.ixdtf_grammar.specs.{language.Readers.CoreKind.year_month, table.{Faults.{Fault, Fault.{InvalidMonthRange, InvalidDayRange}}, LineNames.DateLine}}
use Rattle.ixdtf_grammar.specs.table.LineNames.{LineName, of_date, DateLine.{year_start, year_digits, extended_year_digits, minus_zero_year, after_year}}
use Rattle.ixdtf_grammar.specs.table.LineNames.DateLine.{month_digits, month_range, after_hyphened_month, after_basic_month, day_digits, day_range, after_date}
use Rattle.ixdtf_grammar.specs.table.{Lines.{line_of, date_line, HyphenOrDigit, NoMonth}, Before.BeforeDate, Rows.{Row, Place, Stops, Place.anywhere}}
use Rattle.ixdtf_reading.specs.reading.{Looks.{Read, ◌>>=◌, row_of, mark_at}, Dates.{date_of, year_at, month_in_range, month_by, month_at, line_after_month}}
use Rattle.ixdtf_reading.specs.reading.Dates.{day_in_range, day_at, date_at}
use Rattle.ixdtf_reading.proofs.parts.{Looks.{ReadsOver, ◌before◌, ◌upto◌, Halts, halts_then, RowsRead, LooksFor, looks_for, none_or_one}, Marks.hyphens_of}
use Rattle.ixdtf_reading.proofs.parts.{Marks.{Starts, Begun, hyphen_is, hyphen_over, mark_over, mark_stops, two_digits_over, two_digits_stop}, Years.year_takes}
use Rattle.ixdtf_reading.proofs.parts.Years.{year_start_row, year_digits_row, extended_year_digits_row, minus_zero_year_row}

-- The table lines whose rows are returned when a date is read.
abbrev pub IsInside : DateLine → Type 0
IsInside after_date = ⊥
IsInside _ = Unit {0}

-- The row of two digits that are not a month, before this text.
abbrev pub no_month : Text → Row
no_month left = row_of (of_date month_range) (anywhere left) InvalidMonthRange

-- The beginning of a month, with a hyphen before it or without.
begun_month : (t : Text) → HyphenOrDigit t → (b : Bool) × (ds : Text) × (t ≡ hyphens_of b ++ ds) × Begun b ds
begun_month t (inl h) = (true, [], hyphen_is t h, inl refl)
begun_month t (inr (inl h)) = (true, h.1, h.2 ∙ ap (λ u. u ++ h.1) (hyphen_is h.0 h.3), inr h.4)
begun_month t (inr (inr h)) = (false, t, refl, h)

pub hyphens_are : (hs : Text) → OptionalHyphen hs → (b : Bool) × (hs ≡ hyphens_of b)
hyphens_are hs (inl h) = (false, h)
hyphens_are hs (inr h) = (true, hyphen_is hs h)

-- The test whether a number is that of a month.
pub month_is : (m : ℕ) → 1 ≤ m → m ≤ 12 → (nat_le 1 m && nat_le m 12) ≡ true
month_is m low high = and_from _ _ (le-leb 1 m low) (le-leb m 12 high)

pub month_is_none : (m : ℕ) → (m ≡ 0) ⊎ (12 < m) → (nat_le 1 m && nat_le m 12) ≡ false
month_is_none m h = grind (arith, nat_tests)

pub month_or_none : (m : ℕ) → ((1 ≤ m) × (m ≤ 12)) ⊎ ((m ≡ 0) ⊎ (12 < m))
month_or_none m = grind arith

module _ {E : Type 0} (fault : Row → E) where
  -- ---- a year and a month

  -- The table line after the year is `name`.
  module _ (name : LineName) (asks : LooksFor (hyphen or digit) (line_of true name)) where
    -- Reads on from the digits of a month, with a hyphen before them or without.
    abbrev month_of : Bool → Text × Text → Read E (ℕ × Bool)
    month_of b ds = month_in_range fault ds >>= λ month. Ok ((month.0, b), month.1)

    over_digits : (b : Bool) (ds : Text) → digits 2 ds → ReadsOver (month_at fault name) (hyphens_of b ++ ds) (λ rest. month_of b (ds, rest))
    unfolding month_by
    over_digits b =
        two_digits_over fault (mark_at fault name hyphen) (of_date month_digits) (λ c. refl) month_of
        b (hyphens_of b) (λ text. hyphen_over fault name b text asks)

    month_stops : (b : Bool) (ds rest : Text) (place : Place) (e : Fault) → Begun b ds → Stops (date_line month_digits) place e rest
        → Halts (month_at fault name) (hyphens_of b ++ ds) rest (fault (row_of (of_date month_digits) place e))
    unfolding month_by
    month_stops b =
        two_digits_stop fault (mark_at fault name hyphen) (of_date month_digits) (λ c. refl) month_of
        b (hyphens_of b) (λ text. hyphen_over fault name b text asks)

    pub month_takes : (b : Bool) (ms : Text) (m : ℕ) (rest : Text) → Month ms m → month_at fault name ((hyphens_of b ++ ms) ++ rest) ≡ Ok ((m, b), rest)
    unfolding month_in_range
    month_takes b ms m rest h = (over_digits b ms h.0.0).over rest ∙ rw (sym h.0.1, month_is m h.1 h.2) refl

    pub month_out : (b : Bool) (ds rest : Text) → NoMonth ds → month_at fault name ((hyphens_of b ++ ds) ++ rest) ≡ Err (fault (no_month rest))
    unfolding month_in_range
    month_out b ds rest h = (over_digits b ds h.0).over rest ∙ rw (month_is_none (decimal ds) h.1) refl

    -- A year and a month, and what `go` reads after them.
    module _ {A : Type 0} (go : ℤ → (ℕ × Bool) × Text → Read E A) where
      abbrev from_year : Text → Read E A
      from_year text = year_at fault text >>= λ year. month_at fault name year.1 >>= λ month. go year.0 month

      abbrev from_month : ℤ → Text → Read E A
      from_month y text = month_at fault name text >>= λ month. go y month

      pub over_year : (ys : Text) (y : ℤ) → Year ys y → ReadsOver from_year ys (from_month y)
      over_year ys y h = record { over = λ rest. rw (year_takes fault ys y rest h) refl }

      pub over_month : (y : ℤ) (b : Bool) (ms : Text) (m : ℕ) → Month ms m → ReadsOver (from_month y) (hyphens_of b ++ ms) (λ rest. go y ((m, b), rest))
      over_month y b ms m h = record { over = λ rest. rw (month_takes b ms m rest h) refl }

      pub year_stops : (ys : Text) (y : ℤ) (place : Place) (e : Fault) (rest : Text) → Year ys y → Stops (line_of true name) place e rest
          → from_year (ys ++ rest) ≡ Err (fault (row_of name place e))
      unfolding month_by
      year_stops ys y place e rest h at = (over_year ys y h).over rest ∙ rw (mark_stops fault name place e rest (looks_for (hyphen or digit) _ asks) at)

      module _ (brackets : Bool) where
        -- Every row of a year and of a month after it.
        pub year_and_month_row : (l : DateLine) (prior : Text) → BeforeDate year_month l prior
            → RowsRead fault brackets (λ body. from_year (prior ++ body)) (of_date l)
        year_and_month_row year_start prior h place e front rest f at = rw (h, year_start_row fault brackets place e front rest f at) refl
        year_and_month_row year_digits prior h place e front rest f at = rw (h, year_digits_row fault brackets place e front rest f at) refl
        year_and_month_row extended_year_digits prior h place e front rest f at = rw (h, extended_year_digits_row fault brackets place e front rest f at) refl
        year_and_month_row minus_zero_year prior h place e front rest f at = rw (h, minus_zero_year_row fault brackets place e front rest f at) refl
        year_and_month_row month_digits prior h place e front rest f at =
            let t = begun_month f.1 f.4 in
            rw (h, f.2, t.2) ((over_year f.0 f.3.0 f.3.1 upto halts_then (go f.3.0) (month_stops t.0 t.1 rest place e t.3 at)).reads_to)
        year_and_month_row month_range prior h (anywhere left) e front rest f at =
            let t = hyphens_are f.4.0 f.4.3 in
            let out : Halts (month_at fault name) (hyphens_of t.0 ++ f.4.1) rest (fault (no_month rest)) =
            record { reads_to = month_out t.0 f.4.1 rest f.4.4 } in
            rw (h, f.2, f.4.2, t.1, at.0, at.1) ((over_year f.0 f.3.0 f.3.1 upto halts_then (go f.3.0) out).reads_to)
        year_and_month_row month_range prior h place e front rest f at = absurd at
        year_and_month_row l prior h place e front rest f at = absurd h

  -- ---- the day after them

  day_fits : (date : DateRecord) (rest : Text) → IsDayOfMonth date → day_in_range fault date rest ≡ Ok (date, rest)
  unfolding day_in_range
  day_fits date rest h = rw (and_from _ _ (le-leb 1 date.day h.0) (le-leb date.day _ h.1))

  day_refused : (date : DateRecord) (rest : Text) → ¬ (IsDayOfMonth date)
      → day_in_range fault date rest ≡ Err (fault (row_of (of_date day_range) (anywhere rest) InvalidDayRange))
  unfolding day_in_range
  day_refused date rest h = rw (false_from_ne_true _ (λ test. h (
      let both = and_parts (nat_le 1 date.day) (nat_le date.day (month_length date.year date.month)) test in
      (leb-true _ _ both.0, leb-true _ _ both.1)))) refl

  over_separator : (b : Bool) (text : Text) → Starts b text → mark_at fault (line_after_month b) hyphen (hyphens_of b ++ text) ≡ Ok (b, text)
  over_separator true text starts = mark_over fault (of_date after_hyphened_month) true text tt refl starts
  over_separator false text starts = mark_over fault (of_date after_basic_month) false text tt (λ c h. h) starts

  -- Reads on from the digits of a day.
  abbrev day_of : ℤ → ℕ → Bool → Text × Text → Read E DateRecord
  day_of y m b ds = day_in_range fault (date_of y m (decimal ds.0)) ds.1

  pub over_day : (y : ℤ) (m : ℕ) (b : Bool) (ds : Text) (d : ℕ) → TwoDigits ds d
      → ReadsOver (day_at fault y (m, b)) (hyphens_of b ++ ds) (day_in_range fault (date_of y m d))
  unfolding day_at
  over_day y m b ds d h =
      rw (← h.1) at (two_digits_over fault (mark_at fault (line_after_month b) hyphen) (of_date day_digits) (λ c. refl) (day_of y m)
      b (hyphens_of b) (over_separator b) ds h.0)

  day_stops : (y : ℤ) (m : ℕ) (b : Bool) (ds rest : Text) (place : Place) (e : Fault) → Begun b ds → Stops (date_line day_digits) place e rest
      → Halts (day_at fault y (m, b)) (hyphens_of b ++ ds) rest (fault (row_of (of_date day_digits) place e))
  unfolding day_at
  day_stops y m b =
      two_digits_stop fault (mark_at fault (line_after_month b) hyphen) (of_date day_digits) (λ c. refl) (day_of y m) b (hyphens_of b) (over_separator b)

  -- ---- dates

  abbrev day_from : ℤ → (ℕ × Bool) × Text → Read E DateRecord
  day_from y month = day_at fault y month.0 month.1

  to_year : (ys : Text) (y : ℤ) → Year ys y → ReadsOver (date_at fault) ys (from_month (of_date after_year) (λ c. refl) day_from y)
  unfolding date_at
  to_year = over_year (of_date after_year) (λ c. refl) day_from

  to_month : (y : ℤ) (b : Bool) (ms : Text) (m : ℕ) → Month ms m
      → ReadsOver (from_month (of_date after_year) (λ c. refl) day_from y) (hyphens_of b ++ ms) (day_at fault y (m, b))
  to_month = over_month (of_date after_year) (λ c. refl) day_from

  pub over_date : (text : Text) (date : DateRecord) → DateText text date → ReadsOver (date_at fault) text (day_in_range fault date)
  over_date text date (inl h) = rw h.is (to_year _ _ h.year before to_month _ false _ _ h.month before over_day _ _ false _ _ h.day)
  over_date text date (inr h) = rw h.is (to_year _ _ h.year before to_month _ true _ _ h.month before over_day _ _ true _ _ h.day)

  pub date_takes : (text : Text) (date : DateRecord) (rest : Text) → IsDate text date → date_at fault (text ++ rest) ≡ Ok (date, rest)
  date_takes text date rest h = (over_date text date h.0).over rest ∙ day_fits date rest h.1

  -- Every row of a date, except those for what follows it.
  pub date_row_read : (brackets : Bool) (l : DateLine) → IsInside l → RowsRead fault brackets (date_at fault) (of_date l)
  unfolding date_at day_at
  date_row_read brackets after_year h place e front rest f at = year_stops (of_date after_year) (λ c. refl) day_from front f.0 place e rest f.1 at
  date_row_read brackets after_hyphened_month h place e front rest f at =
      rw (f.2, f.4.2, hyphen_is f.4.0 f.4.3)
      ((to_year _ _ f.3.1 before to_month _ true _ _ f.4.4.1).over rest ∙ rw (mark_stops fault (of_date after_hyphened_month) place e rest tt at))
  date_row_read brackets after_basic_month h place e front rest f at =
      rw f.2 ((to_year _ _ f.3.1 before to_month _ false _ _ f.4.1).over rest ∙ rw (mark_stops fault (of_date after_basic_month) place e rest tt at))
  date_row_read brackets day_digits h place e front rest (inl f) at =
      rw (f.2, f.4.2) ((to_year _ _ f.3.1 upto to_month _ false _ _ f.4.3.1 upto day_stops _ _ false f.4.1 rest place e f.4.4 at).reads_to)
  date_row_read brackets day_digits h place e front rest (inr f) at =
      let last = f.4.4.4 in
      rw (f.2, f.4.2, f.4.4.2, last.2, hyphen_is f.4.0 f.4.3, hyphen_is last.0 last.3) ((to_year _ _ f.3.1 upto to_month _ true _ _ f.4.4.3.1
      upto day_stops _ _ true last.1 rest place e (none_or_one last.4.0 last.1 last.4.1 last.4.2) at).reads_to)
  date_row_read brackets day_range h (anywhere left) e front rest f at =
      rw (at.0, at.1) ((over_date front f.0 f.1.0).over rest ∙ day_refused f.0 rest f.1.1)
  date_row_read brackets day_range h place e front rest f at = absurd at
  date_row_read brackets after_date h place e front rest f at = absurd h
  date_row_read brackets l h place e front rest f at =
      year_and_month_row (of_date after_year) (λ c. refl) day_from brackets l [] refl place e front rest f at
