-- Reading a date returns a date, or the fault of a row that fits.
use Rattle.std.proofs.Common.{◌≡◌, ℕ, ◌<◌, ◌≤◌, ◌⊎◌, Bool, true, false, [], ◌∷◌, ◌++◌, refl, ◌∙◌, inl, inr, arith, append_assoc, ℤ, nat_le, ◌&&◌}
use Rattle.std.proofs.lemmas.Bool.{and_parts, and_from, both_ways, leb-true, le-leb, Decides.nat_tests}
use Rattle.ixdtf_grammar.specs.{declared.records.DateRecord.DateRecord, language.{Letters.{Text, ◌or◌, digit, hyphen, Letter.Plain}, Shapes.{◌either◌, fewer_digits_than}}}
use Rattle.ixdtf_grammar.specs.language.{Digits.{decimal, TwoDigits}, Dates.{Year, Month, DateText, IsDate, month_length}}
use Rattle.std.proofs.Common.{Ok, Err, if◌then◌else◌}
use Rattle.ixdtf_grammar.specs.language.Shapes.{one, ◌then◌}
use Rattle.ixdtf_grammar.specs.table.{Faults.Fault.InvalidDayRange, LineNames.{LineName, of_date, DateLine.{after_year, month_digits, month_range}}}
use Rattle.ixdtf_grammar.specs.table.LineNames.DateLine.{after_hyphened_month, after_basic_month, day_digits, day_range}
use Rattle.ixdtf_grammar.specs.table.{Lines.{line_of, HyphenOrDigit, NoMonth, BasicDay, HyphenedDay}, Rows.Row}
use Rattle.ixdtf_reading.specs.reading.Looks.{Read, ◌>>=◌, digits_at, mark_at}
use Rattle.ixdtf_reading.specs.reading.Dates.{date_of, month_in_range, month_by, month_at, line_after_month, day_in_range, day_at, year_at, date_at}
use Rattle.ixdtf_reading.proofs.parts.Looks.{OnRead, FitsIn, StopsHere, fits_in, fits_whole_in, then_read, read_weaker, read_if, digits_read, one_as_digits}
use Rattle.ixdtf_reading.proofs.parts.{Looks.{further, LooksFor}, Marks.{hyphens_of, Starts, Begun, Stood, optional, mark_read, hyphen_read, stops_after}}
use Rattle.ixdtf_reading.proofs.{parts.Years.{in_year_or_month, year_read}, to_reading.Dates.no_month}
use Rattle.ixdtf_reading.proofs.parts.Looks.{Looks}

-- What is true if reading a date returned this result.
abbrev pub DateFront : Text → DateRecord → Text → Type 0
DateFront text date rest = (front : Text) × (text ≡ front ++ rest) × IsDate front date

-- The beginning of a month, with a hyphen before it or without.
begins_month : (b : Bool) (ds : Text) → Begun b ds → HyphenOrDigit (hyphens_of b ++ ds)
begins_month true ds (inl h) = inl (45, rw h, refl)
begins_month true ds (inr h) = inr (inl (Plain 45 ∷ [], ds, refl, (45, refl, refl), h))
begins_month false ds h = inr (inr h)

fewer_than_two : (ds : Text) → Begun true ds → fewer_digits_than 2 ds
fewer_than_two ds (inl h) = (0, omega arith, h)
fewer_than_two ds (inr h) = (1, omega arith, one_as_digits ds h)

-- The text of a date, with a hyphen before its month and one before its day, or with none.
abbrev dated : Bool → Text → Text → Text → Text
dated b ys ms ds = ys ++ ((hyphens_of b ++ ms) ++ (hyphens_of b ++ ds))

is_date_text : (b : Bool) (ys ms ds : Text) (date : DateRecord) → Year ys date.year → Month ms date.month → TwoDigits ds date.day
    → DateText (dated b ys ms ds) date
is_date_text false ys ms ds date year month day = inl (record { years = ys; months = ms; days = ds; is = refl; year = year; month = month; day = day })
is_date_text true ys ms ds date year month day = inr (record { years = ys; months = ms; days = ds; is = refl; year = year; month = month; day = day })

begins_day : (b : Bool) (ys ms ds : Text) (y : ℤ) (m : ℕ) → Year ys y → Month ms m → Begun b ds → (BasicDay either HyphenedDay) (dated b ys ms ds)
begins_day false ys ms ds y m year month h = inl (ys, _, refl, (y, year), (ms, ds, refl, (m, month), h))
begins_day true ys ms ds y m year month h =
    let day : (one hyphen then fewer_digits_than 2) (Plain 45 ∷ ds) = (Plain 45 ∷ [], ds, refl, (45, refl, refl), fewer_than_two ds h) in
    inr (ys, _, refl, (y, year), (Plain 45 ∷ [], _, refl, (45, refl, refl), (ms, _, refl, (m, month), day)))

-- The row is that of two digits that are not a month.
abbrev pub NoMonthRow : (Text → Row) → Text → Text → Row → Type 0
NoMonthRow wanted ds left row = (row ≡ wanted left) × ((decimal ds ≡ 0) ⊎ (12 < decimal ds))

pub month_range_read : {E : Type 0} (fault : Row → E) (wanted : Text → Row) (ds rest : Text)
    → OnRead fault (if nat_le 1 (decimal ds) && nat_le (decimal ds) 12 then Ok (decimal ds, rest) else Err (fault (wanted rest)))
    (λ m more. (more ≡ rest) × (m ≡ decimal ds) × (1 ≤ m) × (m ≤ 12)) (NoMonthRow wanted ds rest)
month_range_read fault wanted ds rest = read_if fault (nat_le 1 (decimal ds) && nat_le (decimal ds) 12) _ _ _ _
    (λ test. let both = and_parts (nat_le 1 (decimal ds)) (nat_le (decimal ds) 12) test in (refl, refl, leb-true _ _ both.0, leb-true _ _ both.1))
    (λ test. (wanted rest, refl, (refl, grind (arith, nat_tests))))

module _ {E : Type 0} (fault : Row → E) where
  -- ---- a year and a month

  -- What is true if reading a month after a year returned this result.
  abbrev MonthFront : Text → ℕ × Bool → Text → Type 0
  MonthFront text month rest = (ms : Text) × (text ≡ (hyphens_of month.1 ++ ms) ++ rest) × Month ms month.0

  -- The row is of a table line of a month, at the digits of this month.
  abbrev StopsInMonth : Text → Row → Type 0
  StopsInMonth text row =
      (b : Bool) × (ds rest : Text) × (text ≡ (hyphens_of b ++ ds) ++ rest)
      × ((Begun b ds × StopsHere (of_date month_digits) rest row) ⊎ (NoMonth ds × (row ≡ no_month rest)))

  -- `name` is the table line after the year.
  module _ (name : LineName) (asks : LooksFor (hyphen or digit) (line_of true name)) where
    month_read : (text : Text) → OnRead fault (month_at fault name text) (MonthFront text) (λ row. StopsHere name text row ⊎ StopsInMonth text row)
    unfolding month_by month_in_range
    month_read text = then_read fault (mark_at fault name hyphen text) _ _ _ _ _ (hyphen_read fault name text asks)
        (λ b rest h. then_read fault (digits_at fault (of_date month_digits) 2 rest) _ _ _ _ _ (digits_read fault (of_date month_digits) (λ c. refl) 2 rest)
        (λ ds more g. then_read fault (month_in_range fault (ds, more)) _ _ _ _ _ (month_range_read fault no_month ds more)
        (λ m left k. (ds, further text (hyphens_of b) rest ds left h.0 (g.0 ∙ rw k.0), ((g.1, k.1), k.2, k.3)))
        (λ r k. inr (b, ds, more, further text (hyphens_of b) rest ds more h.0 g.0, inr ((g.1, k.1), k.0))))
        (λ r g. let t = stops_after b (of_date month_digits) rest r (λ c. refl) h.1 g in
        inr (b, t.0, t.1, further text (hyphens_of b) rest t.0 t.1 h.0 t.2, inl (t.3, t.4))))
        (λ r h. inl h)

    module _ (brackets : Bool) (text : Text) where
      month_row : (ys : Text) (y : ℤ) (rest : Text) (row : Row) → text ≡ ys ++ rest → Year ys y → StopsInMonth rest row
          → FitsIn in_year_or_month brackets row text
      month_row ys y rest row is year h = by_line h.4
        where
          split : text ≡ (ys ++ (hyphens_of h.0 ++ h.1)) ++ h.2
          split = further text ys rest (hyphens_of h.0 ++ h.1) h.2 is h.3

          by_line : (Begun h.0 h.1 × StopsHere (of_date month_digits) h.2 row) ⊎ (NoMonth h.1 × (row ≡ no_month h.2)) → FitsIn in_year_or_month brackets row text
          by_line (inl g) = fits_in in_year_or_month brackets (month_digits, refl) row text (ys ++ (hyphens_of h.0 ++ h.1)) h.2 g.1.0 split
              (ys, _, refl, (y, year), begins_month h.0 h.1 g.0) g.1.1
          by_line (inr g) = rw g.1 (
            (month_range, refl),
            refl,
            (
              ys ++ (hyphens_of h.0 ++ h.1),
              h.2,
              split,
              (ys, _, refl, (y, year), (hyphens_of h.0, h.1, refl, optional h.0, g.0)),
              (refl, refl),
            ),
          )

      -- A year and a month, and what `go` reads after them.
      pub from_year_read : {A : Type 0} (go : ℤ → (ℕ × Bool) × Text → Read E A) (found : A → Text → Type 0) (stopped : Row → Type 0)
          → ((ys : Text) (y : ℤ) (b : Bool) (ms : Text) (m : ℕ) (rest : Text) → text ≡ (ys ++ (hyphens_of b ++ ms)) ++ rest → Year ys y → Month ms m
          → OnRead fault (go y ((m, b), rest)) found stopped)
          → ((row : Row) → FitsIn in_year_or_month brackets row text → stopped row)
          → ((ys : Text) (y : ℤ) (rest : Text) (row : Row) → text ≡ ys ++ rest → Year ys y → StopsHere name rest row → stopped row)
          → OnRead fault (year_at fault text >>= λ year. month_at fault name year.1 >>= λ month. go year.0 month) found stopped
      from_year_read {A} go found stopped goes_on in_line at_name = then_read fault (year_at fault text) _ _ _ _ _ (year_read fault brackets text)
          (λ y rest h. then_read fault (month_at fault name rest) _ _ _ _ _ (month_read rest)
          (λ month left g. goes_on h.0 y month.1 g.0 month.0 left (further text h.0 rest (hyphens_of month.1 ++ g.0) left h.1 g.1) h.2 g.2)
          (λ r g. by_stop h.0 y rest r h.1 h.2 g))
          in_line
        where
          by_stop : (ys : Text) (y : ℤ) (rest : Text) (row : Row) → text ≡ ys ++ rest → Year ys y → StopsHere name rest row ⊎ StopsInMonth rest row
              → stopped row
          by_stop ys y rest row is year (inl h) = at_name ys y rest row is year h
          by_stop ys y rest row is year (inr h) = in_line row (month_row ys y rest row is year h)

  -- ---- the day after them

  -- The text between a month and a day.
  separator_read : (b : Bool) (text : Text)
      → OnRead fault (mark_at fault (line_after_month b) hyphen text) (λ s rest. (text ≡ hyphens_of b ++ rest) × Starts b rest)
      (StopsHere (line_after_month b) text)
  separator_read b text = read_weaker fault _ _ _ _ _ (mark_read fault (line_after_month b) text (looks b)) (by_mark b) (λ row h. h)
    where
      looks : (b : Bool) → Looks (line_of true (line_after_month b))
      looks true = tt
      looks false = tt

      by_mark : (b s : Bool) (rest : Text) → Stood fault (line_after_month b) text s rest → (text ≡ hyphens_of b ++ rest) × Starts b rest
      by_mark true true rest h = (h.0, tt)
      by_mark true false rest h = absurd (both_ways _ h.5 h.4)
      by_mark false true rest h = absurd cc
      by_mark false false rest h = (h.0, (h.1, h.2, h.3, h.4))

  module _ (brackets : Bool) where
    -- What is true for the result of reading a date, or a part of it.
    abbrev DateOrRow : Text → Read E DateRecord → Type 0
    DateOrRow text r = OnRead fault r (DateFront text) (λ row. FitsIn of_date brackets row text)

    day_read : (text front rest : Text) (date : DateRecord) → text ≡ front ++ rest → DateText front date → DateOrRow text (day_in_range fault date rest)
    unfolding day_in_range
    day_read text front rest date is shape = read_if fault (nat_le 1 date.day && nat_le date.day (month_length date.year date.month)) _ _ _ _
        (λ test. let both = and_parts (nat_le 1 date.day) (nat_le date.day (month_length date.year date.month)) test in
        (front, is, (shape, (leb-true _ _ both.0, leb-true _ _ both.1))))
        (λ test. fits_whole_in fault of_date brackets day_range InvalidDayRange text front rest is
        (date, (shape, λ good. both_ways _ test (and_from _ _ (le-leb 1 date.day good.0) (le-leb date.day _ good.1)))) (refl, refl))

    -- A year and a month were read.
    module _ (text ys : Text) (y : ℤ) (ms : Text) (m : ℕ) (year : Year ys y) (month : Month ms m) where
      month_stops : (b : Bool) (rest : Text) (row : Row) → text ≡ (ys ++ (hyphens_of b ++ ms)) ++ rest → StopsHere (line_after_month b) rest row
          → FitsIn of_date brackets row text
      month_stops true rest row is h =
          fits_in of_date brackets after_hyphened_month row text (ys ++ (Plain 45 ∷ ms)) rest h.0 is
          (ys, _, refl, (y, year), (Plain 45 ∷ [], ms, refl, (45, refl, refl), (m, month))) h.1
      month_stops false rest row is h = fits_in of_date brackets after_basic_month row text (ys ++ ms) rest h.0 is (ys, ms, refl, (y, year), (m, month)) h.1

      with_day : (b : Bool) (rest more ds left : Text) → text ≡ (ys ++ (hyphens_of b ++ ms)) ++ rest → rest ≡ hyphens_of b ++ more → more ≡ ds ++ left
          → text ≡ dated b ys ms ds ++ left
      with_day b rest more ds left is next last = is ∙ rw (next, last) (simp append_assoc)

      after_month_read : (b : Bool) (rest : Text) → text ≡ (ys ++ (hyphens_of b ++ ms)) ++ rest → DateOrRow text (day_at fault y (m, b) rest)
      unfolding day_at
      after_month_read b rest is = then_read fault (mark_at fault (line_after_month b) hyphen rest) _ _ _ _ _ (separator_read b rest)
          (λ s more h. then_read fault (digits_at fault (of_date day_digits) 2 more) _ _ _ _ _ (digits_read fault (of_date day_digits) (λ c. refl) 2 more)
          (λ ds left g. day_read text (dated b ys ms ds) left _ (with_day b rest more ds left is h.0 g.0)
          (is_date_text b ys ms ds (date_of y m (decimal ds)) year month (g.1, refl)))
          (λ r g. let t = stops_after b (of_date day_digits) more r (λ c. refl) h.1 g in
          fits_in of_date brackets day_digits r text (dated b ys ms t.0) t.1 t.4.0 (with_day b rest more t.0 t.1 is h.0 t.2)
          (begins_day b ys ms t.0 y m year month t.3) t.4.1))
          (λ r h. month_stops b rest r is h)

    pub date_read : (text : Text) → DateOrRow text (date_at fault text)
    unfolding date_at
    date_read text = from_year_read (of_date after_year) (λ c. refl) brackets text (λ y month. day_at fault y month.0 month.1) _ _
        (λ ys y b ms m rest is year month. after_month_read text ys y ms m year month b rest is)
        (λ row h. (h.0.0, h.1, h.2))
        (λ ys y rest row is year h. fits_in of_date brackets after_year row text ys rest h.0 is (y, year) h.1)
