-- Reading a year-month or a month-day returns one, or the fault of a row that fits.
use Rattle.std.proofs.Common.{◌≡◌, ℕ, Bool, true, false, [], ◌∷◌, ◌++◌, Ok, refl, ◌∙◌, inl, inr, append_assoc, pos, nat_le, ◌&&◌}
use Rattle.std.proofs.{Common.if◌then◌else◌, lemmas.Bool.{and_parts, and_from, both_ways, leb-true, le-leb}}
use Rattle.ixdtf_grammar.specs.{declared.{profile.Profile.Profile, records.DateRecord.DateRecord}, language.Letters.{Text, digit, hyphen, Letter.Plain}}
use Rattle.ixdtf_grammar.specs.language.{Shapes.{one, ◌then◌, ◌either◌, digits}, Digits.{decimal, TwoDigits}, Dates.Month}
use Rattle.ixdtf_grammar.specs.language.Months.{Marks, OptionalHyphen, IsYearMonth, MonthDayText, IsMonthDay, greatest_day, least_day}
use Rattle.ixdtf_grammar.specs.{language.Readers.{CoreKind.{year_month, month_day}, Reader.bracketed}, table.Faults.Fault.InvalidMonthDay}
use Rattle.ixdtf_grammar.specs.table.LineNames.{LineName, MonthDayLine, of_year_month, of_month_day, YearMonthLine.after_year_in_year_month}
use Rattle.ixdtf_grammar.specs.table.LineNames.MonthDayLine.{month_day_start, month_day_hyphen, month_day_month_digits, month_day_month_range}
use Rattle.ixdtf_grammar.specs.table.{LineNames.MonthDayLine.{after_month_day_month, month_day_day_digits, month_day_range}, Lines.MonthDayMonthDigits}
use Rattle.ixdtf_grammar.specs.table.{Before.InMonthDay, Rows.{Row, Fits}}
use Rattle.ixdtf_grammar.proofs.parts.Texts.{year_month_text}
use Rattle.ixdtf_reading.specs.reading.{Looks.{Read, digits_at, mark_at}, Dates.date_of}
use Rattle.ixdtf_reading.specs.reading.Months.{year_month_at, marks_at, lone_month_in_range, lone_day_in_range, lone_day_at, month_day_at}
use Rattle.ixdtf_reading.proofs.parts.Looks.{OnRead, FitsIn, fits_in, fits_whole_in, lift, then_read, read_weaker, read_if, digits_read, further}
use Rattle.ixdtf_reading.proofs.parts.{Marks.{hyphens_of, Starts, Begun, Stood, optional, mark_read, hyphen_read, stops_after}, Years.in_year_or_month}
use Rattle.ixdtf_reading.proofs.{to_reading.Months.{no_lone_month, marks_of}, to_grammar.Dates.{from_year_read, NoMonthRow, month_range_read}}

-- A prefix of the text is of this kind, and the rest follows it.
abbrev pub FrontIs : (Text → DateRecord → Type 0) → Text → DateRecord → Text → Type 0
FrontIs kind text date rest = (front : Text) × (text ≡ front ++ rest) × kind front date

-- ---- year-months

pub year_month_read : {E : Type 0} (fault : Row → E) (text : Text)
    → OnRead fault (year_month_at fault text) (FrontIs IsYearMonth text) (λ row. Fits (bracketed year_month) row [] text)
unfolding year_month_at
year_month_read fault text = from_year_read fault (of_year_month after_year_in_year_month) (λ c. refl) true text
    (λ y month. Ok (date_of y month.0.0 1, month.1)) _ _
    (λ ys y b ms m rest is year month. (ys ++ (hyphens_of b ++ ms), is, year_month_text ys (hyphens_of b) ms refl year (optional b) month refl))
    (λ row h. lift in_year_or_month (bracketed year_month) row text [] text refl (λ l. (l.1, refl)) h)
    (λ ys y rest row is year h. lift of_year_month (bracketed year_month) row text [] text refl (λ l. (refl, refl))
    (fits_in of_year_month true after_year_in_year_month row text ys rest h.0 is (y, year) h.1))

-- ---- month-days

some_marks : (b : Bool) → Marks (marks_of b)
some_marks true = inr (Plain 45 ∷ [], Plain 45 ∷ [], refl, (45, refl, refl), (45, refl, refl))
some_marks false = inl refl

-- The beginning of a month, with two hyphens before it or without.
begins_month : (b : Bool) (ds : Text) → Begun b ds → MonthDayMonthDigits (marks_of b ++ ds)
begins_month true ds (inl h) = inl (Plain 45 ∷ [], Plain 45 ∷ [], rw h, (45, refl, refl), (45, refl, refl))
begins_month true ds (inr h) = inr (marks_of true, ds, refl, some_marks true, h)
begins_month false ds h = inr ([], ds, refl, inl refl, h)

-- The beginning of a day, with a hyphen before it or without.
begins_day : (b : Bool) (ds : Text) → Begun b ds → (one hyphen either (OptionalHyphen then one digit)) (hyphens_of b ++ ds)
begins_day true ds (inl h) = inl (45, rw h, refl)
begins_day true ds (inr h) = inr (hyphens_of true, ds, refl, optional true, h)
begins_day false ds h = inr ([], ds, refl, inl refl, h)

module _ {E : Type 0} (fault : Row → E) (profile : Profile) where
  -- The table lines of month-days under the profile.
  abbrev LineUnder : Type 0
  LineUnder = (l : MonthDayLine) × InMonthDay profile l []

  abbrev line_under : LineUnder → LineName
  line_under l = of_month_day l.0

  -- What is true for the result of reading a month-day, or a part of it.
  abbrev MonthDayOrRow : Text → Read E DateRecord → Type 0
  MonthDayOrRow text r = OnRead fault r (FrontIs (IsMonthDay profile) text) (λ row. FitsIn line_under true row text)

  module _ (text : Text) where
    marks_read : OnRead fault (marks_at fault text) (λ b rest. (text ≡ marks_of b ++ rest) × Starts b rest) (λ row. FitsIn line_under true row text)
    unfolding marks_at
    marks_read = then_read fault (mark_at fault (of_month_day month_day_start) hyphen text) _ _ _ _ _
        (hyphen_read fault (of_month_day month_day_start) text (λ c. refl))
        (λ b rest h. by_first b rest h.0 h.1)
        (λ r h. fits_in line_under true (month_day_start, refl) r text [] text h.0 refl refl h.1)
      where
        by_second : (rest : Text) → text ≡ Plain 45 ∷ rest → (b : Bool) (more : Text) → Stood fault (of_month_day month_day_hyphen) rest b more
            → (text ≡ marks_of b ++ more) × Starts b more
        by_second rest is true more h = (is ∙ rw h.0, tt)
        by_second rest is false more h = absurd (both_ways _ h.5 h.4)

        by_first : (b : Bool) (rest : Text) → text ≡ hyphens_of b ++ rest → Starts b rest
            → OnRead fault (if b then mark_at fault (of_month_day month_day_hyphen) hyphen rest else Ok (b, rest))
            (λ b rest. (text ≡ marks_of b ++ rest) × Starts b rest) (λ row. FitsIn line_under true row text)
        by_first true rest is starts = read_weaker fault _ _ _ _ _
            (mark_read fault (of_month_day month_day_hyphen) rest tt) (by_second rest is)
            (λ r h. fits_in line_under true (month_day_hyphen, refl) r text (Plain 45 ∷ []) rest h.0 is (45, refl, refl) h.1)
        by_first false rest is starts = (is, starts)

    day_read : (front rest : Text) (month day : ℕ) → text ≡ front ++ rest → MonthDayText front (date_of (pos 0) month day)
        → MonthDayOrRow text (lone_day_in_range fault profile month day rest)
    unfolding lone_day_in_range
    day_read front rest month day is shape = read_if fault (nat_le (least_day profile) day && nat_le day (greatest_day month)) _ _ _ _
        (λ test. let both = and_parts (nat_le (least_day profile) day) (nat_le day (greatest_day month)) test in
        (front, is, (shape, (leb-true _ _ both.0, leb-true _ _ both.1))))
        (λ test. fits_whole_in fault line_under true (month_day_range profile, (refl, refl)) InvalidMonthDay text front rest is
        (date_of (pos 0) month day, (shape, λ good. both_ways _ test (and_from _ _ (le-leb (least_day profile) day good.0) (le-leb day _ good.1)))) (refl, refl))

    -- The optional hyphens and a month were read.
    module _ (b : Bool) (ms : Text) (m : ℕ) (month : Month ms m) where
      -- The text of a month-day, with a hyphen before its day or without.
      abbrev dated : Bool → Text → Text
      dated s ds = marks_of b ++ (ms ++ (hyphens_of s ++ ds))

      with_day : (s : Bool) (rest more ds left : Text) → text ≡ (marks_of b ++ ms) ++ rest → rest ≡ hyphens_of s ++ more → more ≡ ds ++ left
          → text ≡ dated s ds ++ left
      with_day s rest more ds left is next last = is ∙ rw (next, last) (simp append_assoc)

      is_day_text : (s : Bool) (ds : Text) (d : ℕ) → TwoDigits ds d → MonthDayText (dated s ds) (date_of (pos 0) m d)
      is_day_text s ds d day = record {
        marks = marks_of b;
        months = ms;
        hyphens = hyphens_of s;
        days = ds;
        is = refl;
        mark = some_marks b;
        month = month;
        hyphen = optional s;
        day = day;
        no_year = refl;
      }

      after_month_read : (rest : Text) → text ≡ (marks_of b ++ ms) ++ rest → MonthDayOrRow text (lone_day_at fault profile m rest)
      unfolding lone_day_at
      after_month_read rest is = then_read fault (mark_at fault (of_month_day after_month_day_month) hyphen rest) _ _ _ _ _
          (hyphen_read fault (of_month_day after_month_day_month) rest (λ c. refl))
          (λ s more h. then_read fault (digits_at fault (of_month_day month_day_day_digits) 2 more) _ _ _ _ _
          (digits_read fault (of_month_day month_day_day_digits) (λ c. refl) 2 more)
          (λ ds left g. day_read (dated s ds) left m _ (with_day s rest more ds left is h.0 g.0) (is_day_text s ds (decimal ds) (g.1, refl)))
          (λ r g. let t = stops_after s (of_month_day month_day_day_digits) more r (λ c. refl) h.1 g in
          fits_in line_under true (month_day_day_digits, refl) r text (dated s t.0) t.1 t.4.0 (with_day s rest more t.0 t.1 is h.0 t.2)
          (marks_of b, _, refl, some_marks b, (ms, _, refl, (m, month), begins_day s t.0 t.3)) t.4.1))
          (λ r h. fits_in line_under true (after_month_day_month, refl) r text (marks_of b ++ ms) rest h.0 is (marks_of b, ms, refl, some_marks b, (m, month))
          h.1)

    month_row : (b : Bool) (ds rest : Text) (row : Row) → text ≡ (marks_of b ++ ds) ++ rest → digits 2 ds → NoMonthRow no_lone_month ds rest row
        → FitsIn line_under true row text
    month_row b ds rest row is two h = rw h.0 (
      (month_day_month_range, refl),
      refl,
      (marks_of b ++ ds, rest, is, (marks_of b, ds, refl, some_marks b, (two, h.1)), (refl, refl)),
    )

    front_read : MonthDayOrRow text (month_day_at fault profile text)
    unfolding month_day_at lone_month_in_range
    front_read = then_read fault (marks_at fault text) _ _ _ _ _ marks_read
        (λ b rest h. then_read fault (digits_at fault (of_month_day month_day_month_digits) 2 rest) _ _ _ _ _
        (digits_read fault (of_month_day month_day_month_digits) (λ c. refl) 2 rest)
        (λ ds more g. then_read fault (lone_month_in_range fault (ds, more)) _ _ _ _ _ (month_range_read fault no_lone_month ds more)
        (λ m left k. after_month_read b ds m ((g.1, k.1), k.2, k.3) left (further text (marks_of b) rest ds left h.0 (g.0 ∙ rw k.0)))
        (λ r k. month_row b ds more r (further text (marks_of b) rest ds more h.0 g.0) g.1 k))
        (λ r g. let t = stops_after b (of_month_day month_day_month_digits) rest r (λ c. refl) h.1 g in
        fits_in line_under true (month_day_month_digits, refl) r text (marks_of b ++ t.0) t.1 t.4.0 (further text (marks_of b) rest t.0 t.1 h.0 t.2)
        (begins_month b t.0 t.3) t.4.1))
        (λ r h. h)

  pub month_day_read : (text : Text) → OnRead fault (month_day_at fault profile text) (FrontIs (IsMonthDay profile) text)
      (λ row. Fits (bracketed (month_day profile)) row [] text)
  month_day_read text = read_weaker fault (month_day_at fault profile text) _ _ _ _ (front_read text) (λ date rest h. h)
      (λ row h. lift line_under (bracketed (month_day profile)) row text [] text refl (λ l. (l.1, refl)) h)
