-- Reading a time returns a time that the next code unit does not continue, or the fault of a row that fits.
use Rattle.std.proofs.Common.{◌≡◌, ℕ, ◌<◌, ◌≤◌, ◌⊎◌, IsTrue, IsFalse, [], ◌∷◌, ◌++◌, Ok, Err, Some, None, refl, ◌∙◌, subst, inl, inr, arith, append_assoc}
use Rattle.std.proofs.{Common.{nat_le, Bool, true, false, if◌then◌else◌}, lemmas.Bool.{eqb-true, leb-true, leb-false, and_parts, or_from, Decides.nat_tests}}
use Rattle.ixdtf_grammar.specs.declared.records.TimeRecord.{TimeRecord}
use Rattle.ixdtf_grammar.specs.language.Times.{Clock, TimeShape, ClockOf, BasicMinuteText, ColonMinuteText, SecondText, greatest_second, has_seconds}
use Rattle.ixdtf_grammar.specs.language.Times.TimeShape.{hours, basic_minutes, colon_minutes, seconds, fractions}
use Rattle.ixdtf_grammar.specs.language.Letters.{Text, ◌or◌, digit, colon, decimal_mark, Letter.{Plain, Bad}}
use Rattle.ixdtf_grammar.specs.language.{Shapes.{Shape, some, one, fewer_digits_than, ◌then◌, ◌either◌}, Digits.{decimal, UpTo}}
use Rattle.ixdtf_grammar.specs.{language.Fractions.{FractionParts, SomeDigits, fraction_of}, table.Faults.Fault}
use Rattle.ixdtf_grammar.specs.table.{Faults.Fault.{NonAsciiCodePoint, TimeHour, TimeMinuteSecond}, LineNames.{ClockLine, LineName, LineName.of_clock}}
use Rattle.ixdtf_grammar.specs.table.LineNames.ClockLine.{hour_start, hour_digit, hour_range, after_hour, minute_digits, minute_range, after_basic_minute}
use Rattle.ixdtf_grammar.specs.table.LineNames.ClockLine.{after_colon_minute, second_digits, second_range, after_second, fraction_start, after_fraction}
use Rattle.ixdtf_grammar.specs.table.Lines.{line_of, follow_of, seconds_after, second_fault, mixed, ColonOrDigit, Past, Ending.{ok, error}}
use Rattle.ixdtf_grammar.specs.table.Rows.{Row, Place, Stops, front_of, Place.{end, other, bad, anywhere}}
use Rattle.ixdtf_grammar.proofs.parts.Texts.{colon_seconds_text}
use Rattle.ixdtf_reading.specs.reading.Looks.{Read, ◌>>=◌, row_of, letter_at, look_at, next_by, digits_at, peek_by, in_range, number_by, digit_run}
use Rattle.ixdtf_reading.specs.reading.Times.{OpenTime, time_of, line_after, bad_after, mixed_after, hour_past, minute_past, second_past, minutes_shape}
use Rattle.ixdtf_reading.specs.reading.Times.{second_start, number_at, fraction_at, after_second_at, second_at, after_minute_at, minute_at, after_hour_at}
use Rattle.ixdtf_reading.specs.reading.{Times.{hour_from, clock_at}, Zones.follow_look}
use Rattle.ixdtf_reading.proofs.parts.Looks.{IsRowFault, OnRead, OnRun, FitsIn, fits_in, then_read, read_weaker, read_if, no_digit, none_or_one}
use Rattle.ixdtf_reading.proofs.parts.Looks.{LooksFor, goes_with, looks_for, DigitsStop, goes, stops, read_letter, digits_read, Peeked, peek_read}
use Rattle.ixdtf_reading.proofs.parts.Looks.{next_read, run_read, further, onto, NotNext}
use Rattle.ixdtf_reading.proofs.to_reading.Times.{Closed, IsLater, StopsAfter, closed_minutes, with_fraction}

-- What is true if reading a time returned this result.
abbrev pub TimeFront : Clock → Text → OpenTime → Text → Type 0
TimeFront clock text x rest = (front : Text) × (text ≡ front ++ rest) × ClockOf clock x.0 front x.1 × Closed clock x.0 rest

-- A table line after the first digit of an hour.
abbrev pub later : Clock → (l : ClockLine) × IsLater l → LineName
later clock l = of_clock clock l.0

-- A colon or a digit cannot follow a time.
mixed_no_follow : (brackets : Bool) (clock : Clock) (c : ℕ) → IsTrue ((colon or digit) c) → IsFalse ((follow_of brackets clock).letters c)
mixed_no_follow brackets clock c h = grind (arith, h, nat_tests)

-- The text before the digits of a minute or a second: a colon, or nothing.
abbrev marks : Bool → Text
marks true = Plain 58 ∷ []
marks false = []

-- If no colon was consumed, a digit is next.
abbrev Starts : Bool → Text → Type 0
Starts true rest = Unit {0}
Starts false rest = (c : ℕ) × (more : Text) × (rest ≡ Plain c ∷ more) × IsTrue (digit c)

-- Fewer than two digits. Without a colon before them, there is at least one.
abbrev Begun : Bool → Shape
Begun true = fewer_digits_than 2
Begun false = one digit

after_colon : (ds : Text) → (ds ≡ []) ⊎ one digit ds → ColonOrDigit (Plain 58 ∷ ds)
after_colon ds (inl h) = inl (58, rw h, refl)
after_colon ds (inr h) = inr (inl (Plain 58 ∷ [], ds, refl, (58, refl, refl), h))

a_mark : (colons : Bool) → (marks colons ≡ []) ⊎ one colon (marks colons)
a_mark true = inr (58, refl, refl)
a_mark false = inl refl

minute_begun : (colons : Bool) (ds : Text) → Begun colons ds → ColonOrDigit (marks colons ++ ds)
minute_begun true ds b = after_colon ds (none_or_one b.0 ds b.1 b.2)
minute_begun false ds b = inr (inr b)

minute_text : (clock : Clock) (colons : Bool) (h m : ℕ) (front ds : Text) → UpTo 23 front h → UpTo 59 ds m
    → ClockOf clock (minutes_shape colons) (front ++ (marks colons ++ ds)) (time_of h m 0 None)
minute_text clock true h m front ds x u = record { hs = front; ms = ds; is = refl; hour = x; minute = u; no_second = refl; no_fraction = refl }
minute_text clock false h m front ds x u = record { hs = front; ms = ds; is = refl; hour = x; minute = u; no_second = refl; no_fraction = refl }

-- The text after a minute, if there is a second.
after_minute_text : (clock : Clock) (shape : Bool → Shape) (colons : Bool) (t : TimeRecord) (front ds : Text)
    → ClockOf clock (minutes_shape colons) front t → shape colons ds
    → ((some BasicMinuteText then shape false) either (some ColonMinuteText then one colon then shape true)) (front ++ (marks colons ++ ds))
after_minute_text clock shape true t front ds x s = inr (front, _, refl, (t, x), (Plain 58 ∷ [], ds, refl, (58, refl, refl), s))
after_minute_text clock shape false t front ds x s = inl (front, ds, refl, (t, x), s)

second_text : (clock : Clock) (colons : Bool) (h m s : ℕ) (front ds : Text) → IsTrue (has_seconds clock)
    → ClockOf clock (minutes_shape colons) front (time_of h m 0 None) → UpTo (greatest_second clock) ds s
    → SecondText clock (front ++ (marks colons ++ ds)) (time_of h m s None)
second_text clock true h m s front ds may x u =
    inr (colon_seconds_text x.hs x.ms ds (rw x.is (simp append_assoc)) may x.hour x.minute u refl)
second_text clock false h m s front ds may x u =
    inl (record {
      hs = x.hs;
      ms = x.ms;
      ss = ds;
      is = rw x.is (simp append_assoc);
      may = may;
      hour = x.hour;
      minute = x.minute;
      second = u;
      no_fraction = refl;
    })

is_fraction_text : (clock : Clock) (h m s c : ℕ) (front ds : Text) (fraction : FractionParts) → SecondText clock front (time_of h m s None)
    → IsTrue (decimal_mark c) → SomeDigits ds → fraction ≡ fraction_of ds → ClockOf clock fractions (front ++ (Plain c ∷ ds)) (time_of h m s (Some fraction))
is_fraction_text clock h m s c front ds fraction x mark some same = record {
  whole = front;
  part = Plain c ∷ ds;
  fraction = fraction;
  is = refl;
  second = x;
  is_fraction = record { mark = c; ds = ds; is = refl; marks = mark; some = some; value = same };
  value = refl;
}

-- What is true if reading a fraction after its mark returned this result.
abbrev FractionFront : Text → FractionParts → Text → Type 0
FractionFront text fraction rest = (ds : Text) × (text ≡ ds ++ rest) × SomeDigits ds × (fraction ≡ fraction_of ds) × NotNext digit rest

module _ {E : Type 0} (fault : Row → E) where
  -- The row is that of a number that is too great.
  abbrev PastRow : Row → ℕ → Text → Row → Type 0
  PastRow wanted greatest ds row = (row ≡ wanted) × (greatest < decimal ds)

  range_read : (greatest : ℕ) (wanted : Text → Row) (ds rest : Text)
      → OnRead fault (in_range greatest (λ left. fault (wanted left)) (ds, rest)) (λ n more. (more ≡ rest) × (n ≡ decimal ds) × (n ≤ greatest))
      (PastRow (wanted rest) greatest ds)
  unfolding in_range
  range_read greatest wanted ds rest =
      read_if fault (nat_le (decimal ds) greatest) _ _ _ _ (λ h. (refl, refl, leb-true _ _ h)) (λ h. (wanted rest, refl, (refl, leb-false _ _ h)))

  begun : (name : LineName) → LooksFor digit (line_of true name) → (colons : Bool) (rest : Text) (row : Row) → Starts colons rest
      → (g : DigitsStop name 2 rest row) → Begun colons g.2
  begun name asks true rest row at g = (g.0, g.1, g.5)
  begun name asks false rest row at g = some_digit (none_or_one g.0 g.2 g.1 g.5)
    where
      some_digit : (g.2 ≡ []) ⊎ one digit g.2 → one digit g.2
      some_digit (inl h) =
          let looks = looks_for digit (line_of true name) asks in
          let goes_on = goes fault name at.0 at.1 looks (goes_with digit (line_of true name) at.0 asks at.3) in
          absurd (grind (arith, goes_on, stops fault name row.place row.error g.3 looks g.6.1, g.4, at.2, h))
      some_digit (inr d) = d

  module _ (brackets : Bool) (clock : Clock) (text : Text) where
    -- The row is of a table line after the first digit of an hour, and fits.
    abbrev Fitting : Row → Type 0
    Fitting row = FitsIn (later clock) brackets row text

    fits : (l : ClockLine) (is_later : IsLater l) (place : Place) (e : Fault) (front rest : Text) → text ≡ front ++ rest
        → front_of (line_of brackets (of_clock clock l)) front → Stops (line_of brackets (of_clock clock l)) place e rest
        → Fitting (row_of (of_clock clock l) place e)
    fits l is_later place e front rest is shown at = ((l, is_later), refl, (front, rest, is, shown, at))

    -- ---- the table lines after a complete time

    module _ (front rest : Text) (is : text ≡ front ++ rest) where
      -- The row of this table line fits here.
      at_line : (l : ClockLine) (is_later : IsLater l) (place : Place) (e : Fault) → front_of (line_of brackets (of_clock clock l)) front
          → Stops (line_of brackets (of_clock clock l)) place e rest → IsRowFault fault (fault (row_of (of_clock clock l) place e)) Fitting
      at_line l is_later place e shown at = (row_of (of_clock clock l) place e, refl, fits l is_later place e front rest is shown at)

      -- The next code unit is `Bad`.
      open_bad : (shape : TimeShape) (t : TimeRecord) (more : Text) → ClockOf clock shape front t → rest ≡ Bad ∷ more
          → IsRowFault fault (bad_after fault clock shape rest) Fitting
      open_bad hours t more x next = at_line after_hour tt (bad rest) NonAsciiCodePoint (t, x) (more, next, refl, refl)
      open_bad basic_minutes t more x next = at_line after_basic_minute tt (bad rest) NonAsciiCodePoint (t, x) (more, next, refl, refl)
      open_bad colon_minutes t more x next = at_line after_colon_minute tt (bad rest) NonAsciiCodePoint (t, x) (more, next, refl, refl)
      open_bad seconds t more x next = at_line after_second tt (bad rest) NonAsciiCodePoint (t, x) (more, next, refl, refl)
      open_bad fractions t more x next = at_line after_fraction tt (bad rest) NonAsciiCodePoint (t, x) (more, next, refl, refl)

      -- The next code unit is a colon or a digit that cannot follow the time.
      mixed_read : (colons : Bool) (t : TimeRecord) (c : ℕ) (more : Text) → ClockOf clock (minutes_shape colons) front t → rest ≡ Plain c ∷ more
          → IsFalse (seconds_after clock (second_start colons) c) → IsTrue ((colon or digit) c)
          → IsRowFault fault (mixed_after fault clock (minutes_shape colons) rest) Fitting
      mixed_read true t c more x next out h =
          at_line after_colon_minute tt (other rest) (mixed clock) (t, x) (c, more, next, or_from _ _ out (mixed_no_follow brackets clock c h), rw h, refl)
      mixed_read false t c more x next out h =
          at_line after_basic_minute tt (other rest) (mixed clock) (t, x) (c, more, next, or_from _ _ out (mixed_no_follow brackets clock c h), rw h, refl)

      -- The text ends, and this is an error.
      open_end : (shape : TimeShape) (t : TimeRecord) (e : Fault) → ClockOf clock shape front t → rest ≡ [] → (follow_of brackets clock).at_end ≡ error e
          → Fitting (row_of (line_after clock shape) (end rest) e)
      open_end hours t e x next ends = fits after_hour tt (end rest) e front rest is (t, x) (next, ends, refl)
      open_end basic_minutes t e x next ends = fits after_basic_minute tt (end rest) e front rest is (t, x) (next, ends, refl)
      open_end colon_minutes t e x next ends = fits after_colon_minute tt (end rest) e front rest is (t, x) (next, ends, refl)
      open_end seconds t e x next ends = fits after_second tt (end rest) e front rest is (t, x) (next, ends, refl)
      open_end fractions t e x next ends = fits after_fraction tt (end rest) e front rest is (t, x) (next, ends, refl)

      -- The next code unit must not follow the time.
      open_other : (shape : TimeShape) (t : TimeRecord) (c : ℕ) (more : Text) (e : Fault) → ClockOf clock shape front t → rest ≡ Plain c ∷ more
          → IsFalse ((follow_of brackets clock).letters c) → e ≡ (follow_of brackets clock).at_other → Closed clock shape (Plain c ∷ more)
          → Fitting (row_of (line_after clock shape) (other rest) e)
      open_other hours t c more e x next out same closed =
          fits after_hour tt (other rest) e front rest is (t, x) (c, more, next, or_from _ _ (or_from _ _ closed.0 closed.1) out, same, refl)
      open_other basic_minutes t c more e x next out same closed =
          fits after_basic_minute tt (other rest) e front rest is (t, x) (c, more, next, or_from _ _ closed.0 out, rw closed.1 same, refl)
      open_other colon_minutes t c more e x next out same closed =
          fits after_colon_minute tt (other rest) e front rest is (t, x) (c, more, next, or_from _ _ closed.0 out, rw closed.1 same, refl)
      open_other seconds t c more e x next out same closed =
          fits after_second tt (other rest) e front rest is (t, x) (c, more, next, or_from _ _ closed out, same, refl)
      open_other fractions t c more e x next out same closed =
          fits after_fraction tt (other rest) e front rest is (t, x) (c, more, next, or_from _ _ closed out, same, refl)

    -- What is true for the result of reading a time, or a part of it.
    abbrev TimeOrRow : Read E OpenTime → Type 0
    TimeOrRow r = OnRead fault r (TimeFront clock text) Fitting

    -- ---- from stage to stage

    module _ (h m s c : ℕ) (front : Text) (x : SecondText clock front (time_of h m s None)) (mark : IsTrue (decimal_mark c)) where
      -- Reading after the first digit of a fraction.
      more_digits_read : (d : ℕ) (more : Text) → text ≡ front ++ (Plain c ∷ (Plain d ∷ more)) → IsTrue (digit d) → (r : Read E Text)
          → OnRun (bad_after fault clock fractions) more r
          → OnRead fault (r >>= λ ds. Ok (fraction_of (Plain d ∷ ds.0), ds.1)) (FractionFront (Plain d ∷ more)) Fitting
      more_digits_read d more is digit_d (Ok ds) run = (Plain d ∷ ds.0, onto d run.0, (run.1.0, (d, ds.0, refl, digit_d, run.1.1)), refl, run.2)
      more_digits_read d more is digit_d (Err e) run =
          rw run.2
          (open_bad (front ++ (Plain c ∷ (Plain d ∷ run.0))) (Bad ∷ run.1)
          (further text front _ (Plain c ∷ (Plain d ∷ run.0)) (Bad ∷ run.1) is (onto c (onto d run.3))) fractions
          (time_of h m s (Some (fraction_of (Plain d ∷ run.0)))) run.1
          (is_fraction_text clock h m s c front (Plain d ∷ run.0) _ x mark (run.4, (d, run.0, refl, digit_d, run.5)) refl) refl)

      fraction_read : (rest : Text) → text ≡ front ++ (Plain c ∷ rest) → OnRead fault (fraction_at fault clock rest) (FractionFront rest) Fitting
      unfolding fraction_at
      fraction_read rest is =
          then_read fault (letter_at fault (of_clock clock fraction_start) rest) _ _ _ _ _ (read_letter fault (of_clock clock fraction_start) rest tt)
          (λ d left g. rw g.0
          (more_digits_read d left (is ∙ rw g.0) g.1 (digit_run (bad_after fault clock fractions) left) (run_read (bad_after fault clock fractions) left)))
          (λ r g. fits_in (later clock) brackets (fraction_start, tt) r text (front ++ (Plain c ∷ [])) rest g.0
          (further text front _ (Plain c ∷ []) rest is refl) (front, _, refl, (time_of h m s None, x), (c, refl, mark)) g.1)

      with_fraction_read : (rest : Text) → text ≡ front ++ (Plain c ∷ rest) → TimeOrRow (with_fraction h m s (fraction_at fault clock rest))
      with_fraction_read rest is = then_read fault (fraction_at fault clock rest) _ _ _ _ _ (fraction_read rest is)
          (λ fraction more f. let whole = is_fraction_text clock h m s c front f.0 fraction x mark f.2 f.3 in
          (front ++ (Plain c ∷ f.0), further text front _ (Plain c ∷ f.0) more is (onto c f.1), whole, f.4))
          (λ r f. f)

    after_second_read : (h m s : ℕ) (front rest : Text) → text ≡ front ++ rest → SecondText clock front (time_of h m s None)
        → TimeOrRow (after_second_at fault clock h m s rest)
    unfolding after_second_at
    after_second_read h m s front rest is x = next_read (bad_after fault clock seconds) decimal_mark _ _ fault rest (TimeFront clock text) Fitting
        (λ more next. open_bad front rest is seconds (time_of h m s None) more x next)
        (λ c more next mark. with_fraction_read h m s c front x mark more (is ∙ rw next))
        (λ closed. (front, is, x, closed))

    -- The number of a minute or a second. There is a table line for its digits and one for its range.
    module _ (at_digits at_range : (l : ClockLine) × IsLater l) (greatest : ℕ) (e : Fault) (asks : LooksFor digit (line_of true (later clock at_digits)))
        (same : line_of true (later clock at_digits) ≡ line_of brackets (later clock at_digits))
        (whole : (t : Text) → Stops (line_of brackets (later clock at_range)) (anywhere t) e t) where
      number_read : (colons : Bool) (front rest : Text) → text ≡ front ++ (marks colons ++ rest) → Starts colons rest
          → ((ds : Text) → Begun colons ds → front_of (line_of brackets (later clock at_digits)) (front ++ (marks colons ++ ds)))
          → ((ds : Text) → Past greatest ds → front_of (line_of brackets (later clock at_range)) (front ++ (marks colons ++ ds)))
          → OnRead fault (number_at fault (later clock at_digits) greatest (λ left. row_of (later clock at_range) (anywhere left) e) rest)
          (λ n left. (ds : Text) × (text ≡ (front ++ (marks colons ++ ds)) ++ left) × UpTo greatest ds n) Fitting
      unfolding number_by
      number_read colons front rest is at digits_front past_front = let wanted : Text → Row = λ left. row_of (later clock at_range) (anywhere left) e in
          then_read fault (digits_at fault (later clock at_digits) 2 rest) _ _ _ _ _ (digits_read fault (later clock at_digits) asks 2 rest)
          (λ ds more g. read_weaker fault (in_range greatest (λ left. fault (wanted left)) (ds, more)) _ _ _ _ (range_read greatest wanted ds more)
          (λ n left u. (ds, is ∙ rw (g.0, u.0) (simp append_assoc), (g.1, u.1, u.2)))
          (λ r u. rw u.0 (fits at_range.0 at_range.1 (anywhere more) e (front ++ (marks colons ++ ds)) more (is ∙ rw g.0 (simp append_assoc))
          (past_front ds (g.1, u.1)) (whole more))))
          (λ r g. fits_in (later clock) brackets at_digits r text (front ++ (marks colons ++ g.2)) g.3 g.6.0 (is ∙ rw g.4 (simp append_assoc))
          (digits_front g.2 (begun (later clock at_digits) asks colons rest r at g)) (subst (λ l. Stops l r.place r.error g.3) same g.6.1))

    second_read : (colons : Bool) (h m : ℕ) (front rest : Text) → IsTrue (has_seconds clock) → text ≡ front ++ (marks colons ++ rest) → Starts colons rest
        → ClockOf clock (minutes_shape colons) front (time_of h m 0 None) → TimeOrRow (second_at fault clock h m rest)
    unfolding second_at
    second_read colons h m front rest may is at x =
        then_read fault (number_at fault (of_clock clock second_digits) (greatest_second clock) (second_past clock) rest) _ _ _ _ _
        (number_read (second_digits, tt) (second_range, tt) (greatest_second clock) (second_fault clock) (λ c. refl) refl (λ t. (refl, refl)) colons front rest is at
        (λ ds b. (may, after_minute_text clock Begun colons _ front ds x b))
        (λ ds p. (may, after_minute_text clock (λ b. Past (greatest_second clock)) colons _ front ds x p)))
        (λ s left g. after_second_read h m s (front ++ (marks colons ++ g.0)) left g.1 (second_text clock colons h m s front g.0 may x g.2))
        (λ r g. g)

    second_from : (colons : Bool) (h m c : ℕ) (front rest more : Text) → text ≡ front ++ rest → rest ≡ Plain c ∷ more
        → IsTrue (seconds_after clock (second_start colons) c) → ClockOf clock (minutes_shape colons) front (time_of h m 0 None)
        → TimeOrRow (second_at fault clock h m (if colons then more else rest))
    second_from true h m c front rest more is next mark x =
        let parts = and_parts _ _ mark in second_read true h m front more parts.0 (is ∙ rw (next, eqb-true c 58 parts.1)) tt x
    second_from false h m c front rest more is next mark x =
        let parts = and_parts _ _ mark in second_read false h m front rest parts.0 is (c, more, next, parts.1) x

    after_minute_read : (colons : Bool) (h m : ℕ) (front rest : Text) → text ≡ front ++ rest
        → ClockOf clock (minutes_shape colons) front (time_of h m 0 None) → TimeOrRow (after_minute_at fault clock colons h m rest)
    unfolding after_minute_at
    after_minute_read colons h m front rest is x =
        let shape = minutes_shape colons in
        next_read (bad_after fault clock shape) (seconds_after clock (second_start colons)) _ _ fault rest (TimeFront clock text) Fitting
        (λ more next. open_bad front rest is shape (time_of h m 0 None) more x next)
        (λ c more next mark. second_from colons h m c front rest more is next mark x)
        (λ no_second. next_read (bad_after fault clock shape) (colon or digit) (λ d left. Err (mixed_after fault clock shape rest)) _ fault rest
        (TimeFront clock text) Fitting
        (λ more next. open_bad front rest is shape (time_of h m 0 None) more x next)
        (λ c more next h. mixed_read front rest is colons _ c more x next (rw next at no_second) h)
        (λ closed. (front, is, x, closed_minutes clock colons rest no_second closed)))

    minute_read : (colons : Bool) (h : ℕ) (front rest : Text) → text ≡ front ++ (marks colons ++ rest) → Starts colons rest → UpTo 23 front h
        → TimeOrRow (minute_at fault clock colons h rest)
    unfolding minute_at
    minute_read colons h front rest is at x =
        then_read fault (number_at fault (of_clock clock minute_digits) 59 (minute_past clock) rest) _ _ _ _ _
        (number_read (minute_digits, tt) (minute_range, tt) 59 TimeMinuteSecond (λ c. refl) refl (λ t. (refl, refl)) colons front rest is at
        (λ ds b. (front, _, refl, (h, x), minute_begun colons ds b)) (λ ds p. (front, _, refl, (h, x), (marks colons, ds, refl, a_mark colons, p))))
        (λ m left g. after_minute_read colons h m (front ++ (marks colons ++ g.0)) left g.1 (minute_text clock colons h m front g.0 x g.2))
        (λ r g. g)

    after_hour_read : (h : ℕ) (front rest : Text) → text ≡ front ++ rest → UpTo 23 front h → TimeOrRow (after_hour_at fault clock h rest)
    unfolding after_hour_at
    after_hour_read h front rest is x =
        let hour : ClockOf clock hours front (time_of h 0 0 None) = record { hour = x; no_minute = refl; no_second = refl; no_fraction = refl } in
        next_read (bad_after fault clock hours) colon _ _ fault rest (TimeFront clock text) Fitting
        (λ more next. open_bad front rest is hours (time_of h 0 0 None) more hour next)
        (λ c more next mark. minute_read true h front more (is ∙ rw (next, eqb-true c 58 mark)) tt x)
        (λ no_colon. next_read (bad_after fault clock hours) digit _ _ fault rest (TimeFront clock text) Fitting
        (λ more next. open_bad front rest is hours (time_of h 0 0 None) more hour next)
        (λ c more next d. minute_read false h front rest is (c, more, next, d) x)
        (λ closed. (front, is, hour, (no_colon, closed))))

    pub hour_read : (c : ℕ) (rest : Text) → IsTrue (digit c) → text ≡ Plain c ∷ rest → TimeOrRow (hour_from fault clock c rest)
    unfolding hour_from
    hour_read c rest d is =
        then_read fault (digits_at fault (of_clock clock hour_digit) 1 rest) _ _ _ _ _ (digits_read fault (of_clock clock hour_digit) (λ c. refl) 1 rest)
        (λ ds more g. then_read fault (in_range 23 (λ left. fault (hour_past clock left)) (Plain c ∷ ds, more)) _ _ _ _ _
        (range_read 23 (hour_past clock) (Plain c ∷ ds) more)
        (λ h left u. after_hour_read h (Plain c ∷ ds) left (is ∙ rw (g.0, u.0)) ((c, ds, refl, d, g.1), u.1, u.2))
        (λ r u. rw u.0 (fits hour_range tt (anywhere more) TimeHour (Plain c ∷ ds) more (is ∙ rw g.0) ((c, ds, refl, d, g.1), u.1) (refl, refl))))
        (λ r g. let at = no_digit (of_clock clock hour_digit) rest r g in
        fits_in (later clock) brackets (hour_digit, tt) r text (Plain c ∷ []) rest at.0 is (c, refl, d) at.1)

    -- Reading a time at the beginning of the text.
    pub clock_read : OnRead fault (clock_at fault clock text) (TimeFront clock text) (λ row. FitsIn (of_clock clock) brackets row text)
    unfolding clock_at
    clock_read = then_read fault (letter_at fault (of_clock clock hour_start) text) _ _ _ _ _ (read_letter fault (of_clock clock hour_start) text tt)
        (λ c rest h. read_weaker fault (hour_from fault clock c rest) _ _ _ _ (hour_read c rest h.1 h.0) (λ x more g. g) (λ row g. (g.0.0, g.1, g.2)))
        (λ r h. fits_in (of_clock clock) brackets hour_start r text [] text h.0 refl refl h.1)

    -- ---- what follows a time

    -- The row after a complete time.
    pub clock_stops : (x : OpenTime) (place : Place) (e : Fault) (rest : Text) → TimeFront clock text x rest
        → StopsAfter (follow_of brackets clock) place e rest → Fitting (row_of (line_after clock x.0) place e)
    clock_stops x (end left) e rest h at = rw at.2 (open_end h.0 rest h.1 x.0 x.1 e h.2 at.0 at.1)
    clock_stops x (other left) e rest h at = rw at.5 (open_other h.0 rest h.1 x.0 x.1 at.0 at.1 e h.2 at.2 at.3 at.4 (rw at.2 at h.3))
    clock_stops x place e rest h at = absurd at

    -- The next code unit must not follow the time.
    other_read : (x : OpenTime) (rest : Text) → TimeFront clock text x rest → (c : ℕ) (more : Text) → rest ≡ Plain c ∷ more
        → IsFalse ((follow_of brackets clock).letters c) → IsRowFault fault ((follow_look fault brackets clock x).at_other c rest) Fitting
    other_read x rest h c more next out =
        let e = (follow_of brackets clock).at_other in
        (row_of (line_after clock x.0) (other rest) e, refl, clock_stops x (other rest) e rest h (c, more, next, out, refl, refl))

    -- A table line after the first digit is one of the lines of the clock.
    in_clock : (e : E) → IsRowFault fault e Fitting → IsRowFault fault e (λ row. FitsIn (of_clock clock) brackets row text)
    in_clock e h = (h.0, h.1, (h.2.0.0, h.2.1, h.2.2))

    -- The look at what follows a time, if the text can end there. The next lemma is for a time after which it must not end.
    pub clock_peek_read : (x : OpenTime) (rest : Text) → TimeFront clock text x rest → (follow_of brackets clock).at_end ≡ ok
        → OnRead fault (peek_by (follow_look fault brackets clock x) rest) (Peeked (follow_of brackets clock).letters rest)
        (λ row. FitsIn (of_clock clock) brackets row text)
    clock_peek_read x rest h ends = peek_read (follow_look fault brackets clock x) fault rest _
        (λ c more next out. in_clock _ (other_read x rest h c more next out))
        (λ more next. in_clock _ (open_bad h.0 rest h.1 x.0 x.1 more h.2 next))

    pub clock_next_read : (x : OpenTime) (rest : Text) (e : Fault) → TimeFront clock text x rest → (follow_of brackets clock).at_end ≡ error e
        → OnRead fault (next_by (follow_look fault brackets clock x) rest) (λ c more. (rest ≡ Plain c ∷ more) × IsTrue ((follow_of brackets clock).letters c))
        (λ row. FitsIn (of_clock clock) brackets row text)
    unfolding next_by look_at
    clock_next_read x [] e h ends = rw ends (in_clock _ (row_of (line_after clock x.0) (end []) e, refl, clock_stops x (end []) e [] h (refl, ends, refl)))
    clock_next_read x (Bad ∷ rest) e h ends = in_clock _ (open_bad h.0 _ h.1 x.0 x.1 rest h.2 refl)
    clock_next_read x (Plain c ∷ rest) e h ends =
        read_if fault ((follow_of brackets clock).letters c) _ _ _ _ (λ g. (refl, g)) (λ out. in_clock _ (other_read x (Plain c ∷ rest) h c rest refl out))
