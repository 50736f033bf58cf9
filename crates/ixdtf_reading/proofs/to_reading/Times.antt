-- A time is read, if the next code unit does not continue it. Its first digit can be read in any way.
-- Each row of the table lines of a time is returned.
use Rattle.std.proofs.Common.{◌≡◌, ℕ, suc, ◌<◌, ◌⊎◌, Bool, true, false, IsTrue, IsFalse, [], ◌∷◌, ◌++◌, Ok, Err, Some, None, refl, sym, ◌∙◌, inl, inr, arith}
use Rattle.std.proofs.{Common.{append-nil, nat_le}, lemmas.Bool.{le-leb, lt-leb, or_parts, Decides.nat_tests}}
use Rattle.ixdtf_grammar.specs.{declared.records.TimeRecord.TimeRecord, language.Times.{Clock, TimeShape, ClockOf, SecondText, greatest_second, has_seconds}}
use Rattle.ixdtf_grammar.specs.language.{Times.TimeShape.{hours, basic_minutes, colon_minutes, seconds, fractions}, Letters.{Text, Class, ◌or◌, digit, colon}}
use Rattle.ixdtf_grammar.specs.language.{Letters.{decimal_mark, Letter.{Plain, Bad}}, Shapes.{Shape, nothing, some, digits, one}, Digits.{decimal, UpTo}}
use Rattle.ixdtf_grammar.specs.{language.Fractions.{FractionParts, fraction_of}, table.{Faults.Fault, LineNames.{ClockLine, LineName, LineName.of_clock}}}
use Rattle.ixdtf_grammar.specs.table.LineNames.ClockLine.{hour_start, hour_digit, hour_range, minute_digits, minute_range, second_digits, second_range}
use Rattle.ixdtf_grammar.specs.table.LineNames.ClockLine.{fraction_start, after_hour, after_basic_minute, after_colon_minute, after_second, after_fraction}
use Rattle.ixdtf_grammar.specs.table.Lines.{Follow, line_of, follow_of, always, seconds_after, after_minute, Past, ColonOrDigit, Line.line, Ending.error}
use Rattle.ixdtf_grammar.specs.table.Rows.{Row, Place, Stops, Place.{end, other, bad, anywhere}}
use Rattle.ixdtf_reading.specs.reading.{Looks.{Read, ◌>>=◌, row_of, look_at, in_range, number_by}, Times.{OpenTime, time_of, line_after, bad_after}}
use Rattle.ixdtf_reading.specs.reading.Times.{mixed_after, hour_past, minute_past, second_past, minutes_shape, second_start, number_at, fraction_at}
use Rattle.ixdtf_reading.specs.reading.Times.{after_second_at, second_at, after_minute_at, minute_at, after_hour_at, hour_from}
use Rattle.ixdtf_reading.proofs.parts.Looks.{ReadsOver, ◌before◌, ReadsTo, ◌upto◌, Halts, RowsRead, LooksFor, goes, stops, digits_go, digits_stop}
use Rattle.ixdtf_reading.proofs.parts.Looks.{one_as_digits, NotNext, run_takes, run_bad}

range_fits : {E : Type 0} (greatest n : ℕ) (e : Text → E) (ds rest : Text) → UpTo greatest ds n → in_range greatest e (ds, rest) ≡ Ok (n, rest)
unfolding in_range
range_fits greatest n e ds rest h = let test : nat_le (decimal ds) greatest ≡ true = rw (sym h.1) (le-leb n greatest h.2) in rw (test, h.1)

range_refused : {E : Type 0} (greatest : ℕ) (e : Text → E) (ds rest : Text) → greatest < decimal ds → in_range greatest e (ds, rest) ≡ Err (e rest)
unfolding in_range
range_refused greatest e ds rest h = rw (lt-leb (decimal ds) greatest h)

module _ {E : Type 0} (fault : Row → E) (name : LineName) (asks : LooksFor digit (line_of true name)) (greatest : ℕ) (past : Text → Row) where
  number_goes : (ds rest : Text) (n : ℕ) → UpTo greatest ds n → number_at fault name greatest past (ds ++ rest) ≡ Ok (n, rest)
  unfolding number_by
  number_goes ds rest n u = rw (digits_go fault name asks 2 ds rest u.0, range_fits greatest n (λ left. fault (past left)) ds rest u)

  number_stops : (k : ℕ) (ds rest : Text) (place : Place) (e : Fault) → k < 2 → digits k ds → Stops (line_of true name) place e rest
      → number_at fault name greatest past (ds ++ rest) ≡ Err (fault (row_of name place e))
  unfolding number_by
  number_stops k ds rest place e less d at = rw (digits_stop fault name asks 2 k ds rest place e less d at)

  number_too_great : (ds rest : Text) → Past greatest ds → number_at fault name greatest past (ds ++ rest) ≡ Err (fault (past rest))
  unfolding number_by
  number_too_great ds rest p = rw (digits_go fault name asks 2 ds rest p.0, range_refused greatest (λ left. fault (past left)) ds rest p.1)

-- At a digit, which is not consumed, one reading function continues as another one.
module _ {E A : Type 0}
    (start stage : Text → Read E A) (same : (c : ℕ) (rest : Text) → IsTrue (digit c) → start (Plain c ∷ rest) ≡ stage (Plain c ∷ rest)) where
  same_over : (n : ℕ) (ds rest : Text) → digits (suc n) ds → start (ds ++ rest) ≡ stage (ds ++ rest)
  same_over n ds rest d = rw d.2 (same d.0 (d.1 ++ rest) d.3)

  reads_over_as : {further : Text → Read E A} (n : ℕ) (ds : Text) → digits (suc n) ds → ReadsOver stage ds further → ReadsOver start ds further
  reads_over_as n ds d from = record { over = λ rest. same_over n ds rest d ∙ from.over rest }

  halts_as : {rest : Text} {e : E} (n : ℕ) (ds : Text) → digits (suc n) ds → Halts stage ds rest e → Halts start ds rest e
  halts_as n ds d from = record { reads_to = same_over n ds _ d ∙ from.reads_to }

-- A time of this shape ends here: the next code unit does not continue it, and is not `Bad`.
abbrev pub Closed : Clock → TimeShape → Text → Type 0
Closed clock hours rest = NotNext colon rest × NotNext digit rest
Closed clock basic_minutes rest = NotNext (seconds_after clock digit) rest × NotNext (colon or digit) rest
Closed clock colon_minutes rest = NotNext (seconds_after clock colon) rest × NotNext (colon or digit) rest
Closed clock seconds rest = NotNext decimal_mark rest
Closed clock fractions rest = NotNext digit rest

pub closed_minutes : (clock : Clock) (colons : Bool) (rest : Text) → NotNext (seconds_after clock (second_start colons)) rest → NotNext (colon or digit) rest
    → Closed clock (minutes_shape colons) rest
closed_minutes clock true rest h g = (h, g)
closed_minutes clock false rest h g = (h, g)

-- The table lines after the first digit of an hour.
abbrev pub IsLater : ClockLine → Type 0
IsLater hour_start = ⊥
IsLater _ = Unit {0}

-- The table lines after the first digit of an hour at which a time cannot end.
abbrev pub IsInner : ClockLine → Type 0
IsInner hour_start = ⊥
IsInner after_hour = ⊥
IsInner after_basic_minute = ⊥
IsInner after_colon_minute = ⊥
IsInner after_second = ⊥
IsInner after_fraction = ⊥
IsInner _ = Unit {0}

-- The text after a complete time, if a row of the table line after it fits. Not included are `Bad`, and a colon or a digit that
-- is an error of the time itself.
abbrev pub StopsAfter : Follow → Place → Fault → Text → Type 0
StopsAfter follow (end left) e rest = (rest ≡ []) × (follow.at_end ≡ error e) × (left ≡ rest)
StopsAfter follow (other left) e rest =
    (c : ℕ) × (more : Text) × (rest ≡ Plain c ∷ more) × IsFalse (follow.letters c) × (e ≡ follow.at_other) × (left ≡ rest)
StopsAfter follow (bad left) e rest = ⊥
StopsAfter follow (anywhere left) e rest = ⊥

-- Such a row is also one of a table line that accepts only what can follow a time.
pub stops_behind : (follow : Follow) (place : Place) (e : Fault) (rest : Text) → StopsAfter follow place e rest
    → Stops (line nothing follow.letters follow.at_end (always follow.at_other)) place e rest
stops_behind follow (end left) e rest at = at
stops_behind follow (other left) e rest at = at
stops_behind follow place e rest at = absurd at

-- A time of each shape ends at the end of the text.
pub closed_at_end : (clock : Clock) (shape : TimeShape) → Closed clock shape []
closed_at_end clock seconds = tt
closed_at_end clock fractions = tt
closed_at_end clock minutes = (tt, tt)

-- A time with the fraction that was read.
abbrev pub with_fraction : {E : Type 0} → ℕ → ℕ → ℕ → Read E FractionParts → Read E OpenTime
with_fraction h m s r = r >>= λ fraction. Ok ((fractions, time_of h m s (Some fraction.0)), fraction.1)

-- A reading function that begins a time. After the first digit, it reads the rest of the hour.
module _ {E : Type 0} (fault : Row → E) (clock : Clock)
    (start : Text → Read E OpenTime) (starts : (c : ℕ) → IsTrue (digit c) → ReadsOver start (Plain c ∷ []) (hour_from fault clock c)) where
  over_hour : (hs : Text) (h : ℕ) → UpTo 23 hs h → ReadsOver start hs (after_hour_at fault clock h)
  unfolding hour_from
  over_hour hs h u =
      let g = u.0 in
      record {
        over = λ rest. rw g.2 ((starts g.0 g.3).over (g.1 ++ rest)
            ∙ rw (digits_go fault (of_clock clock hour_digit) (λ c. refl) 1 g.1 rest g.4)
            (rw (range_fits 23 h (λ left. fault (hour_past clock left)) (Plain g.0 ∷ g.1) rest (rw g.2 at u))));
      }

  over_colon : (h : ℕ) (t : Text) → one colon t → ReadsOver (after_hour_at fault clock h) t (minute_at fault clock true h)
  unfolding after_hour_at look_at
  over_colon h t o = record { over = λ rest. rw (o.1, o.2) refl }

  at_minute_digit : (h c : ℕ) (rest : Text) → IsTrue (digit c) → after_hour_at fault clock h (Plain c ∷ rest) ≡ minute_at fault clock false h (Plain c ∷ rest)
  unfolding after_hour_at look_at
  at_minute_digit h c rest d = let no_colon : IsFalse (colon c) = grind (arith, nat_tests, d) in rw (no_colon, d)

  over_minute : (colons : Bool) (h : ℕ) (ms : Text) (m : ℕ) → UpTo 59 ms m
      → ReadsOver (minute_at fault clock colons h) ms (after_minute_at fault clock colons h m)
  unfolding minute_at
  over_minute colons h ms m u =
      record { over = λ rest. rw (number_goes fault (of_clock clock minute_digits) (λ c. refl) 59 (minute_past clock) ms rest m u) refl }

  over_basic_minute : (h : ℕ) (ms : Text) (m : ℕ) → UpTo 59 ms m → ReadsOver (after_hour_at fault clock h) ms (after_minute_at fault clock false h m)
  over_basic_minute h ms m u = reads_over_as _ _ (at_minute_digit h) 1 ms u.0 (over_minute false h ms m u)

  over_minutes : (colons : Bool) (text : Text) (t : TimeRecord) → ClockOf clock (minutes_shape colons) text t
      → ReadsOver start text (after_minute_at fault clock colons t.hour t.minute)
  over_minutes true text t x = rw x.is (over_hour _ _ x.hour before over_colon _ _ (58, refl, refl) before over_minute true _ _ _ x.minute)
  over_minutes false text t x = rw x.is (over_hour _ _ x.hour before over_basic_minute _ _ _ x.minute)

  over_second_colon : (h m : ℕ) (t : Text) → IsTrue (has_seconds clock) → one colon t
      → ReadsOver (after_minute_at fault clock true h m) t (second_at fault clock h m)
  unfolding after_minute_at look_at
  over_second_colon h m t may o = record { over = λ rest. rw (o.1, may, o.2) refl }

  at_second_digit : (h m : ℕ) → IsTrue (has_seconds clock) → (c : ℕ) (rest : Text) → IsTrue (digit c)
      → after_minute_at fault clock false h m (Plain c ∷ rest) ≡ second_at fault clock h m (Plain c ∷ rest)
  unfolding after_minute_at look_at
  at_second_digit h m may c rest d = rw (may, d)

  over_second : (h m : ℕ) (ss : Text) (s : ℕ) → UpTo (greatest_second clock) ss s → ReadsOver (second_at fault clock h m) ss (after_second_at fault clock h m s)
  unfolding second_at
  over_second h m ss s u =
      record { over = λ rest. rw (number_goes fault (of_clock clock second_digits) (λ c. refl) (greatest_second clock) (second_past clock) ss rest s u) refl }

  pub over_seconds : (text : Text) (t : TimeRecord) → SecondText clock text t → ReadsOver start text (after_second_at fault clock t.hour t.minute t.second)
  over_seconds text t (inl x) =
      rw x.is (over_hour _ _ x.hour before over_basic_minute _ _ _ x.minute
      before reads_over_as _ _ (at_second_digit _ _ x.may) 1 _ x.second.0 (over_second _ _ _ _ x.second))
  over_seconds text t (inr x) =
      rw x.is (over_hour _ _ x.hour before over_colon _ _ (58, refl, refl) before over_minute true _ _ _ x.minute
      before over_second_colon _ _ _ x.may (58, refl, refl) before over_second _ _ _ _ x.second)

  fraction_stage : ℕ → ℕ → ℕ → Text → Read E OpenTime
  fraction_stage h m s rest = with_fraction h m s (fraction_at fault clock rest)

  over_mark : (h m s : ℕ) (t : Text) → one decimal_mark t → ReadsOver (after_second_at fault clock h m s) t (fraction_stage h m s)
  unfolding after_second_at look_at fraction_stage
  over_mark h m s t o = record { over = λ rest. rw (o.1, o.2) refl }

  fraction_gives : {h m s : ℕ} (d : ℕ) (more rest : Text) (n : ℕ) → IsTrue (digit d) → digits n more → NotNext digit rest
      → ReadsTo (fraction_stage h m s) (Plain d ∷ more) rest (Ok ((fractions, time_of h m s (Some (fraction_of (Plain d ∷ more)))), rest))
  unfolding fraction_at fraction_stage
  fraction_gives d more rest n is ds closed =
      let start_goes = goes fault (of_clock clock fraction_start) d (more ++ rest) tt is in
      record { reads_to = rw (start_goes, run_takes (bad_after fault clock fractions) n more rest ds closed) refl }

  -- ---- consuming nothing at the end of a time

  stays_at_hour : (h : ℕ) (rest : Text) → Closed clock hours rest → after_hour_at fault clock h rest ≡ Ok ((hours, time_of h 0 0 None), rest)
  unfolding after_hour_at look_at
  stays_at_hour h [] closed = refl
  stays_at_hour h (Bad ∷ rest) closed = absurd closed.0
  stays_at_hour h (Plain c ∷ rest) closed = rw (closed.0, closed.1)

  stays_at_minute : (colons : Bool) (h m : ℕ) (rest : Text) → NotNext (seconds_after clock (second_start colons)) rest → NotNext (colon or digit) rest
      → after_minute_at fault clock colons h m rest ≡ Ok ((minutes_shape colons, time_of h m 0 None), rest)
  unfolding after_minute_at look_at
  stays_at_minute colons h m [] no_second closed = refl
  stays_at_minute colons h m (Bad ∷ rest) no_second closed = absurd closed
  stays_at_minute colons h m (Plain c ∷ rest) no_second closed = rw (no_second, closed)

  stays_at_second : (h m s : ℕ) (rest : Text) → Closed clock seconds rest → after_second_at fault clock h m s rest ≡ Ok ((seconds, time_of h m s None), rest)
  unfolding after_second_at look_at
  stays_at_second h m s [] closed = refl
  stays_at_second h m s (Bad ∷ rest) closed = absurd closed
  stays_at_second h m s (Plain c ∷ rest) closed = rw closed

  no_fraction : {text : Text} {t : TimeRecord} → SecondText clock text t → t.fraction ≡ None
  no_fraction (inl x) = x.no_fraction
  no_fraction (inr x) = x.no_fraction

  -- A time is read, if the next code unit does not continue it.
  pub time_takes : (shape : TimeShape) (text : Text) (t : TimeRecord) (rest : Text) → ClockOf clock shape text t → Closed clock shape rest
      → start (text ++ rest) ≡ Ok ((shape, t), rest)
  time_takes hours text t rest x closed =
      (over_hour _ _ x.hour).over rest ∙ stays_at_hour t.hour rest closed
      ∙ λ i. Ok ((hours, time_of t.hour (sym x.no_minute i) (sym x.no_second i) (sym x.no_fraction i)), rest)
  time_takes basic_minutes text t rest x closed =
      (over_minutes false text t x).over rest ∙ stays_at_minute false t.hour t.minute rest closed.0 closed.1
      ∙ λ i. Ok ((basic_minutes, time_of t.hour t.minute (sym x.no_second i) (sym x.no_fraction i)), rest)
  time_takes colon_minutes text t rest x closed =
      (over_minutes true text t x).over rest ∙ stays_at_minute true t.hour t.minute rest closed.0 closed.1
      ∙ λ i. Ok ((colon_minutes, time_of t.hour t.minute (sym x.no_second i) (sym x.no_fraction i)), rest)
  time_takes seconds text t rest x closed =
      (over_seconds text t x).over rest ∙ stays_at_second t.hour t.minute t.second rest closed
      ∙ λ i. Ok ((seconds, time_of t.hour t.minute t.second (sym (no_fraction x) i)), rest)
  time_takes fractions text t rest x closed =
      let part = x.is_fraction in
      let ds = part.some.1 in
      let same : Some (fraction_of (Plain ds.0 ∷ ds.1)) ≡ t.fraction = rw (x.value, part.value, ds.2) refl in
      rw (x.is, part.is, ds.2) ((over_seconds x.whole _ x.second upto over_mark _ _ _ (Plain part.mark ∷ []) (part.mark, refl, part.marks)
      upto fraction_gives ds.0 ds.1 rest part.some.0 ds.3 ds.4 closed).reads_to
      ∙ λ i. Ok ((fractions, time_of t.hour t.minute t.second (same i)), rest))

  -- ---- the rows inside a time
  module _ (brackets : Bool) where
    minute_stops : (colons : Bool) (h k : ℕ) (ds rest : Text) (place : Place) (e : Fault) → k < 2 → digits k ds
        → Stops (line_of brackets (of_clock clock minute_digits)) place e rest
        → Halts (minute_at fault clock colons h) ds rest (fault (row_of (of_clock clock minute_digits) place e))
    unfolding minute_at
    minute_stops colons h k ds rest place e less d at =
        record { reads_to = rw (number_stops fault (of_clock clock minute_digits) (λ c. refl) 59 (minute_past clock) k ds rest place e less d at) refl }

    minute_too_great : (colons : Bool) (h : ℕ) (ds rest : Text) → Past 59 ds → Halts (minute_at fault clock colons h) ds rest (fault (minute_past clock rest))
    unfolding minute_at
    minute_too_great colons h ds rest p =
        record { reads_to = rw (number_too_great fault (of_clock clock minute_digits) (λ c. refl) 59 (minute_past clock) ds rest p) refl }

    second_stops : (h m k : ℕ) (ds rest : Text) (place : Place) (e : Fault) → k < 2 → digits k ds
        → Stops (line_of brackets (of_clock clock second_digits)) place e rest
        → Halts (second_at fault clock h m) ds rest (fault (row_of (of_clock clock second_digits) place e))
    unfolding second_at
    second_stops h m k ds rest place e less d at =
        let stops_at = number_stops fault (of_clock clock second_digits) (λ c. refl) (greatest_second clock) (second_past clock) k ds rest place e less d at in
        record { reads_to = rw stops_at refl }

    second_too_great : (h m : ℕ) (ds rest : Text) → Past (greatest_second clock) ds → Halts (second_at fault clock h m) ds rest (fault (second_past clock rest))
    unfolding second_at
    second_too_great h m ds rest p =
        record { reads_to = rw (number_too_great fault (of_clock clock second_digits) (λ c. refl) (greatest_second clock) (second_past clock) ds rest p) refl }

    -- Each row inside a time.
    pub inner_rows : (l : ClockLine) → IsInner l → RowsRead fault brackets start (of_clock clock l)
    unfolding hour_from fraction_at fraction_stage
    inner_rows hour_digit h place e front rest f at =
        rw f.1 ((starts f.0 f.2).over rest ∙ rw (digits_stop fault (of_clock clock hour_digit) (λ c. refl) 1 0 [] rest place e (omega arith) refl at))
    inner_rows hour_range h (anywhere left) e front rest f at =
        let g = f.0 in
        rw (g.2, at.0, at.1) ((starts g.0 g.3).over (g.1 ++ rest)
        ∙ rw (digits_go fault (of_clock clock hour_digit) (λ c. refl) 1 g.1 rest g.4) (rw (range_refused 23 _ (Plain g.0 ∷ g.1) rest (rw g.2 at f.1))))
    inner_rows minute_digits h place e front rest f at = rw f.2 ((at_place f.4).reads_to)
      where
        at_place : ColonOrDigit f.1 → Halts start (f.0 ++ f.1) rest (fault (row_of (of_clock clock minute_digits) place e))
        at_place (inl h) = over_hour _ _ f.3.1 upto rw (← append-nil f.1) (over_colon _ _ h upto minute_stops true _ 0 [] rest place e (omega arith) refl at)
        at_place (inr (inl h)) =
            rw h.2 (over_hour _ _ f.3.1 upto over_colon _ _ h.3 upto minute_stops true _ 1 h.1 rest place e (omega arith) (one_as_digits _ h.4) at)
        at_place (inr (inr h)) =
            let d = one_as_digits _ h in
            over_hour _ _ f.3.1 upto halts_as _ _ (at_minute_digit _) 0 f.1 d (minute_stops false _ 1 f.1 rest place e (omega arith) d at)
    inner_rows minute_range h (anywhere left) e front rest (hs, more, is, hour, (marks, ds, both, inl none, past)) at =
        rw (is, both, none, at.0, at.1)
        ((over_hour _ _ hour.1 upto halts_as _ _ (at_minute_digit _) 1 _ past.0 (minute_too_great false _ _ _ past)).reads_to)
    inner_rows minute_range h (anywhere left) e front rest (hs, more, is, hour, (marks, ds, both, inr mark, past)) at =
        rw (is, both, at.0, at.1) ((over_hour _ _ hour.1 upto over_colon _ _ mark upto minute_too_great true _ _ _ past).reads_to)
    inner_rows second_digits h place e front rest (may, inl f) at =
        let d = one_as_digits _ f.4 in
        rw f.2 ((over_minutes false f.0 f.3.0 f.3.1
        upto halts_as _ _ (at_second_digit _ _ may) 0 f.1 d (second_stops _ _ 1 f.1 rest place e (omega arith) d at)).reads_to)
    inner_rows second_digits h place e front rest (may, inr f) at =
        rw (f.2, f.4.2) ((over_minutes true f.0 f.3.0 f.3.1 upto over_second_colon _ _ _ may f.4.3
        upto second_stops _ _ f.4.4.0 _ rest place e f.4.4.1 f.4.4.2 at).reads_to)
    inner_rows second_range h (anywhere left) e front rest (may, inl f) at =
        rw (f.2, at.0, at.1)
        ((over_minutes false f.0 f.3.0 f.3.1 upto halts_as _ _ (at_second_digit _ _ may) 1 _ f.4.0 (second_too_great _ _ _ _ f.4)).reads_to)
    inner_rows second_range h (anywhere left) e front rest (may, inr f) at =
        rw (f.2, f.4.2, at.0, at.1)
        ((over_minutes true f.0 f.3.0 f.3.1 upto over_second_colon _ _ _ may f.4.3 upto second_too_great _ _ _ _ f.4.4).reads_to)
    inner_rows fraction_start h place e front rest f at =
        rw f.2 ((over_seconds f.0 f.3.0 f.3.1 before over_mark _ _ _ f.1 f.4).over rest ∙ rw (stops fault (of_clock clock fraction_start) place e rest tt at))
    inner_rows hour_range h place e front rest f at = absurd at
    inner_rows minute_range h place e front rest f at = absurd at
    inner_rows second_range h place e front rest f at = absurd at
    inner_rows l h place e front rest f at = absurd h

  -- ---- the table lines after a complete time

  fraction_bad : (h m s d : ℕ) (more rest : Text) (n : ℕ) → IsTrue (digit d) → digits n more
      → Halts (fraction_stage h m s) (Plain d ∷ more) (Bad ∷ rest) (bad_after fault clock fractions (Bad ∷ rest))
  unfolding fraction_at fraction_stage
  fraction_bad h m s d more rest n is ds =
      let start_goes = goes fault (of_clock clock fraction_start) d (more ++ (Bad ∷ rest)) tt is in
      record { reads_to = rw (start_goes, run_bad (bad_after fault clock fractions) n more rest ds) refl }

  -- The next code unit is `Bad`.
  time_bad : (shape : TimeShape) (text : Text) (t : TimeRecord) (rest : Text) → ClockOf clock shape text t
      → start (text ++ (Bad ∷ rest)) ≡ Err (bad_after fault clock shape (Bad ∷ rest))
  unfolding after_hour_at after_minute_at after_second_at fraction_at fraction_stage look_at
  time_bad hours text t rest x = (over_hour _ _ x.hour).over (Bad ∷ rest)
  time_bad basic_minutes text t rest x = (over_minutes false text t x).over (Bad ∷ rest)
  time_bad colon_minutes text t rest x = (over_minutes true text t x).over (Bad ∷ rest)
  time_bad seconds text t rest x = (over_seconds text t x).over (Bad ∷ rest)
  time_bad fractions text t rest x =
      let part = x.is_fraction in
      let ds = part.some.1 in
      rw (x.is, part.is, ds.2) ((over_seconds x.whole _ x.second upto over_mark _ _ _ (Plain part.mark ∷ []) (part.mark, refl, part.marks)
      upto fraction_bad _ _ _ ds.0 ds.1 rest part.some.0 ds.3 ds.4).reads_to)

  -- The next code unit is a colon or a digit that cannot follow the time.
  minute_mixed : (colons : Bool) (text : Text) (t : TimeRecord) (c : ℕ) (rest : Text) → ClockOf clock (minutes_shape colons) text t
      → IsFalse (seconds_after clock (second_start colons) c) → IsTrue ((colon or digit) c)
      → start (text ++ (Plain c ∷ rest)) ≡ Err (mixed_after fault clock (minutes_shape colons) (Plain c ∷ rest))
  unfolding after_minute_at look_at
  minute_mixed colons text t c rest x out is = (over_minutes colons text t x).over (Plain c ∷ rest) ∙ rw (out, is)

  module _ (brackets : Bool) where
    abbrev follow : Follow
    follow = follow_of brackets clock

    -- The row is returned while the time is read, or the next code unit is read after the time.
    abbrev pub OpenRow : TimeShape → Place → Fault → Text → Text → Type 0
    OpenRow shape place e front rest =
        (start (front ++ rest) ≡ Err (fault (row_of (line_after clock shape) place e)))
        ⊎ (Closed clock shape rest × StopsAfter (follow_of brackets clock) place e rest)

    at_places : (shape : TimeShape) (shown : Shape) (goes_on : Class) (at_other : ℕ → Fault) (place : Place) (e : Fault) (front rest : Text) (t : TimeRecord)
        → ClockOf clock shape front t → Stops (line shown goes_on follow.at_end at_other) place e rest
        → ((c : ℕ) (more : Text) → rest ≡ Plain c ∷ more → IsFalse (goes_on c) → e ≡ at_other c → OpenRow shape (other rest) e front rest)
        → OpenRow shape place e front rest
    at_places shape shown goes_on at_other (end left) e front rest t x at at_letter = inr (rw at.0 (closed_at_end clock shape), at)
    at_places shape shown goes_on at_other (other left) e front rest t x at at_letter = rw at.5 (at_letter at.0 at.1 at.2 at.3 at.4)
    at_places shape shown goes_on at_other (bad left) e front rest t x at at_letter = inl (rw (at.3, at.1, at.2) (time_bad shape front t at.0 x))
    at_places shape shown goes_on at_other (anywhere left) e front rest t x at at_letter = absurd at

    at_mixed : (colons : Bool) (e : Fault) (front rest : Text) (t : TimeRecord) → ClockOf clock (minutes_shape colons) front t → (c : ℕ) (more : Text)
        → rest ≡ Plain c ∷ more → IsFalse (seconds_after clock (second_start colons) c) × IsFalse (follow.letters c) → e ≡ after_minute follow clock c
        → (b : Bool) → (colon or digit) c ≡ b → OpenRow (minutes_shape colons) (other rest) e front rest
    at_mixed colons e front rest t x c more is out same true h = inl (rw (is, same, h) (minute_mixed colons front t c more x out.0 h))
    at_mixed colons e front rest t x c more is out same false h =
        inr (rw is (closed_minutes clock colons (Plain c ∷ more) out.0 h), (c, more, is, out.1, rw h at same, refl))

    pub open_row : (shape : TimeShape) (place : Place) (e : Fault) (front rest : Text) (t : TimeRecord) → ClockOf clock shape front t
        → Stops (line_of brackets (line_after clock shape)) place e rest → OpenRow shape place e front rest
    open_row hours place e front rest t x at = at_places hours (some (ClockOf clock hours)) _ _ place e front rest t x at λ c more is out same.
        let parts = or_parts _ _ out in
        let first = or_parts _ _ parts.0 in
        inr (rw is (first.0, first.1), (c, more, is, parts.1, same, refl))
    open_row basic_minutes place e front rest t x at =
        at_places basic_minutes (some (ClockOf clock basic_minutes)) _ _ place e front rest t x at λ c more is out same.
        at_mixed false e front rest t x c more is (or_parts _ _ out) same ((colon or digit) c) refl
    open_row colon_minutes place e front rest t x at =
        at_places colon_minutes (some (ClockOf clock colon_minutes)) _ _ place e front rest t x at λ c more is out same.
        at_mixed true e front rest t x c more is (or_parts _ _ out) same ((colon or digit) c) refl
    open_row seconds place e front rest t x at = at_places seconds (some (ClockOf clock seconds)) _ _ place e front rest t x at λ c more is out same.
        let parts = or_parts _ _ out in inr (rw is parts.0, (c, more, is, parts.1, same, refl))
    open_row fractions place e front rest t x at = at_places fractions (some (ClockOf clock fractions)) _ _ place e front rest t x at λ c more is out same.
        let parts = or_parts _ _ out in inr (rw is parts.0, (c, more, is, parts.1, same, refl))
