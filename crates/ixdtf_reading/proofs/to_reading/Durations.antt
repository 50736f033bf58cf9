-- A duration is read. Each row of the table lines of a duration is returned.
use Rattle.std.proofs.Common.{◌≡◌, false, ℕ, ◌≤◌, ◌<◌, IsTrue, IsFalse, List, [], ◌∷◌, ◌++◌, Result, Ok, Err, Some, refl, sym, ap, ◌∙◌, subst, inl, inr, arith}
use Rattle.std.proofs.{Common.{append_assoc, append-nil, nat_le}, lemmas.Bool.{or_left, or_right, le-leb, lt-leb, Decides.nat_tests}}
use Rattle.ixdtf_grammar.specs.{declared.{profile.Profile.Profile, records.{Sign.Sign, DurationParseRecord.DurationParseRecord}}, language.Letters.Text}
use Rattle.ixdtf_grammar.specs.language.{Letters.{digit, sign, decimal_mark, time_letter, Letter.{Plain, Bad}}, Digits.decimal, Fractions.SomeDigits}
use Rattle.ixdtf_grammar.specs.language.{Offsets.sign_of, Durations.{Half, Group, Number, IntegerGroup, FractionGroup, Groups, TimeGroups, TimePart}}
use Rattle.ixdtf_grammar.specs.language.Durations.{AtLeastOne, SignedDesignator, designator, in_order, greatest, greatest_value, duration_of, IsDuration}
use Rattle.ixdtf_grammar.specs.{language.{Durations.Half.{date, time}, Readers.Reader.parse_duration}, table.LineNames.DurationLine}
use Rattle.ixdtf_grammar.specs.table.LineNames.DurationLine.{duration_start, after_duration_sign, after_duration_designator, after_date_groups}
use Rattle.ixdtf_grammar.specs.table.LineNames.DurationLine.{after_time_designator, group_digits, group_value_range, unit_order, date_unit_range}
use Rattle.ixdtf_grammar.specs.table.LineNames.DurationLine.{group_fraction_start, group_fraction_digits, after_time_groups, after_fraction_group}
use Rattle.ixdtf_grammar.specs.table.{LineNames.LineName.of_duration, DurationFronts.{Context, half_of, groups_of, IsContext, OutOfOrder, UnitPast}}
use Rattle.ixdtf_grammar.specs.table.{DurationFronts.Context.{in_dates, in_times}, Lines.duration_line, Rows.{Row, Stops, front_of, Place.anywhere}}
use Rattle.ixdtf_reading.specs.reading.{Looks.row_of, Durations.{State, line_of_state, add, integer_group, fraction_group, value_past, unit_past, out_of_order}}
use Rattle.ixdtf_reading.specs.reading.Durations.{in_its_order, add_group, step, run, duration_at, State.{started, signed, between, in_number, at_mark}}
use Rattle.ixdtf_reading.specs.reading.Durations.State.{in_fraction, ended}
use Rattle.ixdtf_reading.proofs.parts.{Looks.{RowsRead, ◌before◌, ◌upto◌, Goes, ReadsAllRows}, DurationRuns.{AllDigits, all_digits, some_all, digits_snoc}}
use Rattle.ixdtf_reading.proofs.parts.DurationRuns.{below_front, Asks, Over, Stays, stays, one_letter, letter_stops, run_stops}

-- ---- code units

designator_no_digit : (half : Half) (c : ℕ) → IsTrue (designator half c) → IsFalse (digit c)
designator_no_digit date c h = grind (arith, h, nat_tests)
designator_no_digit half c h = grind (arith, h, nat_tests)

time_no_digit : (c : ℕ) → IsTrue (time_letter c) → IsFalse (digit c)
time_no_digit c h = grind (arith, h, nat_tests)

mark_no_designator : (c : ℕ) → IsTrue (decimal_mark c) → IsFalse (designator time c)
mark_no_designator c h = grind (arith, h, nat_tests)

between_goes : (profile : Profile) (context : Context) (c : ℕ) → IsTrue (digit c) → Goes (duration_line profile (line_of_state (between context))) c
between_goes profile (in_dates s []) c h = or_left _ _ h
between_goes profile (in_dates s (g ∷ earlier)) c h = or_left _ _ h
between_goes profile (in_times s dates []) c h = h
between_goes profile (in_times s dates (g ∷ earlier)) c h = h

in_time : (context : Context) → half_of context ≡ time → (s : Sign) × (dates times : List Group) × (context ≡ in_times s dates times)
in_time (in_dates s dates) same = absurd (grind (arith, same))
in_time (in_times s dates times) same = (s, dates, times, refl)

-- ---- groups

same_group : {half : Half} {text : Text} {g : Group} (h : IntegerGroup half text g) → integer_group half h.ds h.c ≡ g
same_group h = λ i. record { unit = (sym h.unit) i; value = (sym h.number.1) i; fraction = (sym h.fraction) i }

same_fraction_group : {text : Text} {g : Group} (h : FractionGroup text g) → fraction_group h.ds h.is_fraction.ds h.c ≡ g
same_fraction_group h = λ i. record { unit = (sym h.unit) i; value = (sym h.number.1) i; fraction = (sym (h.fraction ∙ ap Some h.is_fraction.value)) i }

module _ {E : Type 0} (fault : Row → E) (profile : Profile) where
  misplaced : (left : Text) (context : Context) (next : Result State E) (g h : Group) → h ≡ g → IsFalse (in_order profile (groups_of context) g.unit)
      → in_its_order fault profile left context h next ≡ Err (fault (out_of_order profile (half_of context) left))
  misplaced left context next g h is order = rw is (rw order)

  too_great : (left : Text) (context : Context) (g h : Group) → h ≡ g → IsTrue (in_order profile (groups_of context) g.unit) → greatest g.unit < g.value
      → add_group fault profile left context h ≡ Err (fault (unit_past profile left))
  too_great left context g h is order past = rw is (rw (order, lt-leb g.value (greatest g.unit) past))

  -- ---- parts

  over_start : (text : Text) (s : Sign) → SignedDesignator text s → Over fault profile started text (between (in_dates s []))
  unfolding step
  over_start text s (inl (o, is)) =
      let no_sign : IsFalse (sign o.0) = grind (arith, o.2, nat_tests) in
      rw (o.1, is) (one_letter fault profile started o.0 (or_right _ _ o.2) (λ rest. rw no_sign))
  over_start text s (inr h) =
      let first : Over fault profile started (Plain h.0 ∷ []) (signed (sign_of h.0)) = one_letter fault profile started h.0 (or_left _ _ h.3) (λ rest. rw h.3) in
      let second : Over fault profile (signed (sign_of h.0)) (Plain h.4.0 ∷ []) (between (in_dates (sign_of h.0) [])) = one_letter fault profile
      (signed (sign_of h.0)) h.4.0 h.4.2 (λ rest. refl) in
      rw (h.2, h.4.1, h.5) (first before second)

  -- The first digit of a group. The next lemma is for one more digit.
  over_first_digit : (context : Context) (c : ℕ) → IsTrue (digit c) → IsTrue (nat_le (decimal (Plain c ∷ [])) greatest_value)
      → Over fault profile (between context) (Plain c ∷ []) (in_number context (Plain c ∷ []))
  unfolding step
  over_first_digit context c d below = one_letter fault profile (between context) c (between_goes profile context c d) (λ rest. rw (d, below))

  over_digit : (context : Context) (ds : Text) (c : ℕ) → IsTrue (digit c) → IsTrue (nat_le (decimal (ds ++ (Plain c ∷ []))) greatest_value)
      → Over fault profile (in_number context ds) (Plain c ∷ []) (in_number context (ds ++ (Plain c ∷ [])))
  unfolding step
  over_digit context ds c d below = one_letter fault profile (in_number context ds) c (or_left _ _ (or_left _ _ d)) (λ rest. rw (d, below))

  over_digits : (context : Context) (ds more : Text) → AllDigits more → IsTrue (nat_le (decimal (ds ++ more)) greatest_value)
      → Over fault profile (in_number context ds) more (in_number context (ds ++ more))
  over_digits context ds [] h below = rw append-nil (stays fault profile (in_number context ds))
  over_digits context ds (Bad ∷ more) h below = absurd h
  over_digits context ds (Plain c ∷ more) h below =
      let all : IsTrue (nat_le (decimal ((ds ++ (Plain c ∷ [])) ++ more)) greatest_value) = rw append_assoc below in
      over_digit context ds c h.0 (below_front greatest_value _ more all)
      before rw append_assoc at (over_digits context (ds ++ (Plain c ∷ [])) more h.1 all)

  -- One or more digits.
  over_all : (context : Context) (c : ℕ) (rest : Text) → AllDigits (Plain c ∷ rest) → IsTrue (nat_le (decimal (Plain c ∷ rest)) greatest_value)
      → Over fault profile (between context) (Plain c ∷ rest) (in_number context (Plain c ∷ rest))
  over_all context c rest h below =
      over_first_digit context c h.0 (below_front greatest_value (Plain c ∷ []) rest below) before over_digits context (Plain c ∷ []) rest h.1 below

  over_number : (context : Context) (ds : Text) (n : ℕ) → Number ds n → Over fault profile (between context) ds (in_number context ds)
  over_number context ds n (d, is, below) =
      let first = d.1 in
      let fits : IsTrue (nat_le (decimal (Plain first.0 ∷ first.1)) greatest_value) = rw first.2 at (le-leb (decimal ds) greatest_value (rw is at below)) in
      rw first.2 (over_all context first.0 first.1 (first.3, all_digits d.0 first.1 first.4) fits)

  over_integer_group : (context : Context) (text : Text) (g : Group) → IntegerGroup (half_of context) text g
      → IsTrue (in_order profile (groups_of context) g.unit)
      → g.value ≤ greatest g.unit → Over fault profile (between context) text (between (add context g))
  unfolding step
  over_integer_group context text g h order range =
      rw h.is (over_number context h.ds g.value h.number
      before one_letter fault profile (in_number context h.ds) h.c (or_left _ _ (or_right _ _ h.ends))
      (λ rest. rw (designator_no_digit (half_of context) h.c h.ends, h.ends, same_group h, ← h.unit, order, ← h.number.1)
      (rw (le-leb g.value (greatest g.unit) range) refl)))

  over_dates : (s : Sign) (text : Text) (groups : List Group) → Groups profile date text groups
      → Over fault profile (between (in_dates s [])) text (between (in_dates s groups))
  over_dates s text [] h = rw h (stays fault profile (between (in_dates s [])))
  over_dates s text (g ∷ earlier) h = rw h.2 (over_dates s h.0 earlier h.3 before over_integer_group (in_dates s earlier) h.1 g h.4 h.5 h.6)

  over_times : (s : Sign) (dates : List Group) (text : Text) (groups : List Group) → Groups profile time text groups
      → Over fault profile (between (in_times s dates [])) text (between (in_times s dates groups))
  over_times s dates text [] h = rw h (stays fault profile (between (in_times s dates [])))
  over_times s dates text (g ∷ earlier) h = rw h.2 (over_times s dates h.0 earlier h.3 before over_integer_group (in_times s dates earlier) h.1 g h.4 h.5 h.6)

  over_time_designator : (s : Sign) (dates : List Group) (c : ℕ) → IsTrue (time_letter c)
      → Over fault profile (between (in_dates s dates)) (Plain c ∷ []) (between (in_times s dates []))
  unfolding step
  over_time_designator s [] c h = one_letter fault profile (between (in_dates s [])) c (or_right _ _ h) (λ rest. rw (time_no_digit c h))
  over_time_designator s (g ∷ earlier) c h = one_letter fault profile (between (in_dates s (g ∷ earlier))) c (or_right _ _ h) (λ rest. rw (time_no_digit c h))

  over_context : (text : Text) (context : Context) → IsContext profile text context → Over fault profile started text (between context)
  over_context text (in_dates s dates) h = rw h.2 (over_start h.0 s h.3 before over_dates s h.1 dates h.4)
  over_context text (in_times s dates times) h =
      rw h.4 (over_start h.0 s h.5 before over_dates s h.1 dates h.6
      before over_time_designator s dates h.3 h.7 before over_times s dates h.2 times h.8)

  over_mark : (s : Sign) (dates times : List Group) (ds : Text) (c : ℕ) → IsTrue (decimal_mark c)
      → Over fault profile (in_number (in_times s dates times) ds) (Plain c ∷ []) (at_mark s dates times ds)
  unfolding step
  over_mark s dates times ds c h =
      one_letter fault profile (in_number (in_times s dates times) ds) c (or_right _ _ h) (λ rest.
      let no_digit : IsFalse (digit c) = grind (arith, h, nat_tests) in rw (no_digit, mark_no_designator c h))

  over_fraction_digits : (s : Sign) (dates times : List Group) (ds fs more : Text) → AllDigits more
      → Over fault profile (in_fraction s dates times ds fs) more (in_fraction s dates times ds (fs ++ more))
  unfolding step
  over_fraction_digits s dates times ds fs [] h = rw append-nil (stays fault profile (in_fraction s dates times ds fs))
  over_fraction_digits s dates times ds fs (Bad ∷ more) h = absurd h
  over_fraction_digits s dates times ds fs (Plain c ∷ more) h =
      one_letter fault profile (in_fraction s dates times ds fs) c (or_left _ _ h.0) (λ rest. rw h.0)
      before rw append_assoc at (over_fraction_digits s dates times ds (fs ++ (Plain c ∷ [])) more h.1)

  over_fraction : (s : Sign) (dates times : List Group) (ds fs : Text) → SomeDigits fs
      → Over fault profile (at_mark s dates times ds) fs (in_fraction s dates times ds fs)
  unfolding step
  over_fraction s dates times ds fs d =
      let first = d.1 in
      let start : Over fault profile (at_mark s dates times ds) (Plain first.0 ∷ []) (in_fraction s dates times ds (Plain first.0 ∷ [])) =
      one_letter fault profile
      (at_mark s dates times ds) first.0 first.3 (λ rest. refl) in
      rw first.2 (start before over_fraction_digits s dates times ds (Plain first.0 ∷ []) first.1 (all_digits d.0 first.1 first.4))

  over_fraction_group : (s : Sign) (dates times : List Group) (text : Text) (g : Group) → FractionGroup text g → IsTrue (in_order profile times g.unit)
      → Over fault profile (between (in_times s dates times)) text (ended s dates times g)
  unfolding step
  over_fraction_group s dates times text g h order =
      let f = h.is_fraction in
      rw (h.is, f.is) (over_number (in_times s dates times) h.ds g.value h.number
      before over_mark s dates times h.ds f.mark f.marks
      before over_fraction s dates times h.ds f.ds f.some
      before one_letter fault profile (in_fraction s dates times h.ds f.ds) h.c (or_right _ _ h.ends)
      (λ rest. rw (designator_no_digit time h.c h.ends, same_fraction_group h, ← h.unit, order) refl))

  -- ---- a prefix of a table line leads to a state with this line

  abbrev Reaches : DurationLine → Text → Type 0
  Reaches name front = (s : State) × Over fault profile started front s × (line_of_state s ≡ name)

  reached : (name : DurationLine) (front : Text) → Asks (duration_line profile name) → front_of (duration_line profile name) front → Reaches name front
  unfolding step
  reached duration_start front asks f = (started, rw f (stays fault profile started), refl)
  reached after_duration_sign front asks f = (signed (sign_of f.0), rw f.1 (one_letter fault profile started f.0 (or_left _ _ f.2) (λ rest. rw f.2)), refl)
  reached after_duration_designator front asks f = (between (in_dates f.0 []), over_start front f.0 f.1, refl)
  reached after_date_groups front asks f = (between (in_dates f.0 (f.1 ∷ f.2)), over_context front (in_dates f.0 (f.1 ∷ f.2)) f.3, refl)
  reached after_time_designator front asks f = (between (in_times f.0 f.1 []), over_context front (in_times f.0 f.1 []) f.2, refl)
  reached (group_digits half) front asks f = (in_number f.0 f.2, rw f.4 (over_context f.1 f.0 f.5 before over_number f.0 f.2 f.6.0 f.6.1), ap group_digits f.3)
  reached group_fraction_start front asks f =
      let c = in_time f.0 f.3 in
      let g = f.6 in (
        at_mark c.0 c.1 c.2 g.0,
        rw (f.4, g.2, g.4.1) (over_context f.1 (in_times c.0 c.1 c.2) (rw c.3 at f.5) before over_number (in_times c.0 c.1 c.2) g.0 g.3.0 g.3.1
            before over_mark c.0 c.1 c.2 g.0 g.4.0 g.4.2),
        refl,
      )
  reached group_fraction_digits front asks f =
      let c = in_time f.0 f.3 in
      let g = f.6 in (
        in_fraction c.0 c.1 c.2 g.0 g.4.1,
        rw (f.4, g.2, g.4.2, g.4.3.1) (over_context f.1 (in_times c.0 c.1 c.2) (rw c.3 at f.5) before over_number (in_times c.0 c.1 c.2) g.0 g.3.0 g.3.1
            before over_mark c.0 c.1 c.2 g.0 g.4.3.0 g.4.3.2 before over_fraction c.0 c.1 c.2 g.0 g.4.1 g.4.4),
        refl,
      )
  reached after_time_groups front asks f = (between (in_times f.0 f.1 (f.2 ∷ f.3)), over_context front (in_times f.0 f.1 (f.2 ∷ f.3)) f.4, refl)
  reached after_fraction_group front asks f =
      let c = in_time f.0 f.3 in (
        ended c.0 c.1 c.2 f.6.0,
        rw f.4 (over_context f.1 (in_times c.0 c.1 c.2) (rw c.3 at f.5) before over_fraction_group c.0 c.1 c.2 f.2 f.6.0 f.6.1 (rw c.3 at f.6.2)),
        refl,
      )
  reached name front asks f = absurd asks

  state_row : (name : DurationLine) → Asks (duration_line profile name) → RowsRead fault false (duration_at fault profile) (of_duration profile name)
  state_row name asks place e front rest f at =
      let r = reached name front asks f in
      r.1.over rest ∙ run_stops fault profile r.0 place e rest (subst (λ n. Stops (duration_line profile n) place e rest) (sym r.2) at)
      ∙ ap (λ n. Err (fault (row_of (of_duration profile n) place e))) r.2

  -- ---- the whole lines: their error does not depend on what follows

  value_stops : (context : Context) (ds : Text) (c : ℕ) (rest : Text) → AllDigits (ds ++ (Plain c ∷ [])) → decimal ds ≤ greatest_value
      → greatest_value < decimal (ds ++ (Plain c ∷ []))
      → Stays fault profile (between context) (ds ++ (Plain c ∷ [])) rest (value_past profile (half_of context) rest)
  unfolding step
  value_stops context [] c rest all below past =
      letter_stops fault profile (between context) c (between_goes profile context c all.0) (rw (all.0, lt-leb _ greatest_value past))
  value_stops context (Plain d ∷ ds) c rest all below past =
      let parts = digits_snoc (Plain d ∷ ds) c all in
      over_all context d ds parts.0 (le-leb _ greatest_value below) upto letter_stops fault profile (in_number context (Plain d ∷ ds)) c
      (or_left _ _ (or_left _ _ parts.1)) (rw (parts.1, lt-leb _ greatest_value past))
  value_stops context (Bad ∷ ds) c rest all below past = absurd all

  integer_stops : (context : Context) (text rest : Text) (g : Group) (row : Row) → IntegerGroup (half_of context) text g
      → ((h : Group) → h ≡ g → add_group fault profile rest context h ≡ Err (fault row)) → Stays fault profile (between context) text rest row
  unfolding step
  integer_stops context text rest g row h refused =
      rw h.is (over_number context h.ds g.value h.number
      upto letter_stops fault profile (in_number context h.ds) h.c (or_left _ _ (or_right _ _ h.ends))
      (rw (designator_no_digit (half_of context) h.c h.ends, h.ends) (refused _ (same_group h))))

  fraction_stops : (s : Sign) (dates times : List Group) (text rest : Text) (g : Group) → FractionGroup text g → IsFalse (in_order profile times g.unit)
      → Stays fault profile (between (in_times s dates times)) text rest (out_of_order profile time rest)
  unfolding step
  fraction_stops s dates times text rest g h order =
      let f = h.is_fraction in
      rw (h.is, f.is) (over_number (in_times s dates times) h.ds g.value h.number
      upto over_mark s dates times h.ds f.mark f.marks
      upto over_fraction s dates times h.ds f.ds f.some
      upto letter_stops fault profile (in_fraction s dates times h.ds f.ds) h.c (or_right _ _ h.ends)
      (rw (designator_no_digit time h.c h.ends) (misplaced rest (in_times s dates times) _ g _ (same_fraction_group h) order)))

  order_stops : (half : Half) (context : Context) (text rest : Text) → half_of context ≡ half → OutOfOrder profile half context text
      → Stays fault profile (between context) text rest (out_of_order profile half rest)
  order_stops date (in_dates s dates) text rest same f =
      integer_stops (in_dates s dates) text rest f.0 _ f.1 (λ h is. misplaced rest (in_dates s dates) _ f.0 h is f.2)
  order_stops time (in_times s dates times) text rest same (g, inl x, order) =
      integer_stops (in_times s dates times) text rest g _ x (λ h is. misplaced rest (in_times s dates times) _ g h is order)
  order_stops time (in_times s dates times) text rest same (g, inr x, order) = fraction_stops s dates times text rest g x order
  order_stops half context text rest same f = absurd (grind (arith, same))

  unit_stops : (context : Context) (text rest : Text) → half_of context ≡ date → UnitPast profile context text
      → Stays fault profile (between context) text rest (unit_past profile rest)
  unit_stops (in_dates s dates) text rest same f = integer_stops (in_dates s dates) text rest f.0 _ f.1 (λ h is. too_great rest (in_dates s dates) f.0 h is f.2 f.3)
  unit_stops (in_times s dates times) text rest same f = absurd (grind (arith, same))

  line_rows : (name : DurationLine) → RowsRead fault false (duration_at fault profile) (of_duration profile name)
  line_rows (group_value_range half) (anywhere left) e front rest f at =
      let past = f.6 in
      rw (f.4, at.0, at.1, ← f.3, past.2) ((over_context f.1 f.0 f.5 upto value_stops f.0 past.0 past.1 rest (rw past.2 at (some_all f.2 past.3)) past.4
      (rw past.2 at past.5)).reads_to)
  line_rows (unit_order half) (anywhere left) e front rest f at = rw (f.4, at.0, at.1) ((over_context f.1 f.0 f.5 upto order_stops half f.0 f.2 rest f.3 f.6).reads_to)
  line_rows date_unit_range (anywhere left) e front rest f at = rw (f.4, at.0, at.1) ((over_context f.1 f.0 f.5 upto unit_stops f.0 f.2 rest f.3 f.6).reads_to)
  line_rows (group_value_range half) place e front rest f at = absurd at
  line_rows (unit_order half) place e front rest f at = absurd at
  line_rows date_unit_range place e front rest f at = absurd at
  line_rows name place e front rest f at = state_row name tt place e front rest f at

  -- Each row of the table lines of the reader is returned.
  pub duration_rows : ReadsAllRows fault (parse_duration profile) (duration_at fault profile)
  duration_rows (of_duration other l) pairs place e prior front rest b f at =
      let here : front_of (duration_line profile l) front = rw b.0.1 at f in
      let there : Stops (duration_line profile l) place e rest = rw b.0.1 at at in
      rw (b.0.0, b.0.1) (line_rows l place e front rest here there)
  duration_rows name pairs place e prior front rest b f at = absurd b.0

  -- ---- durations

  takes_to : (s : State) (text : Text) (d : DurationParseRecord) → Over fault profile started text s → run fault profile s [] ≡ Ok (d, [])
      → duration_at fault profile text ≡ Ok (d, [])
  takes_to s text d over is = rw append-nil at (over.over []) ∙ is

  takes_dates : (s : Sign) (dates : List Group) (text : Text) → IsContext profile text (in_dates s dates) → AtLeastOne dates []
      → duration_at fault profile text ≡ Ok (duration_of s dates [], [])
  unfolding run
  takes_dates s [] text b least = absurd least
  takes_dates s (g ∷ earlier) text b least = takes_to (between (in_dates s (g ∷ earlier))) text _ (over_context text (in_dates s (g ∷ earlier)) b) refl

  takes_times : (s : Sign) (dates times : List Group) (prior text : Text) → IsContext profile prior (in_times s dates []) → TimeGroups profile text times
      → duration_at fault profile (prior ++ text) ≡ Ok (duration_of s dates times, [])
  unfolding run
  takes_times s dates [] prior text b h = absurd h
  takes_times s dates (g ∷ earlier) prior text b (inl h) =
      takes_to (between (in_times s dates (g ∷ earlier))) (prior ++ text) _
      (over_context prior (in_times s dates []) b before over_times s dates text (g ∷ earlier) h) refl
  takes_times s dates (g ∷ earlier) prior text b (inr h) =
      rw h.2 (takes_to (ended s dates earlier g) (prior ++ (h.0 ++ h.1)) _
      (over_context prior (in_times s dates []) b before over_times s dates h.0 earlier h.3 before over_fraction_group s dates earlier h.1 g h.4 h.5) refl)

  pub duration_takes : (text : Text) (d : DurationParseRecord) → IsDuration profile text d → duration_at fault profile text ≡ Ok (d, [])
  duration_takes text d h = rw (h.is, h.value) (by_times h.time_text h.times h.are_times h.least)
    where
      by_times : (time_text : Text) (times : List Group) → TimePart profile time_text times → AtLeastOne h.dates times
          → duration_at fault profile (h.start ++ (h.date_text ++ time_text)) ≡ Ok (duration_of h.sign h.dates times, [])
      by_times time_text times (inl (none, no_groups)) least =
          rw (none, append-nil, no_groups) (takes_dates h.sign h.dates (h.start ++ h.date_text) (h.start, h.date_text, refl, h.is_start, h.are_dates)
          (rw no_groups at least))
      by_times time_text times (inr (c, groups, is, t, there)) least =
          let joined : (h.start ++ (h.date_text ++ (Plain c ∷ []))) ++ groups ≡ h.start ++ (h.date_text ++ (Plain c ∷ groups)) = simp append_assoc in
          rw is (rw joined at (takes_times h.sign h.dates times (h.start ++ (h.date_text ++ (Plain c ∷ []))) groups
          (h.start, h.date_text, [], c, refl, h.is_start, h.are_dates, t, refl) there))
