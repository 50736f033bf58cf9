-- Reading a duration returns a duration, or the fault of a row that fits.
use Rattle.std.proofs.Common.{◌≡◌, ℕ, ◌≤◌, ◌<◌, ◌||◌, Bool, true, false, IsTrue, IsFalse, List, [], ◌∷◌, ◌++◌, Result, Ok, Err, refl, inl, inr, arith}
use Rattle.std.proofs.{Common.{append_assoc, append-nil, nat_le, if◌then◌else◌}, lemmas.Bool.{or_from, both_ways, leb-true, leb-false}}
use Rattle.ixdtf_grammar.specs.declared.{profile.Profile.Profile, records.{DurationParseRecord.DurationParseRecord, Sign.Sign}}
use Rattle.ixdtf_grammar.specs.language.{Letters.{Text, digit, sign, decimal_mark, Letter.{Plain, Bad}}, Digits.decimal}
use Rattle.ixdtf_grammar.specs.language.{Fractions.{SomeDigits, IsFraction, fraction_of}, Offsets.sign_of, Durations.{Half, Group, IntegerGroup}}
use Rattle.ixdtf_grammar.specs.language.Durations.{FractionGroup, AtLeastOne, unit_of, designator, in_order, greatest, greatest_value, IsDuration}
use Rattle.ixdtf_grammar.specs.language.Durations.{SignedDesignator, Groups, TimePart, duration_of, Half.{date, time}}
use Rattle.ixdtf_grammar.specs.{language.Readers.Reader.parse_duration, table.{Faults.{Fault, Fault.NonAsciiCodePoint}, LineNames.LineName}}
use Rattle.ixdtf_grammar.specs.table.{LineNames.LineName.of_duration, DurationFronts.{Context, half_of, groups_of, IsContext, AnyGroup, group_mark}}
use Rattle.ixdtf_grammar.specs.table.{DurationFronts.Context.{in_dates, in_times}, Lines.{Line, duration_line, line_of, Line.line, Ending.{ok, error}}}
use Rattle.ixdtf_grammar.specs.table.{Before.InDuration, Rows.{Row, Stops, Fits, front_of, Place.{end, other, bad}}}
use Rattle.ixdtf_reading.specs.reading.{Looks.{Read, ◌>>=◌, row_of, look_of}, Durations.{State, line_of_state, add, integer_group, fraction_group, unit_past}}
use Rattle.ixdtf_reading.specs.reading.Durations.{grow, add_in_range, in_its_order, to_times, to_fraction, step, finished, at_end, run, duration_at}
use Rattle.ixdtf_reading.specs.reading.Durations.State.{started, signed, between, in_number, at_mark, in_fraction, ended}
use Rattle.ixdtf_reading.proofs.parts.{Looks.{IsRowFault, OnRead, read_if, Goes}, DurationRuns.{Asks, state_asks, one_digit, digits_longer}}

-- ---- what a state says about the text that was read

-- The digits of a group, whose number is in its range.
abbrev InRange : Text → Type 0
InRange ds = SomeDigits ds × (decimal ds ≤ greatest_value)

abbrev Here : Profile → State → Text → Type 0
Here profile started front = front ≡ []
Here profile (signed s) front = (c : ℕ) × (front ≡ Plain c ∷ []) × IsTrue (sign c) × (s ≡ sign_of c)
Here profile (between context) front = IsContext profile front context
Here profile (in_number context ds) front = (prior : Text) × (front ≡ prior ++ ds) × IsContext profile prior context × InRange ds
Here profile (at_mark s dates times ds) front =
    (prior : Text) × (mark : ℕ) × (front ≡ prior ++ (ds ++ (Plain mark ∷ []))) × IsContext profile prior (in_times s dates times) × InRange ds
    × IsTrue (decimal_mark mark)
Here profile (in_fraction s dates times ds fs) front =
    (prior : Text) × (mark : ℕ) × (front ≡ prior ++ (ds ++ (Plain mark ∷ fs))) × IsContext profile prior (in_times s dates times) × InRange ds
    × IsTrue (decimal_mark mark) × SomeDigits fs
Here profile (ended s dates times g) front =
    (prior last : Text) × (front ≡ prior ++ last) × IsContext profile prior (in_times s dates times) × FractionGroup last g
    × IsTrue (in_order profile times g.unit)

-- The row fits after this prefix, and before this text.
abbrev FitsAnywhere : Profile → Text → Text → Row → Type 0
FitsAnywhere profile left front row =
    InDuration profile row.name [] × front_of (line_of false row.name) front × Stops (line_of false row.name) row.place row.error left

-- ---- code units and numbers

or_other : (x y : Bool) → IsTrue (x || y) → IsFalse x → IsTrue y
or_other x y h misses = grind (arith, h, misses)

time_greatest : (c : ℕ) → greatest (unit_of time c) ≡ greatest_value
time_greatest c = grind arith

any_integer : (half : Half) (text : Text) (g : Group) → IntegerGroup half text g → AnyGroup half text g
any_integer date text g h = h
any_integer time text g h = inl h

module _ {E : Type 0} (fault : Row → E) (profile : Profile) where
  -- What is true for the state after a code unit, or for the row of its fault.
  abbrev OnState : Result State E → (State → Type 0) → (Row → Type 0) → Type 0
  OnState (Ok to) found stopped = found to
  OnState (Err e) found stopped = IsRowFault fault e stopped

  state_if : (b : Bool) (x y : Result State E) (found : State → Type 0) (stopped : Row → Type 0) → (IsTrue b → OnState x found stopped)
      → (IsFalse b → OnState y found stopped) → OnState (if b then x else y) found stopped
  state_if true x y found stopped yes_case no_case = yes_case refl
  state_if false x y found stopped yes_case no_case = no_case refl

  -- ---- one more code unit

  -- The state describes the prefix, or a row fits after the prefix and before this text.
  abbrev Kept : Text → Text → Result State E → Type 0
  Kept left front r = OnState r (λ to. Here profile to front) (FitsAnywhere profile left front)

  added_after : (context : Context) (prior last : Text) (g : Group) → IsContext profile prior context → IntegerGroup (half_of context) last g
      → IsTrue (in_order profile (groups_of context) g.unit) → g.value ≤ greatest g.unit → IsContext profile (prior ++ last) (add context g)
  added_after (in_dates s dates) prior last g b h order range = (b.0, b.1 ++ last, rw b.2 (simp append_assoc), b.3, (b.1, last, refl, b.4, h, order, range))
  added_after (in_times s dates times) prior last g b h order range =
      (b.0, b.1, b.2 ++ last, b.3, rw b.4 (simp append_assoc), b.5, b.6, b.7, (b.2, last, refl, b.8, h, order, range))

  after_between : (context : Context) (c : ℕ) (front : Text) → IsContext profile front context
      → Goes (duration_line profile (line_of_state (between context))) c
      → IsFalse (digit c) → Here profile (to_times context) (front ++ (Plain c ∷ []))
  after_between (in_dates s []) c front b g misses = (b.0, b.1, [], c, rw b.2 (simp append_assoc), b.3, b.4, or_other _ _ g misses, refl)
  after_between (in_dates s (h ∷ earlier)) c front b g misses = (b.0, b.1, [], c, rw b.2 (simp append_assoc), b.3, b.4, or_other _ _ g misses, refl)
  after_between (in_times s dates []) c front b g misses = absurd (both_ways _ misses g)
  after_between (in_times s dates (h ∷ earlier)) c front b g misses = absurd (both_ways _ misses g)

  -- A number that is too great for its unit is that of a date group.
  unit_kept : (left : Text) (context : Context) (prior last : Text) (g : Group) (c : ℕ) → IsContext profile prior context → IntegerGroup (half_of context) last g
      → g.unit ≡ unit_of (half_of context) c → g.value ≤ greatest_value → IsTrue (in_order profile (groups_of context) g.unit) → greatest g.unit < g.value
      → FitsAnywhere profile left (prior ++ last) (unit_past profile left)
  unit_kept left (in_dates s dates) prior last g c b h unit below order past =
      ((refl, refl), (in_dates s dates, prior, last, refl, refl, b, (g, h, order, past)), (refl, refl))
  unit_kept left (in_times s dates times) prior last g c b h unit below order past =
      let none : greatest_value < g.value = rw (unit, time_greatest c) at past in absurd (omega arith)

  to_mark : (context : Context) (prior ds : Text) (c : ℕ) → IsContext profile prior context → InRange ds → IsTrue (group_mark (half_of context) c)
      → Here profile (to_fraction context ds) (prior ++ (ds ++ (Plain c ∷ [])))
  to_mark (in_dates s dates) prior ds c b in_range mark = absurd (both_ways _ refl mark)
  to_mark (in_times s dates times) prior ds c b in_range mark = (prior, c, refl, b, in_range, mark)

  module _ (left : Text) (context : Context) (prior : Text) (b : IsContext profile prior context) where
    grow_kept : (ds : Text) (c : ℕ) → decimal ds ≤ greatest_value → SomeDigits (ds ++ (Plain c ∷ []))
        → Kept left (prior ++ (ds ++ (Plain c ∷ []))) (grow fault profile left context (ds ++ (Plain c ∷ [])))
    grow_kept ds c below all = state_if (nat_le (decimal (ds ++ (Plain c ∷ []))) greatest_value) _ _ _ _
        (λ fits. (prior, refl, b, (all, leb-true _ _ fits)))
        (λ past. (_, refl, ((refl, refl), (context, prior, ds ++ (Plain c ∷ []), refl, refl, b, (ds, c, refl, all, below, leb-false _ _ past)), (refl, refl))))

    range_kept : (last : Text) (g : Group) (c : ℕ) → IntegerGroup (half_of context) last g → g.unit ≡ unit_of (half_of context) c → g.value ≤ greatest_value
        → IsTrue (in_order profile (groups_of context) g.unit) → Kept left (prior ++ last) (add_in_range fault profile left context g)
    range_kept last g c h unit below order = state_if (nat_le g.value (greatest g.unit)) _ _ _ _
        (λ range. added_after context prior last g b h order (leb-true _ _ range))
        (λ past. (unit_past profile left, refl, unit_kept left context prior last g c b h unit below order (leb-false _ _ past)))

    order_kept : (last : Text) (g : Group) (next : Result State E) → AnyGroup (half_of context) last g
        → (IsTrue (in_order profile (groups_of context) g.unit) → Kept left (prior ++ last) next)
        → Kept left (prior ++ last) (in_its_order fault profile left context g next)
    order_kept last g next h go = state_if (in_order profile (groups_of context) g.unit) _ _ _ _
        go
        (λ order. (_, refl, ((refl, refl), (context, prior, last, refl, refl, b, (g, h, order)), (refl, refl))))

    -- The letter of a unit after the digits of a group.
    group_kept : (ds : Text) (c : ℕ) → InRange ds → IsTrue (designator (half_of context) c)
        → Kept left (prior ++ (ds ++ (Plain c ∷ []))) (in_its_order fault profile left context (integer_group (half_of context) ds c)
        (add_in_range fault profile left context (integer_group (half_of context) ds c)))
    group_kept ds c in_range d =
        let g = integer_group (half_of context) ds c in
        let integer : IntegerGroup (half_of context) (ds ++ (Plain c ∷ [])) (integer_group (half_of context) ds c) =
        record { ds = ds; c = c; is = refl; number = (in_range.0, refl, in_range.1); ends = d; unit = refl; fraction = refl } in
        order_kept (ds ++ (Plain c ∷ [])) g _ (any_integer (half_of context) _ _ integer) (range_kept (ds ++ (Plain c ∷ [])) g c integer refl in_range.1)

  kept : (left : Text) (s : State) (c : ℕ) (front : Text) → Here profile s front → Goes (duration_line profile (line_of_state s)) c
      → Kept left (front ++ (Plain c ∷ [])) (step fault profile left s c)
  unfolding step
  kept left started c front h g = state_if (sign c) _ _ _ _
      (λ is. (c, rw h, is, refl))
      (λ misses. (Plain c ∷ [], [], rw h, inl ((c, refl, or_other _ _ g misses), refl), refl))
  kept left (signed s) c front h g = (Plain h.0 ∷ (Plain c ∷ []), [], rw h.1, inr (h.0, Plain c ∷ [], refl, h.2, (c, refl, g), h.3), refl)
  kept left (between context) c front h g = state_if (digit c) _ _ _ _
      (λ d. grow_kept left context front h [] c (omega arith) (one_digit c d))
      (after_between context c front h g)
  kept left (in_number context ds) c front h g =
      let is : front ++ (Plain c ∷ []) ≡ h.0 ++ (ds ++ (Plain c ∷ [])) = rw h.1 (simp append_assoc) in
      rw is (state_if (digit c) _ _ _ _
      (λ d. grow_kept left context h.0 h.2 ds c h.3.1 (digits_longer ds c h.3.0 d))
      (λ no_digit. state_if (designator (half_of context) c) _ _ _ _
      (group_kept left context h.0 h.2 ds c h.3)
      (λ no_designator. to_mark context h.0 ds c h.2 h.3 (or_other _ _ g (or_from _ _ no_digit no_designator)))))
  kept left (at_mark s dates times ds) c front h g = (h.0, h.1, rw h.2 (simp append_assoc), h.3, h.4, h.5, one_digit c g)
  kept left (in_fraction s dates times ds fs) c front h g =
      let is : front ++ (Plain c ∷ []) ≡ h.0 ++ (ds ++ ((Plain h.1 ∷ fs) ++ (Plain c ∷ []))) = rw h.2 (simp append_assoc) in
      rw is (state_if (digit c) _ _ _ _
      (λ d. (h.0, h.1, refl, h.3, h.4, h.5, digits_longer fs c h.6 d))
      (λ misses. let part : IsFraction (Plain h.1 ∷ fs) (fraction_of fs) = record { mark = h.1; ds = fs; is = refl; marks = h.5; some = h.6; value = refl } in
      let last : FractionGroup (ds ++ ((Plain h.1 ∷ fs) ++ (Plain c ∷ []))) (fraction_group ds fs c) = record {
        ds = ds;
        fs = Plain h.1 ∷ fs;
        c = c;
        parts = fraction_of fs;
        is = refl;
        number = (h.4.0, refl, h.4.1);
        is_fraction = part;
        ends = or_other _ _ g misses;
        unit = refl;
        fraction = refl;
      } in
      order_kept left (in_times s dates times) h.0 h.3 _ (fraction_group ds fs c) _ (inr last) (λ order. (h.0, _, refl, h.3, last, order))))
  kept left (ended s dates times g) c front h goes = absurd (both_ways _ refl goes)

-- ---- a state describes the prefix of its line, and a duration if the text can end

shown : (profile : Profile) (s : State) (front : Text) → Here profile s front → front_of (duration_line profile (line_of_state s)) front
shown profile started front h = h
shown profile (signed s) front h = (h.0, h.1, h.2)
shown profile (between (in_dates s [])) front h = (s, rw (h.2, h.4, append-nil) h.3)
shown profile (between (in_dates s (g ∷ earlier))) front h = (s, g, earlier, h)
shown profile (between (in_times s dates [])) front h = (s, dates, h)
shown profile (between (in_times s dates (g ∷ earlier))) front h = (s, dates, g, earlier, h)
shown profile (in_number context ds) front h = (context, h.0, ds, refl, h.1, h.2, (decimal ds, (h.3.0, refl, h.3.1)))
shown profile (at_mark s dates times ds) front h =
    (in_times s dates times, h.0, _, refl, h.2, h.3, (ds, _, refl, (decimal ds, (h.4.0, refl, h.4.1)), (h.1, refl, h.5)))
shown profile (in_fraction s dates times ds fs) front h = (
  in_times s dates times,
  h.0,
  _,
  refl,
  h.2,
  h.3,
  (ds, Plain h.1 ∷ fs, refl, (decimal ds, (h.4.0, refl, h.4.1)), (Plain h.1 ∷ [], fs, refl, (h.1, refl, h.5), h.6)),
)
shown profile (ended s dates times g) front h = (in_times s dates times, h.0, h.1, refl, h.2, h.3, (g, h.4, h.5))

abbrev MayEnd : Line → Type 0
MayEnd (line front goes_on ok at_other) = Unit {0}
MayEnd l = ⊥

least_time : (dates : List Group) (g : Group) (times : List Group) → AtLeastOne dates (g ∷ times)
least_time [] g times = tt
least_time (d ∷ dates) g times = tt

-- A duration from its groups.
of_groups : {profile : Profile} {text : Text} (start date_text time_text : Text) (s : Sign) (dates times : List Group) → text ≡ start ++ (date_text ++ time_text)
    → SignedDesignator start s → Groups profile date date_text dates → TimePart profile time_text times → AtLeastOne dates times
    → IsDuration profile text (duration_of s dates times)
of_groups start date_text time_text s dates times is is_start are_dates are_times least = record {
  start = start;
  date_text = date_text;
  time_text = time_text;
  sign = s;
  dates = dates;
  times = times;
  is = is;
  is_start = is_start;
  are_dates = are_dates;
  are_times = are_times;
  least = least;
  value = refl;
}

is_duration : (profile : Profile) (s : State) (front : Text) → Here profile s front → MayEnd (duration_line profile (line_of_state s))
    → IsDuration profile front (finished s)
is_duration profile (between (in_dates s (g ∷ earlier))) front h ends =
    of_groups h.0 h.1 [] s (g ∷ earlier) [] (rw (append-nil, h.2)) h.3 h.4 (inl (refl, refl)) tt
is_duration profile (between (in_times s dates (g ∷ earlier))) front h ends =
    of_groups h.0 h.1 (Plain h.3 ∷ h.2) s dates (g ∷ earlier) h.4 h.5 h.6 (inr (h.3, h.2, refl, h.7, inl h.8)) (least_time dates g earlier)
is_duration profile (ended s dates times g) front h ends =
    let b = h.3 in
    of_groups b.0 b.1 (Plain b.3 ∷ (b.2 ++ h.1)) s dates (g ∷ times) (rw (h.2, b.4) (simp append_assoc)) b.5 b.6
    (inr (b.3, b.2 ++ h.1, refl, b.7, inr (b.2, h.1, refl, b.8, h.4, h.5))) (least_time dates g times)
is_duration profile s front h ends = absurd ends

-- ---- what reading returns

module _ {E : Type 0} (fault : Row → E) (profile : Profile) where
  bad_read : (name : LineName) (l : Line) (rest : Text) (stopped : Row → Type 0) → Asks l
      → (Stops l (bad (Bad ∷ rest)) NonAsciiCodePoint (Bad ∷ rest) → stopped (row_of name (bad (Bad ∷ rest)) NonAsciiCodePoint))
      → IsRowFault fault ((look_of fault name l).at_bad (Bad ∷ rest)) stopped
  bad_read name (line front goes_on ends at_other) rest stopped asks at = (row_of name (bad (Bad ∷ rest)) NonAsciiCodePoint, refl, at (rest, refl, refl, refl))
  bad_read name l rest stopped asks at = absurd asks

  end_read : (name : LineName) (l : Line) (d : DurationParseRecord) (found : DurationParseRecord → Type 0) (stopped : Row → Type 0) → Asks l
      → (MayEnd l → found d) → ((e : Fault) → Stops l (end []) e [] → stopped (row_of name (end []) e))
      → OnRead fault (at_end ((look_of fault name l).at_end []) d) (λ x left. (left ≡ []) × found x) stopped
  end_read name (line front goes_on ok at_other) d found stopped asks good at = (refl, good tt)
  end_read name (line front goes_on (error e) at_other) d found stopped asks good at = (row_of name (end []) e, refl, at e (refl, refl, refl))
  end_read name l d found stopped asks good at = absurd asks

  letter_read : {A : Type 0} (name : LineName) (l : Line) (c : ℕ) (rest : Text) (x : Read E A) (found : A → Text → Type 0) (stopped : Row → Type 0) → Asks l
      → (Goes l c → OnRead fault x found stopped) → ((e : Fault) → Stops l (other (Plain c ∷ rest)) e (Plain c ∷ rest) → stopped (row_of name (other (Plain c ∷ rest)) e))
      → OnRead fault (if (look_of fault name l).goes_on c then x else Err ((look_of fault name l).at_other c (Plain c ∷ rest))) found stopped
  letter_read name (line front goes_on ends at_other) c rest x found stopped asks good at = read_if fault (goes_on c) x _ found stopped
      good
      (λ h. (row_of name (other (Plain c ∷ rest)) (at_other c), refl, at (at_other c) (c, rest, refl, h, refl, refl)))
  letter_read name l c rest x found stopped asks good at = absurd asks

  then_state : {A : Type 0} (r : Result State E) (go : State → Read E A) (to_found : State → Type 0) (at_row : Row → Type 0) (found : A → Text → Type 0)
      (stopped : Row → Type 0) → OnState fault profile r to_found at_row → ((to : State) → to_found to → OnRead fault (go to) found stopped)
      → ((row : Row) → at_row row → stopped row) → OnRead fault (r >>= go) found stopped
  then_state (Ok to) go to_found at_row found stopped h next lifts = next to h
  then_state (Err e) go to_found at_row found stopped h next lifts = (h.0, h.1, lifts h.0 h.2)

  -- A prefix of the table line of the state, and the condition of its row.
  abbrev FitsThere : Text → Row → Type 0
  FitsThere text row = Fits (parse_duration profile) row [] text

  run_read : (s : State) (front rest text : Text) → Here profile s front → text ≡ front ++ rest
      → OnRead fault (run fault profile s rest) (λ d left. (left ≡ []) × IsDuration profile text d) (FitsThere text)
  unfolding run
  run_read s front [] text h is =
      end_read (of_duration profile (line_of_state s)) (duration_line profile (line_of_state s)) (finished s) _ _ (state_asks profile s)
      (λ ends. rw (is, append-nil) (is_duration profile s front h ends))
      (λ e at. ([], text, refl, ((refl, refl), refl), (front, [], is, shown profile s front h, at)))
  run_read s front (Bad ∷ rest) text h is =
      bad_read (of_duration profile (line_of_state s)) (duration_line profile (line_of_state s)) rest _ (state_asks profile s)
      (λ at. ([], text, refl, ((refl, refl), refl), (front, Bad ∷ rest, is, shown profile s front h, at)))
  run_read s front (Plain c ∷ rest) text h is =
      letter_read (of_duration profile (line_of_state s)) (duration_line profile (line_of_state s)) c rest _ _ _ (state_asks profile s)
      (λ g. then_state (step fault profile rest s c) _ _ _ _ _ (kept fault profile rest s c front h g)
      (λ to there. run_read to (front ++ (Plain c ∷ [])) rest text there (rw append_assoc is))
      (λ row w. ([], text, refl, (w.0, refl), (front ++ (Plain c ∷ []), rest, rw append_assoc is, w.1, w.2))))
      (λ e at. ([], text, refl, ((refl, refl), refl), (front, Plain c ∷ rest, is, shown profile s front h, at)))

  pub duration_read : (text : Text) → OnRead fault (duration_at fault profile text) (λ d rest. (rest ≡ []) × IsDuration profile text d)
      (λ row. Fits (parse_duration profile) row [] text)
  duration_read text = run_read started [] text text refl refl
