-- The code units of a key and of a value, consumed one by one.
use Rattle.ixdtf_grammar.specs.declared.reason.Reason.{Reason}
use Rattle.std.proofs.Common.{◌≡◌, ℕ, true, false, List, [], ◌∷◌, ◌++◌, map, drop, Option, Some, None, Ok, Err, refl, sym, ap, subst, ◌∙◌}
use Rattle.std.proofs.{Common.{arith}, lemmas.Bool.Decides.nat_tests}
use Rattle.ixdtf_reading.specs.reading.Pairs.{ValueState, AtStart, Inside, BeginsKey}
use Rattle.ixdtf_reading.specs.reading.Pairs.{AfterHyphen, GoesOn, Ends, Stops, key_run, component_look, value_run, value_mark, value_step, value_line}
use Rattle.ixdtf_reading.specs.{reading.Stops.reason_of}
use Rattle.ixdtf_reading.specs.reading.{Looks.{Placed, look_at, seen, next_by, mark_by, error_of}, Zones.with_letter}
use Rattle.ixdtf_reading.specs.reading.Brackets.{next_is}
use Rattle.ixdtf_reading.specs.reading.Runs.{Taken, always, letters_by, key_after, component_after}
use Rattle.ixdtf_reading.proofs.code.{FirstLetter.{first_is as letter_first, nothing_is}, LetterLoops.{test_held, test_failed, first_is, Stays, next_shown}}
use Rattle.ixdtf_reading.proofs.code.FirstBytes.{drop_two, one_behind}
use Rattle.ixdtf_reading.proofs.code.LetterLoops.{next_stays, run_failed, run_passed, IsFar, one_far, more_far, far_fails}
use Rattle.ixdtf_reading.proofs.parts.Steps.{with_letters, letters_err, letters_ok}
use Rattle.ixdtf_grammar.specs.{language.Letters.{Letter, Text, equals, hyphen, closing, key_lead, key_char, value_char, Letter.{Plain, Bad}}, table.LineNames.{LineName.of_pair, PairLine.in_key}}

-- ---- keys

-- The `Reason` in a key.
abbrev pub key_stop : Reason
key_stop = reason_of (of_pair in_key)

key_over : (state next : Unit {0}) (c : ℕ) (rest : Text) → key_after state c ≡ Some next
    → key_run error_of (Plain c ∷ rest) ≡ with_letter c (key_run error_of rest)
unfolding key_run
key_over state next c rest e = rw (test_held (key_char c) state next e) refl

key_bad : (letters : Unit {0}) (rest : Text) → key_run error_of (Bad ∷ rest) ≡ Err (key_stop, Bad ∷ rest)
unfolding key_run
key_bad letters rest = refl

module _ (letters : Unit {0}) (text : Text) where
  pub key_failed : (fault : Placed) → letters_by (always key_stop) key_after letters text ≡ Err fault → key_run error_of text ≡ Err fault
  key_failed fault e = run_failed (always key_stop) key_after (λ letters text. key_run error_of text) key_over key_bad letters text fault e

  module _ (rest : Text) (taken : Taken (Unit {0})) (passed : letters_by (always key_stop) key_after letters text ≡ Ok (taken, rest)) where
    key_passed : key_run error_of text ≡ with_letters taken.letters (key_run error_of rest)
    key_passed = run_passed (always key_stop) key_after (λ letters text. key_run error_of text) key_over key_bad letters text rest taken passed

    pub key_ended : taken.next ≡ None → key_run error_of text ≡ Err (key_stop, rest)
    unfolding key_run
    key_ended is =
        key_passed ∙ rw (nothing_is _ rest (next_shown (always key_stop) key_after letters text rest taken passed ∙ ap Ok is)) (letters_err taken.letters (key_stop, []))

    module _ (c : ℕ) (is : taken.next ≡ Some c) where
      key_next : rest ≡ Plain c ∷ drop 1 rest
      key_next = letter_first _ rest c (next_shown (always key_stop) key_after letters text rest taken passed ∙ ap Ok is)

      key_stays : key_char c ≡ false
      key_stays = test_failed (key_char c) taken.state
          (subst (λ next. Stays (always key_stop) key_after taken.state next) is (next_stays (always key_stop) key_after letters text rest taken passed))

      pub key_closed : equals c ≡ true → key_run error_of text ≡ Ok (taken.letters, drop 1 rest)
      unfolding key_run
      key_closed test = key_passed ∙ rw (key_next, key_stays, test) (letters_ok taken.letters (drop 1 rest))

      pub key_refused : equals c ≡ false → key_run error_of text ≡ Err (key_stop, rest)
      unfolding key_run
      key_refused test = key_passed ∙ rw (key_next, key_stays, test) (letters_err taken.letters (key_stop, Plain c ∷ drop 1 rest))

    -- The code unit after the key is `=`.
    pub key_done : next_is equals taken.next ≡ true → key_run error_of text ≡ Ok (taken.letters, drop 1 rest)
    key_done test = go taken.next refl test
      where
        go : (next : Option ℕ) → taken.next ≡ next → next_is equals next ≡ true → key_run error_of text ≡ Ok (taken.letters, drop 1 rest)
        go None is test = absurd cc
        go (Some c) is test = key_closed c is test

    -- The code unit after the key is not `=`.
    pub key_open : next_is equals taken.next ≡ false → key_run error_of text ≡ Err (key_stop, rest)
    key_open test = go taken.next refl test
      where
        go : (next : Option ℕ) → taken.next ≡ next → next_is equals next ≡ false → key_run error_of text ≡ Err (key_stop, rest)
        go None is test = key_ended is
        go (Some c) is test = key_refused c is test

-- The key continues after its first code unit.
pub key_behind : (letter : ℕ → Letter) → ((unit n : ℕ) → letter unit ≡ Plain n → n ≡ unit) → (units left : List ℕ) → BeginsKey (map letter units)
    → left ≡ drop 1 units → (c : ℕ) × (units ≡ c ∷ left) × (key_run error_of (map letter units) ≡ with_letter c (key_run error_of (map letter left)))
unfolding key_run
key_behind letter faithful [] left begins moved = absurd begins
key_behind letter faithful (u ∷ more) left begins moved = go (letter u) refl begins
  where
    go : (l : Letter) → letter u ≡ l → BeginsKey (l ∷ map letter more)
        → (c : ℕ) × (u ∷ more ≡ c ∷ left) × (key_run error_of (letter u ∷ map letter more) ≡ with_letter c (key_run error_of (map letter left)))
    go (Plain n) is leads =
        let char : key_char n ≡ true = rw leads refl in
        (u, ap (λ t. u ∷ t) (sym moved), rw (is, char, moved, faithful u n is) refl)
    go Bad is none = absurd none

-- As above, for a key after the first code unit.
pub key_after_one : (letter : ℕ → Letter) → ((unit n : ℕ) → letter unit ≡ Plain n → n ≡ unit) → (units left : List ℕ) → BeginsKey (drop 1 (map letter units))
    → left ≡ drop 2 units
    → (c : ℕ) × (drop 1 units ≡ c ∷ left) × (key_run error_of (drop 1 (map letter units)) ≡ with_letter c (key_run error_of (map letter left)))
key_after_one letter faithful [] left begins moved = absurd begins
key_after_one letter faithful (unit ∷ units) left begins moved = key_behind letter faithful units left begins moved

-- ---- values

-- The `Reason` of a value in this state.
abbrev pub value_stop : ValueState → Reason
value_stop state = reason_of (of_pair (value_line state))

value_on : (state next : ValueState) (c : ℕ) (rest : Text) → value_step state c ≡ GoesOn next
    → value_run error_of state (Plain c ∷ rest) ≡ with_letter c (value_run error_of next rest)
unfolding value_run
value_on state next c rest e = rw (e, value_run) refl

value_stops : (state : ValueState) (c : ℕ) (rest : Text) → value_step state c ≡ Stops
    → value_run error_of state (Plain c ∷ rest) ≡ Err (value_stop state, Plain c ∷ rest)
unfolding value_run
value_stops state c rest e = rw (e, value_run) refl

value_ends : (state : ValueState) (c : ℕ) (rest : Text) → value_step state c ≡ Ends → value_run error_of state (Plain c ∷ rest) ≡ Ok ([], rest)
unfolding value_run
value_ends state c rest e = rw (e, value_run) refl

at_letter : (state : ValueState) (c : ℕ) → value_char c ≡ true → value_step state c ≡ GoesOn Inside
at_letter state c is = rw is refl

no_hyphen : (c : ℕ) → closing c ≡ true → hyphen c ≡ false
no_hyphen c is = grind (arith, nat_tests)

-- No component begins.
pub value_unstarted : (state : ValueState) (stop : Reason) → value_stop state ≡ stop → ((c : ℕ) → value_mark state c ≡ Stops)
    → (text : Text) (placed : Placed) → mark_by (component_look stop) value_char text ≡ Err placed → value_run error_of state text ≡ Err placed
unfolding mark_by next_by look_at value_run
value_unstarted state stop is marks [] placed e = let same : (stop, []) ≡ placed = cc in ap (λ f. Err (f, [])) is ∙ ap Err same
value_unstarted state stop is marks (Bad ∷ rest) placed e = let same : (stop, Bad ∷ rest) ≡ placed = cc in ap (λ f. Err (f, Bad ∷ rest)) is ∙ ap Err same
value_unstarted state stop is marks (Plain c ∷ rest) placed e =
    let out : value_char c ≡ false = grind (arith, e) in
    let same : (stop, Plain c ∷ rest) ≡ placed = cc (rw out at e) in
    value_stops state c rest (rw out (marks c)) ∙ ap (λ f. Err (f, Plain c ∷ rest)) is ∙ ap Err same

-- The first code unit of a component.
started : (stop : Reason) (text left : Text) → mark_by (component_look stop) value_char text ≡ Ok (true, left)
    → (c : ℕ) × (seen stop text ≡ Ok (Some c)) × (value_char c ≡ true)
unfolding mark_by next_by look_at
started stop (Plain c ∷ rest) left e = let is : value_char c ≡ true = grind (arith, e) in (c, refl, is)
started stop text left e = absurd cc

-- A code unit of a component continues the value.
component_over : (state next : Unit {0}) (c : ℕ) (rest : Text) → component_after state c ≡ Some next
    → value_run error_of Inside (Plain c ∷ rest) ≡ with_letter c (value_run error_of Inside rest)
component_over state next c rest e = value_on Inside Inside c rest (at_letter Inside c (test_held (value_char c) state next e))

component_bad : (letters : Unit {0}) (rest : Text) → value_run error_of Inside (Bad ∷ rest) ≡ Err (value_stop Inside, Bad ∷ rest)
unfolding value_run
component_bad letters rest = refl

-- The state of the loop: these code units of a value were consumed, and the others remain.
abbrev pub ValueSoFar : (ℕ → Letter) → List ℕ → List ℕ → ValueState → Type 0
ValueSoFar letter whole rest state = IsFar with_letter (value_run error_of) letter AtStart whole rest state

pub value_begins : (letter : ℕ → Letter) (whole : List ℕ) → ValueSoFar letter whole whole AtStart
value_begins letter whole = record { taken = []; units = refl; read = refl }

module _ (letter : ℕ → Letter) (faithful : (unit n : ℕ) → letter unit ≡ Plain n → n ≡ unit) (whole : List ℕ) where
  abbrev Far : List ℕ → ValueState → Type 0
  Far rest state = ValueSoFar letter whole rest state

  module _ (rest : List ℕ) (state : ValueState) (far : ValueSoFar letter whole rest state) where
    pub value_fails : (fault : Placed) → value_run error_of state (map letter rest) ≡ Err fault → value_run error_of AtStart (map letter whole) ≡ Err fault
    value_fails fault e = far_fails far (λ c e. refl) fault e

    -- A component begins.
    pub value_starts : (stop : Reason) (left : List ℕ) → mark_by (component_look stop) value_char (map letter rest) ≡ Ok (true, map letter left)
        → left ≡ drop 1 rest → Far left Inside
    value_starts stop left e moved =
        let (c, found, is) = started stop (map letter rest) (map letter left) e in
        one_far far _ faithful left Inside c found (λ more. value_on state Inside c more (at_letter state c is)) moved

  -- As above, for what follows the first remaining code unit.
  module _ (rest : List ℕ) (state : ValueState) (far : ValueSoFar letter whole (drop 1 rest) state) where
    pub value_fails_behind : (fault : Placed) → value_run error_of state (drop 1 (map letter rest)) ≡ Err fault → value_run error_of AtStart (map letter whole) ≡ Err fault
    value_fails_behind fault e = value_fails (drop 1 rest) state far fault (ap (value_run error_of state) (sym (one_behind letter rest)) ∙ e)

    pub value_starts_behind : (stop : Reason) (left : List ℕ)
        → mark_by (component_look stop) value_char (drop 1 (map letter rest)) ≡ Ok (true, map letter left) → left ≡ drop 2 rest → Far left Inside
    value_starts_behind stop left e moved =
        value_starts (drop 1 rest) state far stop left (ap (mark_by (component_look stop) value_char) (sym (one_behind letter rest)) ∙ e) (moved ∙ drop_two rest)

  module _ (rest : List ℕ) (far : ValueSoFar letter whole rest Inside) (letters : Unit {0}) where
    -- Reading a component failed.
    pub component_fails : (fault : Placed) → letters_by (always (value_stop Inside)) component_after letters (map letter rest) ≡ Err fault
        → value_run error_of AtStart (map letter whole) ≡ Err fault
    component_fails fault e =
        value_fails rest Inside far fault
        (run_failed (always (value_stop Inside)) component_after (λ letters text. value_run error_of Inside text) component_over component_bad letters (map letter rest) fault e)

    module _ (left : List ℕ) (taken : Taken (Unit {0})) (passed : letters_by (always (value_stop Inside)) component_after letters (map letter rest) ≡ Ok (taken, map letter left))
        (split : rest ≡ taken.letters ++ left) where
      -- The state after a component.
      component_passed : Far left Inside
      component_passed = more_far far left taken.letters Inside split
          (run_passed (always (value_stop Inside)) component_after (λ letters text. value_run error_of Inside text) component_over component_bad letters (map letter rest) (map letter left) taken
          passed)

      found : (next : Option ℕ) → taken.next ≡ next → seen (value_stop Inside) (map letter left) ≡ Ok next
      found next is = next_shown (always (value_stop Inside)) component_after letters (map letter rest) (map letter left) taken passed ∙ ap Ok is

      no_letter : (c : ℕ) → taken.next ≡ Some c → value_char c ≡ false
      no_letter c is =
          test_failed (value_char c) taken.state
          (subst (λ next. Stays (always (value_stop Inside)) component_after taken.state next) is (next_stays (always (value_stop Inside)) component_after letters (map letter rest) (map letter left) taken passed))

      -- The text ends after the component.
      pub component_last : taken.next ≡ None → value_run error_of AtStart (map letter whole) ≡ Err (value_stop Inside, map letter left)
      unfolding value_run
      component_last is =
          let none : map letter left ≡ [] = nothing_is _ (map letter left) (found None is) in
          value_fails left Inside component_passed _ (rw none refl)

      -- A `]` follows the component.
      pub component_closed : (c : ℕ) → taken.next ≡ Some c → closing c ≡ true
          → (all : List ℕ) × (whole ≡ all ++ left) × (value_run error_of AtStart (map letter whole) ≡ Ok (all, drop 1 (map letter left)))
      component_closed c is test =
          let here = first_is _ letter faithful left c (found (Some c) is) in
          let step : value_step Inside c ≡ Ends = rw (no_letter c is, no_hyphen c test, test) refl in
          let all = component_passed.taken in (
            all,
            component_passed.units,
            component_passed.read ∙ rw here.2 (ap (λ read. with_letters all read) (value_ends Inside c (map letter here.0) step)
                ∙ letters_ok all (map letter here.0)),
          )

      -- A hyphen follows the component.
      pub component_joined : (c : ℕ) (after : List ℕ) → taken.next ≡ Some c → hyphen c ≡ true → after ≡ drop 1 left → Far after AfterHyphen
      component_joined c after is test moved =
          one_far component_passed _ faithful after AfterHyphen c (found (Some c) is)
          (λ more. value_on Inside AfterHyphen c more (rw (no_letter c is, test) refl)) moved

      -- Another code unit follows the component.
      pub component_refused : (c : ℕ) → taken.next ≡ Some c → closing c ≡ false → hyphen c ≡ false
          → value_run error_of AtStart (map letter whole) ≡ Err (value_stop Inside, map letter left)
      component_refused c is shut dash =
          let here = first_is _ letter faithful left c (found (Some c) is) in
          let step : value_step Inside c ≡ Stops = rw (no_letter c is, dash, shut) refl in
          value_fails left Inside component_passed _ (rw here.2 (value_stops Inside c (map letter here.0) step))
