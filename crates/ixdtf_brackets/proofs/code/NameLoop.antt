-- The code units of the name of a zone, consumed one by one.
use Rattle.ixdtf_grammar.specs.declared.reason.Reason.{Reason}
use Rattle.std.proofs.Common.{◌≡◌, ℕ, ◌&&◌, Bool, true, false, List, ◌∷◌, ◌++◌, map, drop, Option, Some, None, option_map, IsSome, Ok, Err, refl, ap}
use Rattle.std.proofs.{Common.{◌∙◌, if◌then◌else◌}, Math.Bool.and-false}
use Rattle.ixdtf_brackets.specs.{declared.zone.NameState.NameState, BracketTypes.{part_after, name_after, stop_by}}
use Rattle.ixdtf_grammar.specs.language.Letters.{Letter, Text, Class, zone_char, slash, Letter.{Plain, Bad}}
use Rattle.ixdtf_reading.specs.{reading.Brackets.{next_is, name_stop}}
use Rattle.ixdtf_reading.specs.reading.{Looks.{Placed, Read, seen, error_of}, Zones.{with_letter, name_stops, name_run}, Runs.{Taken, always, letters_by}}
use Rattle.ixdtf_reading.proofs.code.{FirstLetter.{first_is, nothing_is}, LetterLoops.{test_held, test_failed, run_failed, run_passed, Stays, IsSoFar}}
use Rattle.ixdtf_reading.proofs.code.LetterLoops.{goes_on, ceases, fails, goes_over, fails_over, next_shown, next_stays}
use Rattle.ixdtf_reading.proofs.parts.Steps.{with_letters, letters_ok, letters_err}

-- The state in which a name can end. `name_slash` is the state after a slash.
abbrev pub name_start : NameState
name_start = record { may_end = true }

abbrev pub name_slash : NameState
name_slash = record { may_end = false }

abbrev reading : NameState → Text → Read Placed (List ℕ)
reading letters text = name_run error_of letters.may_end text

name_over : (letters next : NameState) (c : ℕ) (rest : Text) → name_after letters c ≡ Some next → reading letters (Plain c ∷ rest) ≡ with_letter c (reading next rest)
unfolding name_run
name_over letters next c rest e = go _ refl _ refl e
  where
    go : (b : Bool) → zone_char c ≡ b → (d : Bool) → (slash c && letters.may_end) ≡ d
        → option_map (λ may_end. record { may_end = may_end }) (if b then Some true else (if d then Some false else None)) ≡ Some next
        → reading letters (Plain c ∷ rest) ≡ with_letter c (reading next rest)
    go true p d q e = let same : true ≡ next.may_end = cc in rw (p, ← same) refl
    go false p true q e = let same : false ≡ next.may_end = cc in rw (p, q, ← same) refl
    go false p false q e = absurd cc

-- The `Reason`s of a name, if it is known that the bracket is a zone.
abbrev pub zone_stops : NameState → Reason
zone_stops = stop_by (name_stop true) (name_stop false)

name_bad : (letters : NameState) (rest : Text) → reading letters (Bad ∷ rest) ≡ Err (zone_stops letters, Bad ∷ rest)
unfolding name_run
name_bad letters rest = go letters.may_end refl
  where
    go : (b : Bool) → letters.may_end ≡ b → reading letters (Bad ∷ rest) ≡ Err (zone_stops letters, Bad ∷ rest)
    go true p = rw p refl
    go false p = rw p refl

-- If the next code unit cannot continue the name, the name ends here, or it is an error that it ends here.
name_halts : (stop : Reason) (letters : NameState) (rest : Text) (next : Option ℕ) → seen stop rest ≡ Ok next → Stays zone_stops name_after letters next
    → reading letters rest ≡ name_stops (name_stop false, rest) letters.may_end rest
unfolding name_run
name_halts stop letters rest None e stays = rw (nothing_is stop rest e) refl
name_halts stop letters rest (Some c) e stays = rw (first_is stop rest c e) (go _ refl _ refl stays)
  where
    go : (b : Bool) → zone_char c ≡ b → (d : Bool) → (slash c && letters.may_end) ≡ d
        → option_map {U = NameState} (λ may_end. record { may_end = may_end }) (if b then Some true else (if d then Some false else None)) ≡ None
        → reading letters (Plain c ∷ drop 1 rest) ≡ name_stops (name_stop false, Plain c ∷ drop 1 rest) letters.may_end (Plain c ∷ drop 1 rest)
    go true p d q e = absurd cc
    go false p true q e = absurd cc
    go false p false q e = rw (p, q) refl

pub name_failed : (text : Text) (fault : Placed) → letters_by zone_stops name_after name_start text ≡ Err fault → name_run error_of true text ≡ Err fault
name_failed text fault e = run_failed zone_stops name_after reading name_over name_bad name_start text fault e

module _ (text rest : Text) (taken : Taken NameState) (passed : letters_by zone_stops name_after name_start text ≡ Ok (taken, rest)) where
  name_passed : name_run error_of true text ≡ with_letters taken.letters (name_stops (name_stop false, rest) taken.state.may_end rest)
  name_passed =
      run_passed zone_stops name_after reading name_over name_bad name_start text rest taken passed
      ∙ ap (with_letters taken.letters) (name_halts _ taken.state rest taken.next (next_shown zone_stops name_after name_start text rest taken passed)
      (next_stays zone_stops name_after name_start text rest taken passed))

  pub name_ended : taken.state.may_end ≡ true → name_run error_of true text ≡ Ok (taken.letters, rest)
  name_ended is = name_passed ∙ rw is (letters_ok taken.letters rest)

  pub name_refused : taken.state.may_end ≡ false → name_run error_of true text ≡ Err (name_stop false, rest)
  name_refused is = name_passed ∙ rw is (letters_err taken.letters (name_stop false, rest))

-- ---- parts of a name

-- A code unit of a part continues a name that can end.
part_within : (state next : Unit {0}) (c : ℕ) → part_after state c ≡ Some next → name_after name_start c ≡ Some name_start
part_within state next c e = rw (test_held (zone_char c) state next e) refl

part_stays : (letters : Unit {0}) (c : ℕ) → part_after letters c ≡ None → zone_char c ≡ false
part_stays letters c e = test_failed (zone_char c) letters e

-- After a part, if no slash follows, the name does not continue.
pub part_last : (stop : Unit {0} → Reason) (name_stop : NameState → Reason) (letters : Unit {0}) (next : Option ℕ) → Stays stop part_after letters next
    → next_is slash next ≡ false → Stays name_stop name_after name_start next
part_last stop name_stop letters None stays other = tt
part_last stop name_stop letters (Some c) stays other = rw (part_stays letters c stays, other) refl

-- After a slash, if no part follows, the name does not continue.
pub slash_last : (stop : NameState → Reason) (next : Option ℕ) → next_is zone_char next ≡ false → Stays stop name_after name_slash next
slash_last stop None other = tt
slash_last stop (Some c) other = rw (other, and-false (slash c)) refl

-- A slash after a part continues the name.
pub part_slashed : (letters : Unit {0}) (c : ℕ) → part_after letters c ≡ None → slash c ≡ true → name_after name_start c ≡ Some name_slash
part_slashed letters c stays is = rw (part_stays letters c stays, is) refl

-- A code unit of a part continues the name after a slash.
pub slash_joined : (c : ℕ) → zone_char c ≡ true → name_after name_slash c ≡ Some name_start
slash_joined c is = rw is refl

-- If the next code unit is of the class, there is one.
pub some_next : (class : Class) (next : Option ℕ) → next_is class next ≡ true → (c : ℕ) × (next ≡ Some c) × (class c ≡ true)
some_next class None e = absurd cc
some_next class (Some c) e = (c, refl, e)

pub is_some : (class : Class) (next : Option ℕ) → next_is class next ≡ true → IsSome next
is_some class None e = absurd cc
is_some class (Some c) e = refl

module _ (in_name after_slash : Reason) {letter : ℕ → Letter} (faithful : (unit n : ℕ) → letter unit ≡ Plain n → n ≡ unit) (whole : List ℕ) where
  -- The `Reason`s of the whole name.
  abbrev stops : NameState → Reason
  stops = stop_by in_name after_slash

  abbrev Far : List ℕ → NameState → Type 0
  Far rest state = IsSoFar stops name_after letter name_start whole rest state

  module _ {rest : List ℕ} (far : IsSoFar (stop_by in_name after_slash) name_after letter name_start whole rest name_start) (letters : Unit {0}) where
    -- Reading a part failed.
    pub part_fails : (fault : Placed) → letters_by (always in_name) part_after letters (map letter rest) ≡ Err fault
        → letters_by (stop_by in_name after_slash) name_after name_start (map letter whole) ≡ Err fault
    part_fails fault e =
        fails_over (always in_name) part_after stops name_after name_start (λ state. refl) part_within letter name_start whole rest far letters fault e

    module _ (left : List ℕ) (taken : Taken (Unit {0})) (passed : letters_by (always in_name) part_after letters (map letter rest) ≡ Ok (taken, map letter left))
        (split : rest ≡ taken.letters ++ left) where
      part_passed : Far left name_start
      part_passed = goes_over (always in_name) part_after stops name_after name_start (λ state. refl) part_within letter name_start whole rest far left
          taken.letters letters taken split passed refl

      next_seen : seen in_name (map letter left) ≡ Ok taken.next
      next_seen = next_shown (always in_name) part_after letters (map letter rest) (map letter left) taken passed

      stays_so : Stays (always in_name) part_after taken.state taken.next
      stays_so = next_stays (always in_name) part_after letters (map letter rest) (map letter left) taken passed

      -- No slash follows the part.
      pub part_ceases : next_is slash taken.next ≡ false
          → (all : List ℕ) × (whole ≡ all ++ left)
          × (letters_by (stop_by in_name after_slash) name_after name_start (map letter whole)
          ≡ Ok (record { letters = all; state = name_start; next = taken.next }, map letter left))
      part_ceases other = (
        part_passed.taken,
        part_passed.units,
        ceases stops name_after letter faithful name_start whole left name_start part_passed _ taken.next next_seen (part_last (always in_name) stops taken.state taken.next stays_so other),
      )

      -- A slash follows the part.
      pub part_slashes : (after : List ℕ) → next_is slash taken.next ≡ true → after ≡ drop 1 left
          → IsSoFar (stop_by in_name after_slash) name_after letter name_start whole after name_slash
      part_slashes after is moved =
          let found = some_next slash taken.next is in
          goes_on stops name_after letter faithful name_start whole left name_start part_passed _ after name_slash found.0 (next_seen ∙ ap Ok found.1)
          (part_slashed taken.state found.0 (rw found.1 at stays_so) found.2) moved

  module _ {rest : List ℕ} (far : IsSoFar (stop_by in_name after_slash) name_after letter name_start whole rest name_slash) where
    -- The code unit after a slash is bad.
    pub slash_fails : (fault : Placed) → seen after_slash (map letter rest) ≡ Err fault
        → letters_by (stop_by in_name after_slash) name_after name_start (map letter whole) ≡ Err fault
    slash_fails fault e = fails stops name_after letter faithful name_start whole rest name_slash far fault e

    -- No part follows the slash.
    pub slash_ceases : (next : Option ℕ) → seen after_slash (map letter rest) ≡ Ok next → next_is zone_char next ≡ false
        → (all : List ℕ) × (whole ≡ all ++ rest)
        × (letters_by (stop_by in_name after_slash) name_after name_start (map letter whole)
        ≡ Ok (record { letters = all; state = name_slash; next = next }, map letter rest))
    slash_ceases next e other =
        (far.taken, far.units, ceases stops name_after letter faithful name_start whole rest name_slash far _ next e (slash_last stops next other))

    -- A part follows the slash.
    pub slash_goes_on : (next : Option ℕ) (left : List ℕ) → seen after_slash (map letter rest) ≡ Ok next → next_is zone_char next ≡ true → left ≡ drop 1 rest
        → IsSoFar (stop_by in_name after_slash) name_after letter name_start whole left name_start
    slash_goes_on next left e is moved =
        let found = some_next zone_char next is in
        goes_on stops name_after letter faithful name_start whole rest name_slash far _ left name_start found.0 (e ∙ ap Ok found.1) (slash_joined found.0 found.2) moved
