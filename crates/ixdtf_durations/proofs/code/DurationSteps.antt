-- Reading a duration from a state on, by the next code unit.
use Rattle.ixdtf_grammar.specs.declared.reason.Reason.{Reason}
use Rattle.ixdtf_grammar.specs.declared.reason.Reason.TheVariants as reasons
use Rattle.std.proofs.Common.{◌≡◌, ℕ, ◌≤◌, true, false, List, [], ◌∷◌, drop, length, map, Option, Some, None, Result, Ok, Err, refl, ap, ◌∙◌, arith, nat_le}
use Rattle.std.proofs.lemmas.Bool.Decides.{nat_tests}
use Rattle.ixdtf_grammar.specs.declared.{profile.Profile.Profile, records.{Sign.{Sign, TheVariants.Positive}, DurationParseRecord.DurationParseRecord}}
use Rattle.ixdtf_grammar.specs.{Views.Unread, language.Letters.{Letter, Text, digit, sign, duration_designator, time_letter, Letter.{Plain, Bad}}}
use Rattle.ixdtf_grammar.specs.language.{Digits.decimal, Offsets.sign_of, Durations.{Group, greatest_value, duration_of}}
use Rattle.ixdtf_grammar.specs.table.DurationFronts.{Context}
use Rattle.ixdtf_grammar.specs.table.DurationFronts.Context.{in_dates, in_times}
use Rattle.ixdtf_reading.specs.{reading.{Looks.{Placed, Read, error_of, look_at, seen}, Stops.duration_reason, Clauses.Reads}}
use Rattle.ixdtf_reading.specs.reading.Durations.{State, line_of_state, state_look, step, run, duration_at}
use Rattle.ixdtf_reading.specs.reading.Durations.State.{started, signed, between, in_number, ended}
use Rattle.ixdtf_reading.proofs.code.FirstLetter.{first_is, nothing_is}
use Rattle.ixdtf_durations.specs.reading.DurationClauses.{run_from, ReadsOn}

-- The `Reason` of the next code unit in each state.
abbrev pub state_stop : State → Reason
state_stop s = duration_reason (line_of_state s)

at_bad_is : (profile : Profile) (s : State) (text : Text) → (state_look error_of profile s).at_bad text ≡ (state_stop s, text)
at_bad_is profile (between (in_dates s [])) text = refl
at_bad_is profile (between (in_times s dates [])) text = refl
at_bad_is profile s text = refl

-- The look failed: the next code unit is bad.
pub fails : (profile : Profile) (s : State) (text : Text) (fault : Placed) → seen (state_stop s) text ≡ Err fault → run_from profile s text ≡ Err fault
unfolding look_at run
fails profile s (Bad ∷ more) fault e = let same : (state_stop s, Bad ∷ more) ≡ fault = cc in rw (at_bad_is profile s, same) refl
fails profile s text fault e = absurd cc

module _ (profile : Profile) (text : Text) where
  -- The text ends.
  module _ (stop : Reason) (none : seen stop text ≡ Ok None) where
    pub start_at_end : run_from profile started text ≡ Err (reasons.DurationStart, text)
    unfolding run
    start_at_end = rw (nothing_is stop text none) refl

    pub signed_at_end : (s : Sign) → run_from profile (signed s) text ≡ Err (reasons.AfterDurationSign, text)
    unfolding run
    signed_at_end s = rw (nothing_is stop text none) refl

    pub opened_at_end : (s : Sign) → run_from profile (between (in_dates s [])) text ≡ Err (reasons.AfterDurationDesignator, text)
    unfolding run
    opened_at_end s = rw (nothing_is stop text none) refl

    pub times_at_end : (s : Sign) (dates : _) → run_from profile (between (in_times s dates [])) text ≡ Err (reasons.AfterTimeDesignator, text)
    unfolding run
    times_at_end s dates = rw (nothing_is stop text none) refl

    pub dates_end : (s : Sign) (g : Group) (dates : _) → run_from profile (between (in_dates s (g ∷ dates))) text ≡ Ok (duration_of s (g ∷ dates) [], text)
    unfolding run
    dates_end s g dates = rw (nothing_is stop text none) refl

    pub times_end : (s : Sign) (dates : _) (g : Group) (times : _)
        → run_from profile (between (in_times s dates (g ∷ times))) text ≡ Ok (duration_of s dates (g ∷ times), text)
    unfolding run
    times_end s dates g times = rw (nothing_is stop text none) refl

    pub fraction_end : (s : Sign) (dates times : _) (g : Group) → run_from profile (ended s dates times g) text ≡ Ok (duration_of s dates (g ∷ times), text)
    unfolding run
    fraction_end s dates times g = rw (nothing_is stop text none) refl

  -- The next code unit is `c`.
  module _ (stop : Reason) (c : ℕ) (first : seen stop text ≡ Ok (Some c)) where
    pub start_at_sign : sign c ≡ true → run_from profile started text ≡ run_from profile (signed (sign_of c)) (drop 1 text)
    unfolding run step
    start_at_sign is = rw (first_is stop text c first, is) refl

    pub start_at_designator : sign c ≡ false → duration_designator c ≡ true
        → run_from profile started text ≡ run_from profile (between (in_dates Positive [])) (drop 1 text)
    unfolding run step
    start_at_designator miss is = rw (first_is stop text c first, miss, is) refl

    pub start_at_other : sign c ≡ false → duration_designator c ≡ false → run_from profile started text ≡ Err (reasons.DurationStart, text)
    unfolding run
    start_at_other miss nor = rw (first_is stop text c first, miss, nor) refl

    pub signed_at_designator : (s : Sign) → duration_designator c ≡ true
        → run_from profile (signed s) text ≡ run_from profile (between (in_dates s [])) (drop 1 text)
    unfolding run step
    signed_at_designator s is = rw (first_is stop text c first, is) refl

    pub signed_at_other : (s : Sign) → duration_designator c ≡ false → run_from profile (signed s) text ≡ Err (reasons.AfterDurationSign, text)
    unfolding run
    signed_at_other s miss = rw (first_is stop text c first, miss) refl

    no_digit : time_letter c ≡ true → digit c ≡ false
    no_digit is = grind (arith, nat_tests)

    -- A `T` or `t` follows `P` or the date groups.
    pub dates_at_mark : (s : Sign) (dates : _) → time_letter c ≡ true
        → run_from profile (between (in_dates s dates)) text ≡ run_from profile (between (in_times s dates [])) (drop 1 text)
    unfolding run step
    dates_at_mark s [] is = rw (first_is stop text c first, no_digit is, is) refl
    dates_at_mark s (g ∷ dates) is = rw (first_is stop text c first, no_digit is, is) refl

    pub dates_at_other : (s : Sign) (dates : _) → digit c ≡ false → time_letter c ≡ false
        → run_from profile (between (in_dates s dates)) text ≡ Err (state_stop (between (in_dates s dates)), text)
    unfolding run
    dates_at_other s [] miss nor = rw (first_is stop text c first, miss, nor) refl
    dates_at_other s (g ∷ dates) miss nor = rw (first_is stop text c first, miss, nor) refl

    pub times_at_other : (s : Sign) (dates : _) → digit c ≡ false → run_from profile (between (in_times s dates [])) text ≡ Err (reasons.AfterTimeDesignator, text)
    unfolding run
    times_at_other s dates miss = rw (first_is stop text c first, miss) refl

    pub more_times_at_other : (s : Sign) (dates : _) (g : Group) (times : _) → digit c ≡ false
        → run_from profile (between (in_times s dates (g ∷ times))) text ≡ Err (reasons.AfterTimeGroups, text)
    unfolding run
    more_times_at_other s dates g times miss = rw (first_is stop text c first, miss) refl

    pub fraction_at_other : (s : Sign) (dates times : _) (g : Group) → run_from profile (ended s dates times g) text ≡ Err (reasons.AfterFractionGroup, text)
    unfolding run
    fraction_at_other s dates times g = rw (first_is stop text c first) refl

    one_digit : digit c ≡ true → nat_le (decimal (Plain c ∷ [])) greatest_value ≡ true
    unfolding greatest_value
    one_digit is = grind (arith, nat_tests)

    -- A group begins at a digit.
    pub at_digit : (context : Context) → digit c ≡ true
        → run_from profile (between context) text ≡ run_from profile (in_number context (Plain c ∷ [])) (drop 1 text)
    unfolding run step
    at_digit (in_dates s []) is = rw (first_is stop text c first, is, one_digit is) refl
    at_digit (in_dates s (g ∷ dates)) is = rw (first_is stop text c first, is, one_digit is) refl
    at_digit (in_times s dates []) is = rw (first_is stop text c first, is, one_digit is) refl
    at_digit (in_times s dates (g ∷ times)) is = rw (first_is stop text c first, is, one_digit is) refl

-- A group begins, and its first digit was consumed.
pub to_digit : (stop : Reason) (profile : Profile) (text next : Text) (c : ℕ) → seen stop text ≡ Ok (Some c) → digit c ≡ true → next ≡ drop 1 text
    → (context : Context) → run_from profile (between context) text ≡ run_from profile (in_number context (Plain c ∷ [])) next
to_digit stop profile text next c first is moved context = at_digit profile text stop c first context is ∙ rw moved refl

-- A `T` or `t` follows `P` or the date groups, and was consumed.
pub to_mark : (stop : Reason) (profile : Profile) (text next : Text) (c : ℕ) → seen stop text ≡ Ok (Some c) → time_letter c ≡ true → next ≡ drop 1 text
    → (s : Sign) (dates : List Group) → run_from profile (between (in_dates s dates)) text ≡ run_from profile (between (in_times s dates [])) next
to_mark stop profile text next c first is moved s dates = dates_at_mark profile text stop c first s dates is ∙ rw moved refl

-- The text that is left after a code unit was consumed.
pub letters_left : (letter : ℕ → Letter) (old new : List ℕ) → new ≡ drop 1 old → map letter new ≡ drop 1 (map letter old)
letters_left letter [] new is = ap (map letter) is
letters_left letter (u ∷ us) new is = ap (map letter) is

-- A look found that the next code unit is `c`, which is not consumed.
pub record LetterStays (stop : Reason) (letter : ℕ → Letter) (rest looked : List ℕ) (c : ℕ) : Type 0 where
  pub found : seen stop (map letter rest) ≡ Ok (Some c)
  pub here : map letter looked ≡ Plain c ∷ drop 1 (map letter looked)
  pub left : map letter looked ≡ map letter rest
  pub more : 1 ≤ length looked

pub letter_stays : {stop : Reason} {letter : ℕ → Letter} {rest looked : List ℕ} {saw : Option ℕ} {c : ℕ}
    → seen stop (map letter rest) ≡ Ok saw → saw ≡ Some c → looked ≡ rest → LetterStays stop letter rest looked c
unfolding look_at
letter_stays {stop} {letter} {rest} {looked} {saw} {c} sees is stays =
    let found : seen stop (map letter rest) ≡ Ok (Some c) = cc in
    record { found = found; here = rw stays (first_is stop _ c found); left = ap (map letter) stays; more = rw stays (some_unit rest found) }
  where
    some_unit : (rest : List ℕ) → seen stop (map letter rest) ≡ Ok (Some c) → 1 ≤ length rest
    some_unit [] found = absurd cc
    some_unit (u ∷ us) found = omega arith

-- What a function reads from the state `here` is what it reads from `from`, if reading goes from `from` to `here`.
pub reads_on_earlier : {X : Type 0} (letter : ℕ → Letter) (profile : Profile) (from here : State) (old mid new : Unread) (result : Result X Reason)
    (next : X → Text → Read Placed DurationParseRecord)
    → run_from profile from (map letter old.rest) ≡ run_from profile here (map letter mid.rest) → ReadsOn letter profile here mid result new next
    → ReadsOn letter profile from old result new next
reads_on_earlier letter profile from here old mid new (Ok x) next e is = e ∙ is
reads_on_earlier letter profile from here old mid new (Err stop) next e is = e ∙ is

-- A duration is read from its beginning, if reading goes from there to the state from which a function reads on.
pub reads_whole : (letter : ℕ → Letter) (profile : Profile) (here : State) (old mid left : Unread) (read : Result DurationParseRecord Reason)
    → run_from profile started (map letter old.rest) ≡ run_from profile here (map letter mid.rest)
    → ReadsOn letter profile here mid read left (λ duration text. Ok (duration, text))
    → Reads letter (λ duration. duration) old read left (duration_at error_of profile)
reads_whole letter profile here old mid left (Ok x) e is = e ∙ is
reads_whole letter profile here old mid left (Err stop) e is = e ∙ is

-- The rules for the beginning of a duration.
pub ruleset openings = (fails, start_at_end, signed_at_end, start_at_sign, start_at_designator, start_at_other, signed_at_designator, signed_at_other)
