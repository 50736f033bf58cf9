-- Durations, code unit by code unit. A code unit that the table line of the state accepts leads to the next state. If a row of
-- this line fits, it is returned.
use Rattle.std.proofs.Common.{◌≡◌, ℕ, zero, suc, ◌≤◌, IsTrue, [], ◌∷◌, ◌++◌, Ok, Err, refl, ◌∙◌, arith, append_assoc, append-nil, nat_le, if◌then◌else◌}
use Rattle.std.proofs.lemmas.Bool.{leb-true, le-leb}
use Rattle.ixdtf_grammar.specs.{declared.profile.Profile.Profile, language.{Letters.{Text, digit, Letter.{Plain, Bad}}, Shapes.digits, Digits.decimal}}
use Rattle.ixdtf_grammar.specs.{language.Fractions.SomeDigits, table.{Faults.Fault, LineNames.{LineName, LineName.of_duration}, Lines.{Line, duration_line}}}
use Rattle.ixdtf_grammar.specs.table.{Lines.{Line.{line, scanned, whole}, Ending.{ok, error}}, DurationFronts.Context.{in_dates, in_times}, Rows.{Row, Place, Stops}}
use Rattle.ixdtf_reading.specs.reading.{Looks.{Read, ◌>>=◌, row_of, look_of}, Durations.{State, line_of_state, step, at_end, finished, run, State.between}}
use Rattle.ixdtf_reading.proofs.{parts.Looks.{ReadsOver, Halts, Goes, LooksAs, row_here}}
use Rattle.ixdtf_reading.proofs.parts.GrowingDigits.{decimal_snoc}

-- ---- digits

-- Each code unit is a digit.
abbrev pub AllDigits : Text → Type 0
AllDigits [] = Unit {0}
AllDigits (Plain c ∷ rest) = IsTrue (digit c) × AllDigits rest
AllDigits (Bad ∷ rest) = ⊥

pub all_digits : (n : ℕ) (ds : Text) → digits n ds → AllDigits ds
all_digits zero ds h = rw h tt
all_digits (suc n) ds h = rw h.2 (h.3, all_digits n h.1 h.4)

pub some_all : (ds : Text) → SomeDigits ds → AllDigits ds
some_all ds h = all_digits (suc h.0) ds h.1

-- The last of some digits, and the digits before it.
pub digits_snoc : (ds : Text) (c : ℕ) → AllDigits (ds ++ (Plain c ∷ [])) → AllDigits ds × IsTrue (digit c)
digits_snoc [] c h = (tt, h.0)
digits_snoc (Plain d ∷ ds) c h = let r = digits_snoc ds c h.1 in ((h.0, r.0), r.1)
digits_snoc (Bad ∷ ds) c h = absurd h

longer : (n : ℕ) (ds : Text) (c : ℕ) → digits n ds → IsTrue (digit c) → digits (suc n) (ds ++ (Plain c ∷ []))
longer zero ds c h d = rw h (c, [], refl, d, refl)
longer (suc n) ds c h d = rw h.2 (h.0, h.1 ++ (Plain c ∷ []), refl, h.3, longer n h.1 c h.4 d)

pub one_digit : (c : ℕ) → IsTrue (digit c) → SomeDigits (Plain c ∷ [])
one_digit c d = (zero, (c, [], refl, d, refl))

pub digits_longer : (ds : Text) (c : ℕ) → SomeDigits ds → IsTrue (digit c) → SomeDigits (ds ++ (Plain c ∷ []))
digits_longer ds c h d = (suc h.0, longer (suc h.0) ds c h.1 d)

decimal_grows : (ds more : Text) → decimal ds ≤ decimal (ds ++ more)
decimal_grows ds [] = rw append-nil (omega arith)
decimal_grows ds (c ∷ more) =
    let all : decimal (ds ++ (c ∷ [])) ≤ decimal (ds ++ (c ∷ more)) = rw append_assoc at (decimal_grows (ds ++ (c ∷ [])) more) in
    omega (arith, decimal_snoc ds c)

-- The number of the first digits is not greater than that of all digits.
pub below_front : (greatest : ℕ) (ds more : Text) → IsTrue (nat_le (decimal (ds ++ more)) greatest) → IsTrue (nat_le (decimal ds) greatest)
below_front greatest ds more h = let a = leb-true _ _ h in let b = decimal_grows ds more in le-leb _ _ (omega arith)

-- ---- lines

-- A table line that looks at the next code unit.
abbrev pub Asks : Line → Type 0
Asks (line front goes_on ends at_other) = Unit {0}
Asks (scanned front e) = ⊥
Asks (whole front e) = ⊥

pub state_asks : (profile : Profile) (s : State) → Asks (duration_line profile (line_of_state s))
state_asks profile (between (in_dates s [])) = tt
state_asks profile (between (in_times s dates [])) = tt
state_asks profile s = tt

module _ {E : Type 0} (fault : Row → E) (profile : Profile) where
  -- ---- a code unit that the line accepts

  by_look : {A : Type 0} (name : LineName) (l : Line) (c : ℕ) (x y : Read E A) → Goes l c → (if (look_of fault name l).goes_on c then x else y) ≡ x
  by_look name (line front goes_on ends at_other) c x y h = rw h refl
  by_look name other_line c x y h = absurd h

  -- Reading goes from a state over a prefix to another state.
  abbrev pub Over : State → Text → State → Type 0
  Over s front to = ReadsOver (run fault profile s) front (run fault profile to)

  -- Reading from a state goes over a prefix, and ends with the fault of a row at the rest.
  abbrev pub Stays : State → Text → Text → Row → Type 0
  Stays s front rest row = Halts (run fault profile s) front rest (fault row)

  pub stays : (s : State) → Over s [] s
  stays s = record { over = λ rest. refl }

  pub one_letter : (s : State) (c : ℕ) {to : State} → Goes (duration_line profile (line_of_state s)) c → ((rest : Text) → step fault profile rest s c ≡ Ok to)
      → Over s (Plain c ∷ []) to
  unfolding run
  one_letter s c h is = record { over = λ rest. by_look _ _ c _ _ h ∙ rw (is rest) refl }

  pub letter_stops : (s : State) (c : ℕ) {rest : Text} {row : Row} → Goes (duration_line profile (line_of_state s)) c → step fault profile rest s c ≡ Err (fault row)
      → Stays s (Plain c ∷ []) rest row
  unfolding run
  letter_stops s c h is = record { reads_to = by_look _ _ c _ _ h ∙ rw is refl }

  -- ---- the row of a state's line

  -- A reading function that uses the look of a table line looks at the text as the line does.
  looks_as : {A : Type 0} (name : LineName) (l : Line) (read : Text → Read E A) (x : A) (next : ℕ → Text → Read E A) → Asks l
      → read [] ≡ at_end ((look_of fault name l).at_end []) x → ((rest : Text) → read (Bad ∷ rest) ≡ Err ((look_of fault name l).at_bad (Bad ∷ rest)))
      → ((c : ℕ) (rest : Text) → read (Plain c ∷ rest)
      ≡ (if (look_of fault name l).goes_on c then next c rest else Err ((look_of fault name l).at_other c (Plain c ∷ rest)))) → LooksAs fault name read l
  looks_as name (line front goes_on ok at_other) read x next asks ends bad letter = (tt, bad, λ c rest out. letter c rest ∙ rw out refl)
  looks_as name (line front goes_on (error e) at_other) read x next asks ends bad letter = (ends, bad, λ c rest out. letter c rest ∙ rw out refl)
  looks_as name other_line read x next asks ends bad letter = absurd asks

  pub run_stops : (s : State) (place : Place) (e : Fault) (rest : Text) → Stops (duration_line profile (line_of_state s)) place e rest
      → run fault profile s rest ≡ Err (fault (row_of (of_duration profile (line_of_state s)) place e))
  unfolding run
  run_stops s =
      row_here fault (of_duration profile (line_of_state s)) (run fault profile s) (duration_line profile (line_of_state s))
      (looks_as (of_duration profile (line_of_state s)) (duration_line profile (line_of_state s)) (run fault profile s) (finished s)
      (λ c rest. step fault profile rest s c >>= λ next. run fault profile next rest) (state_asks profile s) refl (λ rest. refl) (λ c rest. refl))
