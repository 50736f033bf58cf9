-- The contract of a reader of the library gives the contract of a function for C.
use Rattle.std.proofs.{Common.{◌≡◌, ◌↔◌, ℕ, List, map, Result, Ok, Err, IfErr, OnOk, refl, sym, ap, ◌∙◌}, lemmas.Simd.map-map}
use Rattle.ixdtf_grammar.specs.declared.{profile.Profile.Profile, records.DurationParseRecord.DurationParseRecord}
use Rattle.ixdtf_explanations.specs.declared.located.LocatedError.{LocatedError}
use Rattle.ixdtf.specs.{table.ErrorEquality.location_of, Views.{Unread, returned_by}, Laws.InNoOther}
use Rattle.ixdtf.specs.LocatedFaults.{fault_of_located, stands_behind}
use Rattle.ixdtf.specs.LocatedPromises.{ReadsPartAt}
use Rattle.ixdtf.specs.language.{Languages.{Parsed, Found, Found.lasting}, Letters.Letter, Readers.{Reader, Reader.parse_duration}}
use Rattle.ixdtf_c.specs.Crossing.{Contents, DurationContents, Gives, GivesDuration, record_for, duration_for}
use Rattle.ixdtf_c.specs.{Located.{FaultAt, HasOutcome, fault_at, returned_at}, Numbers.number_for, Outcomes.{ReadsPart, GivesPart, GivesLasting}}

-- Two results with equal values are equal, also if the errors have another type.
pub same_ok : {X E F : Type 0} (x y : X) → ◌≡◌ {A = Result X E} (Ok x) (Ok y) → ◌≡◌ {A = Result X F} (Ok x) (Ok y)
same_ok x y is = let same : x ≡ y = cc in λ i. Ok (same i)

-- A result has the same value with and without the position of an error.
crossed_found : {X Y : Type 0} (view : X → Y) (r : Result X LocatedError) (found : Y) (P : Type 0)
    → (returned_by fault_of_located view r ≡ Ok found) ↔ P → (returned_at view r ≡ Ok found) ↔ P
crossed_found view (Ok x) found P both = (
  (λ is. both.0 (same_ok (view x) found is)),
  λ p. same_ok (view x) found (both.1 p),
)
crossed_found view (Err e) found P both = (
  (λ is. absurd cc),
  λ p. let is : Err (fault_of_located e) ≡ Ok found = both.1 p in absurd cc,
)

-- A statement about each error is true of the error and the position in the outcome.
crossed_err : {X Y : Type 0} (Q : FaultAt → Type 0) (view : X → Y) (r : Result X LocatedError)
    → IfErr r (λ e. Q (fault_at e)) → (e : FaultAt) → returned_at view r ≡ Err e → Q e
crossed_err Q view (Ok x) holds e is = absurd cc
crossed_err Q view (Err located) holds e is = let same : fault_at located ≡ e = cc in rw (← same) holds

-- A statement that is true if a reader succeeds is true if its outcome is `Ok`.
crossed_ok : {X Y : Type 0} (P : Type 0) (view : X → Y) (r : Result X LocatedError) → OnOk r P → OnOk (returned_at view r) P
crossed_ok P view (Ok x) holds = holds
crossed_ok P view (Err e) holds = tt

-- The number and the record of a function for C are the ones for the result of the reader.
module _ {X A : Type 0} (alone : A → Parsed) (view : X → A) (r : Result X LocatedError) (old : Contents) {new : Contents} where
  gives_ok : {x : X} → r ≡ Ok x → new ≡ record_for (alone (view x)) → Gives alone (returned_at view r) 0 old new
  gives_ok is written = rw is (refl, written)

  gives_err : {e : LocatedError} {number : ℕ} → r ≡ Err e → number ≡ number_for (fault_of_located e)
      → new ≡ record old { location = location_of (fault_of_located e); place = e.at } → Gives alone (returned_at view r) number old new
  gives_err is named written = rw is (named, written)

-- The outcome of a reader whose errors have positions.
outcome_is : {X : Type 0} (view : X → Parsed) (r : Result X LocatedError) {outcome : Result Parsed FaultAt}
    → HasOutcome fault_of_located stands_behind view r outcome → outcome ≡ returned_at view r
outcome_is view (Ok x) has = has
outcome_is view (Err e) (reason, at, there, is) = is ∙ λ i. Err (record { fault = fault_of_located e; at = sym there.1 i })

-- A statement about this outcome is a statement about what the function for C returns and writes.
module _ {X : Type 0} (view : X → Parsed) (r : Result X LocatedError) {Says : Result Parsed FaultAt → Type 0}
    (read : (outcome : Result Parsed FaultAt) × HasOutcome fault_of_located stands_behind view r outcome × Says outcome)
    (old : Contents) {new : Contents} where
  pub outcome_ok : {x : X} → r ≡ Ok x → new ≡ record_for (view x)
      → (outcome : Result Parsed FaultAt) × Says outcome × Gives (λ found. found) outcome 0 old new
  outcome_ok is written = let (outcome, has, says) = read in
      (outcome, says, rw (outcome_is view r has) (gives_ok (λ found. found) view r old is written))

  pub outcome_err : {e : LocatedError} {number : ℕ} → r ≡ Err e → number ≡ number_for (fault_of_located e)
      → new ≡ record old { location = location_of (fault_of_located e); place = e.at }
      → (outcome : Result Parsed FaultAt) × Says outcome × Gives (λ found. found) outcome number old new
  outcome_err is named written = let (outcome, has, says) = read in
      (outcome, says, rw (outcome_is view r has) (gives_err (λ found. found) view r old is named written))

-- A reader that has all code units of a text to read has this text to read.
pub same_text : {U : Type 0} (letter : ℕ → Letter) (number : U → ℕ) (units : List U) {rest : List ℕ} → rest ≡ map number units
    → map letter rest ≡ map (λ unit. letter (number unit)) units
same_text letter number units all = ap (map letter) all ∙ map-map letter number units

-- A reader had the code units of the text to read. Its contract gives the contract of the function for C.
module _ {U X A : Type 0} {letter : ℕ → Letter} (number : U → ℕ) (units : List U) {view : X → A} {part : A → Found} {reader : Reader}
    {parser after : Unread} {r : Result X LocatedError}
    (reads : ReadsPartAt letter view part reader parser r after) (rest : parser.rest ≡ map number units) where
  reads_part : ReadsPart reader part (map (λ unit. letter (number unit)) units) (returned_at view r)
  reads_part = rw (← (same_text letter number units rest)) (record {
    ok = λ found. crossed_found view r found _ (reads.ok found);
    err = crossed_err _ view r reads.err;
    no_row = crossed_ok _ view r reads.no_row;
    only = crossed_err _ view r reads.only;
    place = crossed_err _ view r reads.place;
  })

  module _ (alone : A → Parsed) (old : Contents) {new : Contents} where
    pub part_ok : {x : X} {found : Parsed} → r ≡ Ok x → found ≡ alone (view x) → new ≡ record_for found
        → GivesPart reader part alone (map (λ unit. letter (number unit)) units) 0 old new
    part_ok is stands written = (returned_at view r, reads_part, gives_ok alone view r old is (written ∙ ap record_for stands))

    pub part_err : {e : LocatedError} {count : ℕ} → r ≡ Err e → count ≡ number_for (fault_of_located e)
        → new ≡ record old { location = location_of (fault_of_located e); place = e.at }
        → GivesPart reader part alone (map (λ unit. letter (number unit)) units) count old new
    part_err is named written = (returned_at view r, reads_part, gives_err alone view r old is named written)

-- The contract of the reader of durations gives the contract of the function for C.
module _ {U : Type 0} {letter : ℕ → Letter} (number : U → ℕ) (units : List U) {given profile : Profile} {parser after : Unread}
    {r : Result DurationParseRecord LocatedError} (old : DurationContents) {new : DurationContents}
    (reads : ReadsPartAt letter (λ duration. duration) lasting (parse_duration given) parser r after)
    (no_other_reader : OnOk r (InNoOther given (parse_duration given) (map letter parser.rest)))
    (rest : parser.rest ≡ map number units) (under : given ≡ profile) where
  lasts : {count : ℕ} → GivesDuration (returned_at (λ duration. duration) r) count old new
      → GivesLasting profile (map (λ unit. letter (number unit)) units) count old new
  lasts gives = rw (← under) (
    returned_at _ r,
    reads_part number units reads rest,
    crossed_ok _ _ r (rw (same_text letter number units rest) at no_other_reader),
    gives,
  )

  pub lasts_ok : {x : DurationParseRecord} → r ≡ Ok x → new ≡ duration_for x
      → GivesLasting profile (map (λ unit. letter (number unit)) units) 0 old new
  lasts_ok is written = lasts (rw is (refl, written))

  pub lasts_err : {e : LocatedError} {count : ℕ} → r ≡ Err e → count ≡ number_for (fault_of_located e)
      → new ≡ record old { location = location_of (fault_of_located e); place = e.at }
      → GivesLasting profile (map (λ unit. letter (number unit)) units) count old new
  lasts_err is named written = lasts (rw is (named, written))
