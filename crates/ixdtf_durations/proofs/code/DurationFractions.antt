-- The fraction of a group, and the code unit after it.
use Rattle.ixdtf_grammar.specs.declared.reason.Reason.TheVariants as reasons
use Rattle.std.proofs.Common.{◌≡◌, ℕ, Bool, true, false, [], ◌∷◌, ◌++◌, List, drop, Option, Some, None, Result, Ok, Err, refl, sym, ap, ◌∙◌, append_assoc, append-nil}
use Rattle.ixdtf_grammar.specs.declared.{profile.Profile.Profile, records.{Sign.Sign, DurationParseRecord.DurationParseRecord}}
use Rattle.ixdtf_grammar.specs.language.{Letters.{Text, digit, Letter.{Plain, Bad}}, Digits.decimal, Fractions.{FractionParts, fraction_of}}
use Rattle.ixdtf_grammar.specs.language.Durations.{Group, designator, unit_of, Half.time}
use Rattle.ixdtf_reading.specs.{reading.{Looks.{Placed, before, Read, ◌>>=◌, look_at, seen, next_by, digit_run}, Clauses.fraction_by}}
use Rattle.ixdtf_reading.specs.reading.Durations.{step, run, fraction_group, State.{at_mark, in_fraction}}
use Rattle.ixdtf_reading.proofs.code.FirstLetter.{first_is, nothing_is}
use Rattle.ixdtf_durations.specs.reading.DurationClauses.{run_from, time_group_of, after_time_group}
use Rattle.ixdtf_durations.proofs.code.{DurationSteps.fails, DurationLetters.end_step}

ok_is : {A : Type 0} (x y : A × Text) → ◌≡◌ {A = Read Placed A} (Ok x) (Ok y) → x ≡ y
ok_is x y e = cc

abbrev digits_of : Text → Read Placed Text
digits_of text = digit_run (before reasons.GroupFractionDigits) text

module _ (profile : Profile) (s : Sign) (dates times : List Group) (ds : Text) where
  -- Reads on after more digits of a fraction. `fs` has the digits before them.
  abbrev after_digits : Text → Read Placed Text → Read Placed DurationParseRecord
  after_digits fs read = read >>= λ more. run_from profile (in_fraction s dates times ds (fs ++ more.0)) more.1

  one_more : (fs : Text) (c : ℕ) (read : Read Placed Text)
      → after_digits (fs ++ (Plain c ∷ [])) read ≡ after_digits fs (read >>= λ more. Ok (Plain c ∷ more.0, more.1))
  one_more fs c (Ok more) = ap (λ t. run_from profile (in_fraction s dates times ds t) more.1) (append_assoc fs (Plain c ∷ []) more.0)
  one_more fs c (Err e) = refl

  over_digits : (fs text : Text) → run_from profile (in_fraction s dates times ds fs) text ≡ after_digits fs (digits_of text)
  unfolding run step digit_run
  over_digits fs [] = refl
  over_digits fs (Bad ∷ rest) = refl
  over_digits fs (Plain c ∷ rest) = go (digit c) refl (over_digits (fs ++ (Plain c ∷ [])) rest)
    where
      go : (b : Bool) → digit c ≡ b → run_from profile (in_fraction s dates times ds (fs ++ (Plain c ∷ []))) rest
          ≡ after_digits (fs ++ (Plain c ∷ [])) (digits_of rest)
          → run_from profile (in_fraction s dates times ds fs) (Plain c ∷ rest) ≡ after_digits fs (digits_of (Plain c ∷ rest))
      go true is over = rw is (over ∙ one_more fs c (digits_of rest))
      go false is over =
          let stop : digits_of (Plain c ∷ rest) ≡ Ok ([], Plain c ∷ rest) = rw is refl in
          ap (λ t. run_from profile (in_fraction s dates times ds t) (Plain c ∷ rest)) (sym (append-nil fs)) ∙ ap (after_digits fs) (sym stop)

-- The fraction of a group.
abbrev pub group_fraction : Text → Read Placed FractionParts
group_fraction text = fraction_by reasons.GroupFractionStart reasons.GroupFractionDigits text

-- The code unit after the digits of a fraction.
abbrev seen_behind : Text → Result (Option ℕ) Placed
seen_behind text = seen reasons.GroupFractionDigits text

-- The next code unit is not a digit.
abbrev NoDigitNext : Text → Type 0
NoDigitNext text = (c : ℕ) → seen_behind text ≡ Ok (Some c) → digit c ≡ false

digits_end : (text more rest : Text) → digits_of text ≡ Ok (more, rest) → NoDigitNext rest
unfolding digit_run look_at
digits_end [] more rest is = let none : [] ≡ rest = ap (λ p. p.1) (ok_is ([], []) (more, rest) is) in rw (← none) (λ c found. absurd cc)
digits_end (Bad ∷ text) more rest is = absurd cc
digits_end (Plain d ∷ text) more rest is = go (digit d) refl _ refl (λ more' left. digits_end text more' left)
  where
    go : (b : Bool) → digit d ≡ b → (read : Read Placed Text) → digits_of text ≡ read
        → ((more' left : Text) → digits_of text ≡ Ok (more', left) → NoDigitNext left) → NoDigitNext rest
    go true e (Ok x) reads ends = let same : x.1 ≡ rest = ap (λ p. p.1) (ok_is (Plain d ∷ x.0, x.1) (more, rest) (rw (e, reads) at is)) in
        rw (← same) (ends x.0 x.1 reads)
    go true e (Err x) reads ends = absurd (let never = rw (e, reads) at is in cc)
    go false e x reads ends = λ c found. let here : Plain d ∷ text ≡ rest = ap (λ p. p.1) (ok_is ([], Plain d ∷ text) (more, rest) (rw e at is)) in
        let first = rw (← here) at found in let same : d ≡ c = cc in rw (← same) e

-- After a decimal mark, reading goes over the digits of this fraction.
pub record IsFractionOver (text : Text) (fraction : FractionParts) (rest : Text) : Type 0 where
  pub fs : Text
  pub is : fraction ≡ fraction_of fs
  pub no_digit : NoDigitNext rest
  pub leads : (profile : Profile) (s : Sign) (dates times : List Group) (ds : Text)
      → run_from profile (at_mark s dates times ds) text ≡ run_from profile (in_fraction s dates times ds fs) rest

-- The fraction of a first digit and of the digits after it.
abbrev with_first : ℕ → Read Placed Text → Read Placed FractionParts
with_first c read = read >>= λ more. Ok (fraction_of (Plain c ∷ more.0), more.1)

first_over : (c : ℕ) (rest : Text) (read : Read Placed Text) → digits_of rest ≡ read → digit c ≡ true → (fraction : FractionParts) (left : Text)
    → with_first c read ≡ Ok (fraction, left) → IsFractionOver (Plain c ∷ rest) fraction left
unfolding run step
first_over c rest (Err e) reads is fraction left at = absurd cc
first_over c rest (Ok more) reads is fraction left at =
    let both : ◌≡◌ {A = FractionParts × Text} (fraction_of (Plain c ∷ more.0), more.1) (fraction, left) =
    ok_is (fraction_of (Plain c ∷ more.0), more.1) (fraction, left) at in
    let same : more.1 ≡ left = ap (λ p. p.1) both in
    record {
      fs = Plain c ∷ more.0;
      is = sym (ap (λ p. p.0) both);
      no_digit = rw (← same) (digits_end rest more.0 more.1 reads);
      leads = λ profile s dates times ds. rw (is, over_digits profile s dates times ds _ rest, reads, same) refl;
    }

-- A fraction was read.
pub fraction_over : (text : Text) (fraction : FractionParts) (rest : Text) → group_fraction text ≡ Ok (fraction, rest)
    → IsFractionOver text fraction rest
unfolding fraction_by next_by look_at
fraction_over [] fraction rest at = absurd cc
fraction_over (Bad ∷ text) fraction rest at = absurd cc
fraction_over (Plain c ∷ text) fraction rest at = go (digit c) refl
  where
    go : (b : Bool) → digit c ≡ b → IsFractionOver (Plain c ∷ text) fraction rest
    go true is = first_over c text _ refl is fraction rest (rw is at at)
    go false is = absurd (let never = rw is at at in cc)

-- Reading a fraction failed.
pub fraction_fails : (text : Text) (fault : Placed) → group_fraction text ≡ Err fault
    → (profile : Profile) (s : Sign) (dates times : List Group) (ds : Text) → run_from profile (at_mark s dates times ds) text ≡ Err fault
unfolding fraction_by next_by look_at run step
fraction_fails [] fault at profile s dates times ds = let same : (reasons.GroupFractionStart, []) ≡ fault = cc in rw same refl
fraction_fails (Bad ∷ text) fault at profile s dates times ds = let same : (reasons.GroupFractionStart, Bad ∷ text) ≡ fault = cc in rw same refl
fraction_fails (Plain c ∷ text) fault at profile s dates times ds = go (digit c) refl
  where
    digits_fail : (read : Read Placed Text) → with_first c read ≡ Err fault → after_digits profile s dates times ds (Plain c ∷ []) read ≡ Err fault
    digits_fail (Ok more) is = absurd cc
    digits_fail (Err e) is = let same : e ≡ fault = cc in rw same refl

    go : (b : Bool) → digit c ≡ b → run_from profile (at_mark s dates times ds) (Plain c ∷ text) ≡ Err fault
    go true is = rw (is, over_digits profile s dates times ds _ text) (digits_fail (digits_of text) (rw is at at))
    go false is = let same : (reasons.GroupFractionStart, Plain c ∷ text) ≡ fault = cc (rw is at at) in rw (is, same) refl

-- ---- the code unit after a fraction

module _ (text : Text) (fraction : FractionParts) (rest : Text) (over : IsFractionOver text fraction rest) (profile : Profile) (s : Sign)
    (dates times : List Group) (ds : Text) where
  -- The result of reading from the decimal mark on.
  abbrev from_mark : Read Placed DurationParseRecord
  from_mark = run_from profile (at_mark s dates times ds) text

  pub no_letter : seen_behind rest ≡ Ok None → from_mark ≡ Err (reasons.GroupFractionDigits, rest)
  unfolding run
  no_letter none = over.leads profile s dates times ds ∙ rw (nothing_is _ rest none) refl

  pub breaks : (fault : Placed) → seen_behind rest ≡ Err fault → from_mark ≡ Err fault
  breaks fault bad = over.leads profile s dates times ds ∙ fails _ _ rest fault bad

  module _ (c : ℕ) (found : seen_behind rest ≡ Ok (Some c)) where
    group_is : (value : ℕ) → value ≡ decimal ds
        → ◌≡◌ {A = Group} (fraction_group ds over.fs c) (time_group_of (record { value = value; fraction = Some fraction; letter = c }))
    group_is value number i = record { unit = unit_of time c; value = sym number i; fraction = Some (sym over.is i) }

    pub ends_group : (value : ℕ) (new : Text) → value ≡ decimal ds → new ≡ rest
        → from_mark ≡ after_time_group profile s dates times (record { value = value; fraction = Some fraction; letter = c }) new
    unfolding run step
    ends_group value new number moved = over.leads profile s dates times ds ∙ go (designator time c) refl
      where
        go : (b : Bool) → designator time c ≡ b → run_from profile (in_fraction s dates times ds over.fs) rest
            ≡ after_time_group profile s dates times (record { value = value; fraction = Some fraction; letter = c }) new
        go true is = rw (moved, first_is _ rest c found, over.no_digit c found, is) (end_step profile s dates times _ _ (drop 1 rest) (group_is value number))
        go false is = rw (moved, first_is _ rest c found, over.no_digit c found, is) refl
