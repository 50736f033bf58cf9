-- The digits of a fraction, consumed one by one.
use Rattle.std.proofs.Common.{◌≡◌, ℕ, ◌+◌, true, false, List, [], ◌∷◌, ◌++◌, length, map, drop, Option, Some, None, Ok, Err, refl, sym, ap, ◌∙◌, arith}
use Rattle.std.proofs.Common.{append_assoc, append-nil}
use Rattle.ixdtf_grammar.specs.language.{Letters.{Letter, Text, digit, Letter.{Plain, Bad}}, Fractions.{FractionParts, fraction_of}}
use Rattle.ixdtf_grammar.specs.declared.reason.Reason.{Reason}
use Rattle.ixdtf_reading.specs.reading.{Looks.{Placed, before, Read, ◌>>=◌, look_at, seen, digit_run}, Clauses.more_digits_at}
use Rattle.ixdtf_reading.proofs.{code.FirstLetter.{first_is, nothing_is}, parts.GrowingDigits.{Grown, fraction_grows}}

-- The digits that were read, with more digits before them.
abbrev with_front : Text → Read Placed Text → Read Placed Text
with_front front read = read >>= λ more. Ok (front ++ more.0, more.1)

with_nothing : (read : Read Placed Text) → with_front [] read ≡ read
with_nothing read = grind arith

with_both : (a b : Text) (read : Read Placed Text) → with_front a (with_front b read) ≡ with_front (a ++ b) read
with_both a b read = grind (arith, append_assoc {A = Letter})

abbrev run_of : Reason → Text → Read Placed Text
run_of stop text = digit_run (before stop) text

run_more : (stop : Reason) (c : ℕ) (rest : Text) → digit c ≡ true → run_of stop (Plain c ∷ rest) ≡ with_front (Plain c ∷ []) (run_of stop rest)
unfolding digit_run
run_more stop c rest is = rw is refl

run_other : (stop : Reason) (c : ℕ) (rest : Text) → digit c ≡ false → run_of stop (Plain c ∷ rest) ≡ Ok ([], Plain c ∷ rest)
unfolding digit_run
run_other stop c rest is = rw is refl

-- The state of the loop: digits were consumed after the first ones. `fraction` is that of all these digits, and `rest` remains.
pub record IsSoFar (stop : Reason) (front whole rest : Text) (fraction : FractionParts) : Type 0 where
  pub ds : Text
  pub read : run_of stop whole ≡ with_front ds (run_of stop rest)
  pub value : fraction ≡ fraction_of (front ++ ds)

pub begins : {stop : Reason} (front whole : Text) (fraction : FractionParts) → fraction ≡ fraction_of front → IsSoFar stop front whole whole fraction
begins {stop} front whole fraction is = record { ds = []; read = sym (with_nothing _); value = is ∙ ap fraction_of (sym (append-nil front)) }

pub goes_on : {stop : Reason} (some_stop : Reason) (front whole rest next : Text) (before after : FractionParts) (c : ℕ) → IsSoFar stop front whole rest
    before → seen some_stop rest ≡ Ok (Some c) → digit c ≡ true → next ≡ drop 1 rest → Grown before after c → IsSoFar stop front whole next after
goes_on {stop} some_stop front whole rest next before after c far e is moved grown = record {
  ds = far.ds ++ (Plain c ∷ []);
  read = far.read ∙ ap (λ t. with_front far.ds (run_of stop t)) (first_is some_stop rest c e) ∙ ap (with_front far.ds) (run_more stop c _ is)
      ∙ with_both far.ds (Plain c ∷ []) _ ∙ ap (λ t. with_front (far.ds ++ (Plain c ∷ [])) (run_of stop t)) (sym moved);
  value = fraction_grows (front ++ far.ds) before after c far.value grown ∙ ap fraction_of (append_assoc front far.ds (Plain c ∷ []));
}

abbrev in_fraction : Text → Read Placed Text → Read Placed FractionParts
in_fraction front read = read >>= λ more. Ok (fraction_of (front ++ more.0), more.1)

over : (front ds : Text) (read : Read Placed Text) → in_fraction front (with_front ds read) ≡ in_fraction (front ++ ds) read
over front ds read = grind (arith, append_assoc {A = Letter})

-- Reading on from here, with the digits before, gives the result for the complete fraction.
pub hands_on : {stop : Reason} (front whole rest : Text) (fraction : FractionParts) (far : IsSoFar stop front whole rest fraction)
    → more_digits_at stop front whole ≡ more_digits_at stop (front ++ far.ds) rest
hands_on {stop} front whole rest fraction far = ap (in_fraction front) far.read ∙ over front far.ds (run_of stop rest)

ends : {stop : Reason} (front whole rest : Text) (fraction : FractionParts) → IsSoFar stop front whole rest fraction → run_of stop rest ≡ Ok ([], rest)
    → more_digits_at stop front whole ≡ Ok (fraction, rest)
ends {stop} front whole rest fraction far over = rw (far.read, over, append-nil far.ds, far.value) refl

pub ends_at_other : {stop : Reason} (some_stop : Reason) (front whole rest : Text) (fraction : FractionParts) (c : ℕ) → IsSoFar stop front whole rest fraction
    → seen some_stop rest ≡ Ok (Some c) → digit c ≡ false → more_digits_at stop front whole ≡ Ok (fraction, rest)
ends_at_other {stop} some_stop front whole rest fraction c far e is = ends front whole rest fraction far (rw (first_is some_stop rest c e) (run_other stop c _ is))

pub ends_at_end : {stop : Reason} (some_stop : Reason) (front whole rest : Text) (fraction : FractionParts) → IsSoFar stop front whole rest fraction → seen some_stop rest ≡ Ok None
    → more_digits_at stop front whole ≡ Ok (fraction, rest)
unfolding digit_run
ends_at_end some_stop front whole rest fraction far e = ends front whole rest fraction far (rw (nothing_is some_stop rest e) refl)

pub fails : {stop : Reason} (front whole rest : Text) (fraction : FractionParts) (fault : Placed) → IsSoFar stop front whole rest fraction
    → seen stop rest ≡ Err fault → more_digits_at stop front whole ≡ Err fault
unfolding look_at digit_run
fails {stop} front whole (Bad ∷ rest) fraction fault far e = let same : (stop, Bad ∷ rest) ≡ fault = cc in rw (far.read, same) refl
fails front whole rest fraction fault far e = absurd cc

-- A look found the code unit `c`, and a step consumed it.
pub record OneTaken (stop : Reason) (letter : ℕ → Letter) (rest next : List ℕ) (c : ℕ) : Type 0 where
  pub found : seen stop (map letter rest) ≡ Ok (Some c)
  pub moved : next ≡ drop 1 rest
  pub left : map letter next ≡ drop 1 (map letter rest)
  pub shorter : length next + 1 ≡ length rest

-- As above, in the words of the code: what the look found, and what remains after the look and after the step.
pub one_taken : {stop : Reason} {letter : ℕ → Letter} {rest looked next : List ℕ} {saw : Option ℕ} {c : ℕ}
    → seen stop (map letter rest) ≡ Ok saw → saw ≡ Some c → looked ≡ rest → next ≡ drop 1 looked → OneTaken stop letter rest next c
unfolding look_at
one_taken {stop} {letter} {rest} {looked} {next} {saw} {c} sees is stays steps =
    let found : seen stop (map letter rest) ≡ Ok (Some c) = cc in
    let moved : next ≡ drop 1 rest = steps ∙ ap (λ t. drop 1 t) stays in
    from_units rest found moved
  where
    from_units : (rest : List ℕ) → seen stop (map letter rest) ≡ Ok (Some c) → next ≡ drop 1 rest → OneTaken stop letter rest next c
    from_units [] found moved = absurd cc
    from_units (u ∷ us) found moved = record { found = found; moved = moved; left = ap (map letter) moved; shorter = omega (arith, ap (λ t. length t) moved) }
