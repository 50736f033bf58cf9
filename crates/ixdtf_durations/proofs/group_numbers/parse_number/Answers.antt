use Rattle.ixdtf_durations.proofs.group_numbers.parse_number.Goals as goal
use Rattle.std.proofs.{Common.{◌≡◌, map, None, Ok, true, false, refl, ◌∙◌, arith, rules}, lemmas.{Result.err_from_is_err_and, Bool.Decides.nat_tests}}
use Rattle.ixdtf_grammar.specs.language.{Letters.digit, Durations.greatest_value}
use Rattle.ixdtf_reading.specs.reading.Looks.{seen}
use Rattle.ixdtf_reading.proofs.code.FractionLoop.{one_taken}
use Rattle.ixdtf_durations.proofs.code.{DurationNumbers.{begins, goes_on, passes, ends, breaks}, DurationSteps.letter_stays}

pub loop-byte-init : goal.loop-byte-init
unfolding greatest_value
loop-byte-init g c = record {
  far = begins _ _ _ (search rules);
  small = grind (arith, nat_tests);
  looks = omega arith;
  counted = omega arith;
}

-- The look failed: the next code unit is bad.
pub returns-in_err-byte-clause-number : goal.returns-in_err-byte-clause-number
returns-in_err-byte-clause-number g c =
    let p = err_from_is_err_and c.from_residual.result c.from_residual.ensures.1 in
    rw (p.1, p.2, c.in_err-byte.ensures.rest) (λ profile context at past. breaks _ _ _ _ c.loop-byte.invariant.far _ c.in_err-byte.ensures.letter profile context at)

-- The code unit is not a digit.
pub returns-then-not-is_ascii_digit-clause-number : goal.returns-then-not-is_ascii_digit-clause-number
returns-then-not-is_ascii_digit-clause-number g c =
    let stays = letter_stays {letter = g.T.EncodingType.letter} c.in_ok-byte.ensures.letter c.in-Some.is c.in_ok-byte.ensures.rest in
    let other : digit c.in-Some.byte ≡ false = search rules in
    let far = c.loop-byte.invariant.far in
    record { ds = far.ds; value = far.number; next = stays.here; other = other; leads = λ profile context. far.leads profile context ∙ rw stays.left refl }

pub returns-then-not-is_ascii_digit-clause-more : goal.returns-then-not-is_ascii_digit-clause-more
returns-then-not-is_ascii_digit-clause-more g c =
    let stays = letter_stays {letter = g.T.EncodingType.letter} c.in_ok-byte.ensures.letter c.in-Some.is c.in_ok-byte.ensures.rest in
    stays.more

pub returns-then-not-is_ascii_digit-clause-small : goal.returns-then-not-is_ascii_digit-clause-small
returns-then-not-is_ascii_digit-clause-small g c = c.loop-byte.invariant.small

-- The number becomes 2^64 or more.
pub returns-in_err-value-clause-number : goal.returns-in_err-value-clause-number
returns-in_err-value-clause-number g c =
    let p = err_from_is_err_and c.from_residual-in_err-value.result c.from_residual-in_err-value.ensures.1 in
    let off = one_taken {letter = g.T.EncodingType.letter} c.in_ok-byte.ensures.letter c.in-Some.is c.in_ok-byte.ensures.rest c.advance.ensures.rest in
    let is : digit c.in-Some.byte ≡ true = search rules in
    rw (p.1, p.2, c.in_err-value.ensures.0)
    (λ profile context at past. passes _ _ _ _ c.loop-byte.invariant.far _ _ off.found is _ _ off.left c.in_err-value.ensures.1 profile context past)

pub loop-byte-smaller : goal.loop-byte-smaller
loop-byte-smaller g c =
    let off = one_taken {letter = g.T.EncodingType.letter} c.in_ok-byte.ensures.letter c.in-Some.is c.in_ok-byte.ensures.rest c.advance.ensures.rest in
    omega arith

pub loop-byte-preserved : goal.loop-byte-preserved
loop-byte-preserved g c =
    let off = one_taken {letter = g.T.EncodingType.letter} c.in_ok-byte.ensures.letter c.in-Some.is c.in_ok-byte.ensures.rest c.advance.ensures.rest in
    record {
      far = goes_on _ _ _ _ c.loop-byte.invariant.far _ _ off.found (search rules) _ _ off.left c.in_ok-value.ensures.0 c.in_ok-value.ensures.1;
      small = rw c.in_ok-value.ensures.0 c.in_ok-value.ensures.1;
      looks = omega (arith, c.loop-byte.invariant.looks);
      counted = omega (arith, c.loop-byte.invariant.counted, c.in_ok-byte.ensures.looks, c.advance.ensures.looks);
    }

-- The text ends.
pub returns-clause-number : goal.returns-clause-number
returns-clause-number g c profile context at past =
    let over : seen c.args.digits (map g.T.EncodingType.letter c.loop-byte.cursor.rest) ≡ Ok None = search rules in
    ends _ _ _ _ c.loop-byte.invariant.far _ over profile context ∙ rw (at, c.in_ok-byte.ensures.rest) refl
