use Rattle.ixdtf_reading.proofs.annotations.parse_annotation_value.Goals as goal
use Rattle.std.proofs.{Common.{◌≡◌, ◌∙◌, false, true, IsSome, drop, refl, sym, ap, subst, arith, rules}, lemmas.Result.err_from_is_err_and}
use Rattle.ixdtf_grammar.specs.language.Letters.{closing, hyphen}
use Rattle.ixdtf_reading.specs.reading.{Looks.error_of, Pairs.{AtStart, AfterHyphen, value_run}}
use Rattle.ixdtf_reading.proofs.code.{FirstBytes.one_behind, LetterLoops.front_before, PairLoops.{value_unstarted, value_begins, value_fails_behind, value_starts_behind, component_fails}}
use Rattle.ixdtf_reading.proofs.code.PairLoops.{component_last, component_closed, component_joined, component_refused}

-- No component begins.
pub returns-in_err-start_component-clause-value : goal.returns-in_err-start_component-clause-value
returns-in_err-start_component-clause-value g c =
    let p = err_from_is_err_and c.from_residual.result c.from_residual.ensures.1 in
    rw (p.1, p.2) (value_unstarted AtStart _ refl (λ c. refl) _ _ c.in_err-start_component.ensures.letter)

pub loop-next-init : goal.loop-next-init
loop-next-init g c = record {
  start = c.rest_behind-start.ensures;
  far = value_starts_behind g.T.EncodingType.letter g.met.T.EncodingType.faithful _ _ AtStart (value_begins _ _) _ _ c.in_ok-start_component.ensures.letter
      c.in_ok-start_component.ensures.rest;
  looks = omega (arith, c.in_ok-start_component.ensures.looks, c.in_ok-start_component.ensures.shorter);
  counted = omega (arith, c.in_ok-start_component.ensures.looks);
  shorter = c.in_ok-start_component.ensures.shorter;
}

pub returns-in_err-next-clause-value : goal.returns-in_err-next-clause-value
returns-in_err-next-clause-value g c =
    let p = err_from_is_err_and c.from_residual-in_err-next.result c.from_residual-in_err-next.ensures.1 in
    let whole = ap (value_run error_of AtStart) (one_behind g.T.EncodingType.letter c.args.cursor.now.rest) in
    rw (p.1, p.2) (whole ∙ component_fails g.T.EncodingType.letter g.met.T.EncodingType.faithful _ _ c.loop-next.invariant.far _ _ c.in_err-next.ensures.letters)

pub returns-in-None-clause-value : goal.returns-in-None-clause-value
returns-in-None-clause-value g c =
    let passed = c.in_ok-next.ensures.letters in
    let whole = ap (value_run error_of AtStart) (one_behind g.T.EncodingType.letter c.args.cursor.now.rest) in
    rw c.stopped.ensures (whole ∙ component_last g.T.EncodingType.letter g.met.T.EncodingType.faithful _ _ c.loop-next.invariant.far _ _ _ passed.2 passed.1 c.in-None.is)

pub returns-in-Some-clause-value : goal.returns-in-Some-clause-value
returns-in-Some-clause-value g c =
    let passed = c.in_ok-next.ensures.letters in
    let closes : closing c.in-Some.byte ≡ true = search rules in
    let closed = component_closed g.T.EncodingType.letter g.met.T.EncodingType.faithful _ _ c.loop-next.invariant.far _ _ _ passed.2 passed.1 _ c.in-Some.is closes in
    let front = front_before g.T.EncodingType.number c.rest_behind-start.result.now _ closed.0 c.pass_letters.new.cursor.rest _ c.loop-next.invariant.start
    closed.1 c.remaining.ensures in
    let whole = ap (value_run error_of AtStart) (one_behind g.T.EncodingType.letter c.args.cursor.now.rest) in
    rw (c.saturating_sub.ensures, front, c.advance.ensures.letters) (whole ∙ closed.2)

pub returns-in-Some-3-clause-value : goal.returns-in-Some-3-clause-value
returns-in-Some-3-clause-value g c =
    let passed = c.in_ok-next.ensures.letters in
    let shut : closing c.in-Some-3.field-0 ≡ false = search rules in
    let dash : hyphen c.in-Some-3.field-0 ≡ false = search rules in
    let whole = ap (value_run error_of AtStart) (one_behind g.T.EncodingType.letter c.args.cursor.now.rest) in
    rw c.stopped-in-Some-3.ensures
    (whole ∙ component_refused g.T.EncodingType.letter g.met.T.EncodingType.faithful _ _ c.loop-next.invariant.far _ _ _ passed.2 passed.1 _ c.in-Some-3.is shut dash)

-- No component begins after a hyphen.
pub returns-in_err-start_component-2-clause-value : goal.returns-in_err-start_component-2-clause-value
returns-in_err-start_component-2-clause-value g c =
    let p = err_from_is_err_and c.from_residual-in_err-start_component-2.result c.from_residual-in_err-start_component-2.ensures.1 in
    let passed = c.in_ok-next.ensures.letters in
    let dash : hyphen c.in-Some-2.byte ≡ true = search rules in
    let far = component_joined g.T.EncodingType.letter g.met.T.EncodingType.faithful _ _ c.loop-next.invariant.far _ _ _ passed.2 passed.1 _ _ c.in-Some-2.is dash refl in
    let whole = ap (value_run error_of AtStart) (one_behind g.T.EncodingType.letter c.args.cursor.now.rest) in
    rw (p.1, p.2) (whole ∙ value_fails_behind g.T.EncodingType.letter g.met.T.EncodingType.faithful _ _ AfterHyphen far _
    (value_unstarted AfterHyphen _ refl (λ c. refl) _ _ c.in_err-start_component-2.ensures.letter))

pub loop-next-preserved : goal.loop-next-preserved
loop-next-preserved g c =
    let passed = c.in_ok-next.ensures.letters in
    let dash : hyphen c.in-Some-2.byte ≡ true = search rules in
    let far = component_joined g.T.EncodingType.letter g.met.T.EncodingType.faithful _ _ c.loop-next.invariant.far _ _ _ passed.2 passed.1 _ _ c.in-Some-2.is dash refl in
    let counts = c.loop-next.invariant in
    let walked = c.in_ok-next.ensures in
    let begun = c.in_ok-start_component-2.ensures in
    record {
      start = c.loop-next.invariant.start;
      far = value_starts_behind g.T.EncodingType.letter g.met.T.EncodingType.faithful _ _ AfterHyphen far _ _ c.in_ok-start_component-2.ensures.letter
          c.in_ok-start_component-2.ensures.rest;
      looks = omega (arith, counts.looks, walked.looks, begun.looks, begun.shorter);
      counted = omega (arith, counts.counted, walked.looks, begun.looks);
      shorter = omega (arith, counts.shorter, walked.shorter, begun.shorter);
    }
