use Rattle.ixdtf.proofs.parsers.replies.parse_annotations.Goals as goal
use Rattle.std.proofs.Common.{◌≡◌, ◌+◌, ◌-◌, ◌*◌, [], ◌∷◌, map, length, Option, Some, None, option_map, IfSome, refl, subst, arith, rules, of_calls}
use Rattle.std.proofs.lemmas.Result.{err_from_is_err_and}
use Rattle.ixdtf_grammar.specs.Handlers.{pair_of}
use Rattle.ixdtf_reading.specs.reading.Chains.{first_pairs, reply_units}
use Rattle.ixdtf_reading.proofs.{code.Units.no_units, to_grammar.MorePairs.{next_is, next_fault}}
use Rattle.ixdtf.proofs.code.Chains.{so_far_start, so_far_first, so_far_more, read_first_refused, read_refused, read_whole, read_fault}
use Rattle.ixdtf.proofs.parsers.replies.parse_annotations.Goals.{in-Some+in_ok-keep_first_calendar, in_default}

if_some : {X : Type 0} {found : Option X} {x : X} (P : X → Type 0) → found ≡ Some x → IfSome found P → P x
if_some P is held = subst (λ found. IfSome found P) is held

-- The reply to the first annotation is refused.
pub returns-in_err-keep_first_calendar-clause-pairs : goal.returns-in_err-keep_first_calendar-clause-pairs
returns-in_err-keep_first_calendar-clause-pairs g c =
    let p = err_from_is_err_and c.from_residual.result c.from_residual.ensures.1 in
    let alone : first_pairs (option_map (pair_of g.T.EncodingType.number) c.args.first) ≡ pair_of g.T.EncodingType.number c.in-Some.annotation ∷ [] =
    search rules in
    let spent = 0 + 2 * (reply_units c.ask-reply.result - length c.in-Some.annotation.value.now) in
    let kept = c.in_err-keep_first_calendar.ensures in
    rw (p.1, p.2, kept.rest) (
      spent,
      read_first_refused _ _ _ _ _ alone refl (c.ask-reply.ensures.step, refl) _ kept.err,
      (omega (arith, kept.alone refl), kept.counted),
    )

-- Before the loop, the handler was not called, or was called with the first annotation.
pub loop-annotation-init : goal.loop-annotation-init
loop-annotation-init g c = elim c.match-first.branch [
  | in-Some+in_ok-keep_first_calendar w ↦
      let alone : first_pairs (option_map (pair_of g.T.EncodingType.number) c.args.first) ≡ pair_of g.T.EncodingType.number w.in-Some.annotation ∷ [] =
      search rules in
      let kept = w.in_ok-keep_first_calendar.ensures in
      rw (w.handler-is, w.calendar-is, w.cursor-is, kept.rest) record {
        callable = w.ask-reply.ensures.again;
        spent = 0 + 2 * (reply_units w.ask-reply.result - length w.in-Some.annotation.value.now);
        so_far = so_far_first _ _ _ _ _ alone refl (w.ask-reply.ensures.step, refl) _ kept.accepted kept.kept;
        looks = omega (arith, kept.alone refl);
        counted = kept.counted;
      }
  | in_default w ↦
      let none : first_pairs (option_map (pair_of g.T.EncodingType.number) c.args.first) ≡ [] = search rules in
      rw (w.handler-is, w.calendar-is, w.cursor-is) record {
        callable = c.requires.callable;
        spent = 0;
        so_far = so_far_start _ _ _ _ _ none;
        looks = omega arith;
        counted = omega arith;
      }
]

-- The next part of the text is not an annotation.
pub returns-in_err-annotation-clause-pairs : goal.returns-in_err-annotation-clause-pairs
returns-in_err-annotation-clause-pairs g c =
    let p = err_from_is_err_and c.from_residual-in_err-annotation.result c.from_residual-in_err-annotation.ensures.1 in
    let row = next_fault _ _ c.in_err-annotation.ensures.pair in
    let so_far = c.loop-annotation.invariant in
    rw (p.1, p.2) (
      so_far.spent,
      read_fault _ _ _ _ _ so_far.so_far row.0 _ row.1 row.2,
      (omega (arith, so_far.looks, c.in_err-annotation.ensures.looks), omega (arith, so_far.counted, c.in_err-annotation.ensures.looks)),
    )

-- A reply is refused.
pub returns-in_err-keep_first_calendar-2-clause-pairs : goal.returns-in_err-keep_first_calendar-2-clause-pairs
returns-in_err-keep_first_calendar-2-clause-pairs g c =
    let p = err_from_is_err_and c.from_residual-in_err-keep_first_calendar-2.result c.from_residual-in_err-keep_first_calendar-2.ensures.1 in
    let next = next_is (map g.T.EncodingType.letter c.loop-annotation.cursor.rest) (map g.T.EncodingType.letter c.next_annotation.new.cursor.rest)
    (Some (pair_of g.T.EncodingType.number c.in-Some-2.annotation)) (search rules) in
    let so_far = c.loop-annotation.invariant in
    let paid = if_some _ c.in-Some-2.is c.in_ok-annotation.ensures.paid in
    let kept = c.in_err-keep_first_calendar-2.ensures in
    let more = reply_units c.ask-reply-in-Some-2.result - length c.in-Some-2.annotation.value.now in
    rw (p.1, p.2, kept.rest) (
      so_far.spent + 2 * more,
      read_refused _ _ _ _ _ _ so_far.so_far next.2 next.1 (c.ask-reply-in-Some-2.ensures.step, refl) _ kept.err,
      (omega (arith, so_far.looks, paid, kept.few), omega (arith, so_far.counted, c.in_ok-annotation.ensures.looks, kept.counted)),
    )

pub loop-annotation-preserved : goal.loop-annotation-preserved
loop-annotation-preserved g c =
    let next = next_is (map g.T.EncodingType.letter c.loop-annotation.cursor.rest) (map g.T.EncodingType.letter c.next_annotation.new.cursor.rest)
    (Some (pair_of g.T.EncodingType.number c.in-Some-2.annotation)) (search rules) in
    let so_far = c.loop-annotation.invariant in
    let paid = if_some _ c.in-Some-2.is c.in_ok-annotation.ensures.paid in
    let kept = c.in_ok-keep_first_calendar-2.ensures in
    let more = reply_units c.ask-reply-in-Some-2.result - length c.in-Some-2.annotation.value.now in
    rw kept.rest record {
      callable = search of_calls;
      spent = so_far.spent + 2 * more;
      so_far = so_far_more _ _ _ _ _ _ so_far.so_far next.2 next.1 (c.ask-reply-in-Some-2.ensures.step, refl) _ kept.accepted kept.kept;
      looks = omega (arith, so_far.looks, paid, kept.few);
      counted = omega (arith, so_far.counted, c.in_ok-annotation.ensures.looks, kept.counted);
    }

-- The text ends.
pub returns-clause-pairs : goal.returns-clause-pairs
returns-clause-pairs g c =
    let next = next_is (map g.T.EncodingType.letter c.loop-annotation.cursor.rest) (map g.T.EncodingType.letter c.next_annotation.new.cursor.rest) None (search rules) in
    let so_far = c.loop-annotation.invariant in (
      so_far.spent,
      read_whole _ _ _ _ _ so_far.so_far next.0,
      (omega (arith, so_far.looks, c.in_ok-annotation.ensures.looks), omega (arith, so_far.counted, c.in_ok-annotation.ensures.looks)),
    )

pub returns-clause-empty : goal.returns-clause-empty
returns-clause-empty g c =
    let next = next_is (map g.T.EncodingType.letter c.loop-annotation.cursor.rest) (map g.T.EncodingType.letter c.next_annotation.new.cursor.rest) None (search rules) in
    no_units g.T.EncodingType.letter _ next.1
