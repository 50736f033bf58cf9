-- The handler is called for one more annotation.
use Rattle.ixdtf_c.proofs.turns.reply_in_turn.Goals as goal
use Rattle.std.proofs.Common.{map, drop, ◌+◌}
use Rattle.ixdtf_c.specs.Narrow.{annotation_by}
use Rattle.ixdtf_c.proofs.Handing.{taken_more, taken_split, so_far_none, so_far_more, refused_in_turn}

pub loop-annotation-init : goal.loop-annotation-init
loop-annotation-init g c = record { callable = c.requires.callable; so_far = so_far_none _ _ _ _ c.requires.none }

pub loop-annotation-preserved : goal.loop-annotation-preserved
loop-annotation-preserved g c = record {
  callable = c.ask.ensures.again;
  so_far = so_far_more _ _ _ c.loop-annotation.invariant.so_far c.ask.ensures.step _ c.hand_over-number.ensures c.if-number-ne0.false
      (taken_more annotation_by c.args.annotations.now c.loop-annotation.annotation-index _ c.loop-annotation-test.true);
}

pub returns-then-number-ne0 : goal.returns-then-number-ne0
returns-then-number-ne0 g c =
    refused_in_turn _ _ _ c.loop-annotation.invariant.so_far c.ask.ensures.step _
    (map annotation_by (drop (c.loop-annotation.annotation-index + 1) c.args.annotations.now))
    c.hand_over-number.ensures c.if-number-ne0.true
    (taken_split annotation_by c.args.annotations.now c.loop-annotation.annotation-index _ c.loop-annotation-test.true)
