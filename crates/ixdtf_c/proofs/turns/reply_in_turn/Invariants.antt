use Rattle.ixdtf_c.proofs.turns.reply_in_turn.Given as goal
use Rattle.std.proofs.Common.{map, take}
use Rattle.ixdtf_c.specs.Narrow.{annotation_by, calendar_by}
use Rattle.ixdtf_c.proofs.Handing.{SoFar}

abbrev pub invariant-loop-annotation : goal.invariant-loop-annotation
invariant-loop-annotation g l = record {
  callable : goal.F-IsAlwaysCallable g l.handler;
  so_far : SoFar (λ unit. unit) (goal.F-step g) l.fn.handler l.handler (map annotation_by (take l.annotation-index l.annotations)) (calendar_by l.calendar);
}
