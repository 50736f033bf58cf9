use Rattle.ixdtf.proofs.parsers.texts.refuse.Goals as goal
use Rattle.std.proofs.Common.{refl}

pub returns-clause-refused : goal.returns-clause-refused
returns-clause-refused g c = (
  _,
  c.of_stop.result,
  refl,
  c.of_stop.ensures.fault,
  c.of_stop.ensures.place,
  refl,
  rw c.remaining.ensures at c.saturating_sub-at.ensures,
  c.code_of.ensures _ c.next-next.ensures.next,
)
