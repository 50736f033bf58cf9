use Rattle.ixdtf_c.proofs.report_marks.add_repeated.Goals as goal
use Rattle.ixdtf_c.proofs.Added.{once_more}

pub loop-preserved : goal.loop-preserved
loop-preserved c = once_more c.args.byte c.loop.counter c.loop.invariant c.add-end.ensures
