use Rattle.ixdtf_c.proofs.report_marks.add_repeated.Given as goal
use Rattle.std.proofs.Common.{replicate}
use Rattle.ixdtf_c.specs.Adding.{Adds}

-- For each turn of the loop so far, one byte is added.
abbrev pub invariant-loop : goal.invariant-loop
invariant-loop l = Adds l.initial.out l.out l.at l.end (replicate l.counter l.byte)
