use Rattle.ixdtf_explanations.proofs.pointed.write_marks.Given as goal
use Rattle.std.proofs.Common.{replicate}
use Rattle.std.specs.Fmt.{IsFlush, HasWrittenStyled}

-- For each turn of the loop so far, one mark is written.
abbrev pub invariant-loop : goal.invariant-loop
invariant-loop g l =
    IsFlush l.initial.f → HasWrittenStyled g.W.Write.write_str_gives l.initial.f (replicate l.counter 94) l.f
