-- The invariant of the loop over writes that a signal interrupts.
use Rattle.ixdtf_buffers.proofs.sink.AnySink.write_some.Given as goal
use Rattle.std.specs.Io.KnownBytes.{Keeps}

-- Nothing was written.
abbrev pub invariant-loop : goal.invariant-loop
invariant-loop g l = Keeps (g.W.Write.contents l.fn.self) (g.W.Write.contents l.self)
