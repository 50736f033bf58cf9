-- The invariant of the loop over reads that a signal interrupts.
use Rattle.ixdtf_buffers.proofs.source.AnySource.read_some.Given as goal
use Rattle.std.proofs.Common.{◌≡◌, length}
use Rattle.std.specs.Io.KnownBytes.{Keeps}

-- Nothing was read.
abbrev pub invariant-loop : goal.invariant-loop
invariant-loop g l = Keeps (g.R.Read.remaining l.fn.self) (g.R.Read.remaining l.self) × (length l.input ≡ length l.fn.input)
