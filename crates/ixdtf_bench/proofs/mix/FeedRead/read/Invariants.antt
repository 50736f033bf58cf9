use Rattle.std.proofs.Common.{◌≤◌, length}
use Rattle.ixdtf_bench.proofs.mix.FeedRead.read.Given as goal

abbrev pub invariant-texts : goal.invariant-texts
invariant-texts l = l.count ≤ length l.buf
