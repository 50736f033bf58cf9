-- One iteration of the loop reads one byte.
use Rattle.ixdtf_checks.proofs.marked_text.characters_in.Given as goal
use Rattle.std.proofs.Common.{◌≡◌, take}
use Rattle.ixdtf_checks.specs.Pointed.{starts}

-- `count` characters begin in the bytes so far.
abbrev pub invariant-loop-byte : goal.invariant-loop-byte
invariant-loop-byte l = l.count ≡ starts (take l.byte-index l.bytes)
