use Rattle.ixdtf_print.proofs.wide.put_wide.Given as goal
use Rattle.std.proofs.Common.{map, take}
use Rattle.ixdtf.specs.language.Letters.{Letter.Plain}
use Rattle.ixdtf_print.specs.Prints.{Prints}

-- The bytes so far are written.
abbrev pub invariant-loop-byte : goal.invariant-loop-byte
invariant-loop-byte l = Prints l.initial.out l.out l.at l.place (map Plain (take l.byte-index l.bytes))
