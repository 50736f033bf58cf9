use Rattle.ixdtf_print.proofs.wide.put_units.Given as goal
use Rattle.std.proofs.Common.{map, take}
use Rattle.ixdtf.specs.language.Letters.{Letter.Plain}
use Rattle.ixdtf_print.specs.Prints.{Prints}

-- The code units so far are written.
abbrev pub invariant-loop-unit : goal.invariant-loop-unit
invariant-loop-unit l = Prints l.initial.out l.out l.at l.place (map Plain (take l.unit-index l.units))
