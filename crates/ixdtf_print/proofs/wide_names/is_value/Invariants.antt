use Rattle.ixdtf_print.proofs.wide_names.is_value.Given as goal
use Rattle.std.proofs.Common.{◌≡◌, false}
use Rattle.ixdtf_print.proofs.code.ValueLoop.{from_place}

-- The code units that are left continue a value if and only if all code units are a value.
abbrev pub invariant-loop-unit : goal.invariant-loop-unit
invariant-loop-unit l = from_place false l.units 0 ≡ from_place l.in_run l.units l.unit-index
