use Rattle.ixdtf_reading.proofs.classes.ones_of.Goals as goal
use Rattle.std.proofs.Common.{refl, arith}
use Rattle.ixdtf_reading.specs.reading.FixedPlaces.{ones_value}
use Rattle.ixdtf_reading.proofs.code.Tables.{agree_below, listed_from, in_table, ones_small}

pub returns-clause-value : goal.returns-clause-value
unfolding agree_below listed_from
returns-clause-value c = in_table ones_value refl c.args.byte (omega arith)

pub returns-clause-small : goal.returns-clause-small
unfolding agree_below listed_from
returns-clause-small c = rw (in_table ones_value refl c.args.byte (omega arith)) (ones_small c.args.byte)
