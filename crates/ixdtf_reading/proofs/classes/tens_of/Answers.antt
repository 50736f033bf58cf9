use Rattle.ixdtf_reading.proofs.classes.tens_of.Goals as goal
use Rattle.std.proofs.Common.{refl, arith}
use Rattle.ixdtf_reading.specs.reading.FixedPlaces.{tens_value}
use Rattle.ixdtf_reading.proofs.code.Tables.{agree_below, listed_from, in_table, tens_small}

pub returns-clause-value : goal.returns-clause-value
unfolding agree_below listed_from
returns-clause-value c = in_table tens_value refl c.args.byte (omega arith)

pub returns-clause-small : goal.returns-clause-small
unfolding agree_below listed_from
returns-clause-small c = rw (in_table tens_value refl c.args.byte (omega arith)) (tens_small c.args.byte)
