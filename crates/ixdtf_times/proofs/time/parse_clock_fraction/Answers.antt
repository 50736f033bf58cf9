use Rattle.ixdtf_times.proofs.time.parse_clock_fraction.Goals as goal
use Rattle.ixdtf_reading.proofs.code.FixedPlaces.{reads_on}
use Rattle.ixdtf_times.proofs.code.ClockParts.{fraction_is}

pub returns-clause-fraction : goal.returns-clause-fraction
returns-clause-fraction g c =
    reads_on g.T.EncodingType.letter _ c.args.cursor.now c.args.cursor.now c.parse_fraction.new.cursor c.parse_fraction.result _ _
    (fraction_is _ _ _ _ c.stop-start.ensures c.stop-digits.ensures) c.parse_fraction.ensures.fraction
