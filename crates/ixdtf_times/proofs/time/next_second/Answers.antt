use Rattle.ixdtf_times.proofs.time.next_second.Goals as goal
use Rattle.ixdtf_reading.proofs.code.FixedPlaces.{reads_on}
use Rattle.ixdtf_times.proofs.code.ClockParts.{second_is}

pub returns-clause-second : goal.returns-clause-second
returns-clause-second g c =
    reads_on g.T.EncodingType.letter _ c.args.cursor.now c.args.cursor.now c.next_number.new.cursor c.next_number.result _ _
    (second_is _ _ _ _ _ c.greatest_second.ensures c.stop-digits.ensures c.stop-past.ensures) c.next_number.ensures.number
