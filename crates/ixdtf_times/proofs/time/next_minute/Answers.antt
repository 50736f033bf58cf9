use Rattle.ixdtf_times.proofs.time.next_minute.Goals as goal
use Rattle.ixdtf_reading.proofs.code.FixedPlaces.{reads_on}
use Rattle.ixdtf_times.proofs.code.ClockParts.{minute_is}

pub returns-clause-minute : goal.returns-clause-minute
returns-clause-minute g c =
    reads_on g.T.EncodingType.letter _ c.args.cursor.now c.args.cursor.now c.next_number.new.cursor c.next_number.result _ _
    (minute_is _ _ _ _ c.stop-digits.ensures c.stop-past.ensures) c.next_number.ensures.number
