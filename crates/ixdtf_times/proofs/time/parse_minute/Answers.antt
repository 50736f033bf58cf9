use Rattle.ixdtf_times.proofs.time.parse_minute.Goals as goal
use Rattle.std.proofs.Common.{rules}
use Rattle.ixdtf_reading.specs.reading.{Looks.error_of, Times.{minute_at, after_minute_at, second_at}}
use Rattle.ixdtf_times.specs.TimeTypes.{clock_of, open_time_of}
use Rattle.ixdtf_times.proofs.time.parse_minute.Goals.{then-colons, else-colons}
use Rattle.ixdtf_reading.proofs.code.FixedPlaces.{reads_on}

-- The second is read after its colon, or directly from its first digit on.
pub returns-after-colons-clause-time : goal.returns-after-colons-clause-time
unfolding minute_at after_minute_at
returns-after-colons-clause-time g c =
    reads_on g.T.EncodingType.letter (open_time_of c.parse_second.new.time) c.args.cursor.now c.if-colons.cursor c.parse_second.new.cursor
    c.parse_second.result (minute_at error_of (clock_of c.args.clock) c.args.colons c.args.hour)
    (second_at error_of (clock_of c.args.clock) c.args.hour c.in_ok-minute.minute)
    (elim c.if-colons.branch [
      | then-colons w ↦ search rules
      | else-colons w ↦ search rules
    ]) c.parse_second.ensures.time
