use Rattle.ixdtf_times.proofs.rfc3339.first_stop.Goals as goal
use Rattle.std.proofs.Common.{map}
use Rattle.ixdtf_reading.specs.reading.DateTimes.{open_end}
use Rattle.ixdtf_times.proofs.code.ThroughSecond.{date_time_errs}

-- The error of the beginning is the error of the date-time.
pub returns-in-Err-clause-stop : goal.returns-in-Err-clause-stop
returns-in-Err-clause-stop g c =
    date_time_errs open_end _ (map g.T.EncodingType.letter c.args.cursor.now.rest) c.in-Err.ensures.date_time
