use Rattle.ixdtf_times.proofs.rfc3339.parse_after_seconds.Goals as goal
use Rattle.std.proofs.Common.{rules, refl}
use Rattle.ixdtf_reading.specs.reading.DateTimes.{date_time_line_readings}

-- The date and the time were written before the offset is read.
pub returns-in-Some-2-clause-rest : goal.returns-in-Some-2-clause-rest
unfolding date_time_line_readings
returns-in-Some-2-clause-rest g c =
    let rest = c.parse_numeric_offset.ensures.offset c.args.date c.with_fraction.result refl refl in
    search (rules, rest)
