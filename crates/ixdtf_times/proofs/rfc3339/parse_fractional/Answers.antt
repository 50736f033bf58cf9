use Rattle.ixdtf_times.proofs.rfc3339.parse_fractional.Goals as goal
use Rattle.ixdtf_times.proofs.rfc3339.parse_fractional.Goals.{then-is_ascii_sign, else-is_ascii_sign}
use Rattle.std.proofs.Common.{rules, refl}
use Rattle.ixdtf_reading.specs.reading.DateTimes.{date_time_line_readings}

-- The time was written before the offset is read.
pub returns-in-Some-clause-rest : goal.returns-in-Some-clause-rest
unfolding date_time_line_readings
returns-in-Some-clause-rest g c date has =
    let rest = c.parse_numeric_offset.ensures.offset date c.with_fraction.result has refl in
    elim c.if-is_ascii_sign.branch [
      | then-is_ascii_sign w ↦ search (rules, rest, w)
      | else-is_ascii_sign w ↦ search (rules, rest, w)
    ]
