use Rattle.ixdtf_times.proofs.time.parse_clock_from.Goals as goal
use Rattle.std.proofs.{Common.{true, false, refl, rules}, lemmas.Result.err_from_is_err_and}
use Rattle.ixdtf_reading.specs.reading.{Looks.error_of, Clauses.clock_by, Times.{minute_at, after_hour_at}}
use Rattle.ixdtf_times.specs.TimeTypes.{clock_of, open_time_of}
use Rattle.ixdtf_reading.proofs.code.FixedPlaces.{reads_on}
use Rattle.ixdtf_times.proofs.time.parse_clock_from.Goals.{in_default-via-in-Some-2+else-is_ascii_digit, in_default-via-in_default}

-- The minute is read after a colon.
pub returns-in-Some-clause-time : goal.returns-in-Some-clause-time
unfolding clock_by after_hour_at
returns-in-Some-clause-time g c =
    reads_on g.T.EncodingType.letter (open_time_of c.parse_minute.new.time) c.args.cursor.now c.advance.new.self c.parse_minute.new.cursor
    c.parse_minute.result (clock_by c.args.first (clock_of c.args.clock)) (minute_at error_of (clock_of c.args.clock) true c.in_ok-hour.hour)
    (rw c.in_ok-hour.ensures.hour (search rules)) c.parse_minute.ensures.time

-- The minute is read directly after the hour.
pub returns-in-Some-2-clause-time : goal.returns-in-Some-2-clause-time
unfolding clock_by after_hour_at
returns-in-Some-2-clause-time g c =
    reads_on g.T.EncodingType.letter (open_time_of c.parse_minute-in-Some-2.new.time) c.args.cursor.now c.look_after.new.cursor c.parse_minute-in-Some-2.new.cursor
    c.parse_minute-in-Some-2.result (clock_by c.args.first (clock_of c.args.clock)) (minute_at error_of (clock_of c.args.clock) false c.in_ok-hour.hour)
    (rw c.in_ok-hour.ensures.hour (search rules)) c.parse_minute-in-Some-2.ensures.time

-- The code unit after the hour is bad.
pub returns-in_err-byte-clause-time : goal.returns-in_err-byte-clause-time
unfolding clock_by after_hour_at
returns-in_err-byte-clause-time g c =
    let p = err_from_is_err_and c.from_residual-in_err-byte.result c.from_residual-in_err-byte.ensures.1 in
    rw (p.1, p.2) (rw c.in_ok-hour.ensures.hour (search rules))

-- The time has only an hour.
pub returns-in_default-clause-time : goal.returns-in_default-clause-time
unfolding clock_by after_hour_at
returns-in_default-clause-time g c = rw c.in_ok-hour.ensures.hour (elim c.in_default.branch [
  | in_default-via-in-Some-2+else-is_ascii_digit w ↦ search rules
  | in_default-via-in_default w ↦ search rules
])

-- The hour is missing or too great.
pub returns-in_err-hour-clause-time : goal.returns-in_err-hour-clause-time
unfolding clock_by
returns-in_err-hour-clause-time g c =
    let p = err_from_is_err_and c.from_residual.result c.from_residual.ensures.1 in
    rw (p.1, p.2) (rw c.in_err-hour.ensures.hour refl)
