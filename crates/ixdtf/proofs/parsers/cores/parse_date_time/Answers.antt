use Rattle.ixdtf.proofs.parsers.cores.parse_date_time.Goals as goal
use Rattle.ixdtf_reading.specs.reading.{Clauses.core_in, Looks.error_of, Cores.{date_time_core_at, whole_time_core_at}}
use Rattle.ixdtf_times.specs.TimeTypes.{opens_bracket}
use Rattle.ixdtf_reading.proofs.code.FixedPlaces.{reads_on}
use Rattle.ixdtf.proofs.code.FixedCores.{fixed_core}

-- The result after the nineteen fixed columns is the result for the complete text.
pub returns-in-Some-clause-core : goal.returns-in-Some-clause-core
returns-in-Some-clause-core g c =
    reads_on g.T.EncodingType.letter (λ after. (core_in c.parse_after_fixed.new.found, opens_bracket after)) c.args.cursor.now c.take_fixed_date_time.new.cursor
    c.parse_after_fixed.new.cursor c.parse_after_fixed.result (date_time_core_at error_of)
    (whole_time_core_at error_of c.in-Some.date c.in-Some.whole.hour c.in-Some.whole.minute c.in-Some.whole.second)
    (fixed_core _ _ _ _ c.in-Some.ensures.at_place) c.parse_after_fixed.ensures.core
