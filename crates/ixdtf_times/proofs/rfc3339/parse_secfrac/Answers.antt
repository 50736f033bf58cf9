use Rattle.ixdtf_times.proofs.rfc3339.parse_secfrac.Goals as goal
use Rattle.ixdtf_reading.specs.reading.{Clauses.fraction_by, DateTimes.secfrac_digits_at}

-- The fraction is read like the fraction of any time.
pub returns-clause-fraction : goal.returns-clause-fraction
unfolding fraction_by secfrac_digits_at
returns-clause-fraction g c = c.parse_fraction.ensures.fraction
