use Rattle.ixdtf_c.proofs.record_conversion.record_of.Goals as goal
use Rattle.ixdtf_c.proofs.Printed.{counted_time, counted_offset, counted_zone, counted_record}

pub returns-in_default-clause-digits : goal.returns-in_default-clause-digits
returns-in_default-clause-digits g c = λ is. c.in_default.ensures.none (rw c.time_part.ensures (counted_time (g.R.RecordOf.contents c.args.given.now) is))

pub returns-in_default-clause-none : goal.returns-in_default-clause-none
returns-in_default-clause-none g c = λ is. c.in_default.ensures.none (rw c.time_part.ensures (counted_time (g.R.RecordOf.contents c.args.given.now) (counted_record (g.R.RecordOf.contents c.args.given.now) is)))

pub returns-in_default-offset_of-clause-digits : goal.returns-in_default-offset_of-clause-digits
returns-in_default-offset_of-clause-digits g c = λ is. c.in_default-offset_of.ensures.none (rw c.offset_part.ensures (counted_offset (g.R.RecordOf.contents c.args.given.now) is))

pub returns-in_default-offset_of-clause-none : goal.returns-in_default-offset_of-clause-none
returns-in_default-offset_of-clause-none g c = λ is. c.in_default-offset_of.ensures.none (rw c.offset_part.ensures (counted_offset (g.R.RecordOf.contents c.args.given.now) (counted_record (g.R.RecordOf.contents c.args.given.now) is)))

pub returns-in_default-zone_part-clause-digits : goal.returns-in_default-zone_part-clause-digits
returns-in_default-zone_part-clause-digits g c = λ is. counted_zone (g.R.RecordOf.contents c.args.given.now) is c.in_default-zone_part.ensures.none

pub returns-in_default-zone_part-clause-none : goal.returns-in_default-zone_part-clause-none
returns-in_default-zone_part-clause-none g c = λ is. counted_zone (g.R.RecordOf.contents c.args.given.now) (counted_record (g.R.RecordOf.contents c.args.given.now) is) c.in_default-zone_part.ensures.none
