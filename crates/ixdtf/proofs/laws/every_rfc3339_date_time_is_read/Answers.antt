use Rattle.ixdtf.proofs.laws.every_rfc3339_date_time_is_read.Goals as goal
use Rattle.ixdtf_reading.proofs.theorems.Rfc3339.{every_date_time_is_read}

pub returns : goal.returns
returns c = every_date_time_is_read
