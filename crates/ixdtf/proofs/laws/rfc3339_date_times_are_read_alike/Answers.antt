use Rattle.ixdtf.proofs.laws.rfc3339_date_times_are_read_alike.Goals as goal
use Rattle.ixdtf_reading.proofs.theorems.Rfc3339Texts.{derives_date_times_alone, parse_reads_the_same}

pub returns : goal.returns
returns c = record { alone = derives_date_times_alone; same = parse_reads_the_same }
