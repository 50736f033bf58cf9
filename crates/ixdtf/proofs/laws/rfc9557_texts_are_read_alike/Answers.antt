use Rattle.ixdtf.proofs.laws.rfc9557_texts_are_read_alike.Goals as goal
use Rattle.ixdtf_reading.proofs.theorems.Rfc9557Texts.{rfc_9557_reads_the_same, parse_gives_the_same}

pub returns : goal.returns
returns c = record { dated = rfc_9557_reads_the_same; same = parse_gives_the_same }
