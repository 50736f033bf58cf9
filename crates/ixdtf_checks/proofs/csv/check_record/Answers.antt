-- A walk past more fields than there are bytes does not find so many.
use Rattle.ixdtf_checks.proofs.csv.check_record.Goals as goal
use Rattle.ixdtf_checks.proofs.CsvLemmas.{behind_most}

pub returns-in-Behind-clause-ok : goal.returns-in-Behind-clause-ok
returns-in-Behind-clause-ok c = absurd (behind_most c.args.separator c.args.bytes.now _ c.in-Behind.ensures.walk)
