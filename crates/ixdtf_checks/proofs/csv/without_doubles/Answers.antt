-- Bytes without a quote have no doubled one.
use Rattle.ixdtf_checks.proofs.csv.without_doubles.Goals as goal
use Rattle.std.proofs.Common.{sym}
use Rattle.ixdtf_checks.proofs.CsvLemmas.{undoubled_free}

pub returns-in-None-clause-text : goal.returns-in-None-clause-text
returns-in-None-clause-text c = sym (undoubled_free c.args.bytes.now c.in-None.ensures.place)
