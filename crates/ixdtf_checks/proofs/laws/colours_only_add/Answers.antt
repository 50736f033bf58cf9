-- Without its escape sequences, a report with colours is a report as a text.
use Rattle.ixdtf_checks.proofs.laws.colours_only_add.Goals as goal
use Rattle.ixdtf_checks.proofs.ColouredLemmas.{only_add}

pub returns : goal.returns
returns c = only_add
