-- A reader gets back what is written.
use Rattle.ixdtf_checks.proofs.laws.json_strings_are_read_back.Goals as goal
use Rattle.ixdtf_checks.proofs.JsonStringLemmas.{no_control, read_back}

pub returns-clause-text : goal.returns-clause-text
returns-clause-text c = read_back

pub returns-clause-bare : goal.returns-clause-bare
returns-clause-bare c = no_control
