-- Proves that nothing is written at the end, if nothing waits in the buffer.
use Rattle.ixdtf_checks.proofs.second_output.SecondOutput.finish.Goals as goal
use Rattle.ixdtf_checks.proofs.SecondLemmas.{Puts-nothing}

pub returns-clause-keeps : goal.returns-clause-keeps
returns-clause-keeps g c = λ none. Puts-nothing c.finish.ensures.puts none
