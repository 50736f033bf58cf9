use Rattle.std.proofs.Common.{arith}
use Rattle.std.proofs.lemmas.{Bool.Decides.{nat_tests}, Grind.common_steps}
use Rattle.ixdtf_instants.specs.Texts.{long_year}
use Rattle.ixdtf_instants.proofs.display.write_long_year.Goals as goal

pub returns-then-number-le999999 : goal.returns-then-number-le999999
unfolding long_year
returns-then-number-le999999 g c = grind (arith, nat_tests, common_steps)

pub returns-else-number-le999999 : goal.returns-else-number-le999999
unfolding long_year
returns-else-number-le999999 g c = grind (arith, nat_tests, common_steps)
