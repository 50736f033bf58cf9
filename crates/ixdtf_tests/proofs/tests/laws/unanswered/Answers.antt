use Rattle.std.proofs.Common.{rules}
use denote.Param.Always.{mut_total}
use Rattle.ixdtf_tests.proofs.tests.laws.unanswered.Goals as goal

-- The handler may always be called, and always returns `None`.
pub parse_unanswered-requires : goal.parse_unanswered-requires
parse_unanswered-requires g c = (search rules, (mut_total _ _ (λ s a. search rules), λ state annotation reply next stepped. search rules))
