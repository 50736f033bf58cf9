use Rattle.ixdtf_c.proofs.reason_numbers.ixdtf_reason_line.Goals as goal
use Rattle.std.proofs.Common.{◌≡◌, ◌∙◌, ap, arith}
use Rattle.std.proofs.lemmas.Grind.{common_steps}
use Rattle.ixdtf_c.specs.Reasons.{line_of}
use Rattle.ixdtf_c.proofs.Reasoned.{name_of_reason, nameless}

pub returns-clause-name : goal.returns-clause-name
returns-clause-name c reason is = let line : c.to_c-out.result.now ≡ line_of c.args.number = grind (arith, common_steps) in line ∙ ap line_of is ∙ name_of_reason reason

pub returns-clause-none : goal.returns-clause-none
returns-clause-none c other = let line : c.to_c-out.result.now ≡ line_of c.args.number = grind (arith, common_steps) in line ∙ nameless c.args.number other
