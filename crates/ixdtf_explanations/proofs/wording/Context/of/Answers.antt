use Rattle.std.proofs.Common.{rules, ◌∙◌}
use Rattle.ixdtf_explanations.proofs.wording.Context.of.Goals as goal

pub returns : goal.returns
returns c = record {
  context = record { before = cc; following = c.copied.ensures ∙ c.first.ensures.value };
}
