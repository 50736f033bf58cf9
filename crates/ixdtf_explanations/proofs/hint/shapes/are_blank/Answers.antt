use Rattle.std.proofs.{Common.{rules, tests}, lemmas.{Iterator.YieldsList-from_slice, Iterator.Search.all_from_yields_List}}
use Rattle.ixdtf_explanations.specs.Hints.{blank}
use Rattle.ixdtf_explanations.proofs.hint.shapes.are_blank.Goals as goal

pub returns : goal.returns
returns c = all_from_yields_List blank _ _ c.all.result c.all.ensures.ran (YieldsList-from_slice c.args.bytes.now cc) (λ x b q k. search (rules, tests))
