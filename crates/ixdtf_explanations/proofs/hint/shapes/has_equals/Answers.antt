use Rattle.std.proofs.Common.{◌∙◌, ap, sym, rules, tests, option_map}
use Rattle.std.proofs.lemmas.{Iterator.YieldsList-from_slice, Iterator.Search.find_from_yields_List}
use Rattle.ixdtf_explanations.specs.Hints.{ends_key, is_equals}
use Rattle.ixdtf_explanations.proofs.hint.shapes.has_equals.Goals as goal

pub returns-in-Some : goal.returns-in-Some
returns-in-Some c = ap (λ r. is_equals (option_map (λ x. x.now) r)) (sym c.in-Some.is) ∙ ap is_equals (find_from_yields_List ends_key _ _ c.find.result c.find.ensures.ran (YieldsList-from_slice c.args.rest.now cc) (λ x b q k. search (rules, tests)))

pub returns-in-None : goal.returns-in-None
returns-in-None c = ap (λ r. is_equals (option_map (λ x. x.now) r)) (sym c.in-None.is) ∙ ap is_equals (find_from_yields_List ends_key _ _ c.find.result c.find.ensures.ran (YieldsList-from_slice c.args.rest.now cc) (λ x b q k. search (rules, tests)))
