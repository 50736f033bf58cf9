use Rattle.ixdtf_c.proofs.explanations.explain_into.Goals as goal
use Rattle.ixdtf_c.proofs.Explaining.{nothing_explained, error_explained}

pub returns-in-None-clause-explains : goal.returns-in-None-clause-explains
returns-in-None-clause-explains g c = rw c.in-Some.ensures.some (nothing_explained c.in-None.ensures)

pub returns-in-Some-refusal-clause-explains : goal.returns-in-Some-refusal-clause-explains
returns-in-Some-refusal-clause-explains g c = let (part, is_part, is) = c.explanation_of.ensures in rw c.in-Some.ensures.some (error_explained c.in-Some-refusal.ensures is_part is)
