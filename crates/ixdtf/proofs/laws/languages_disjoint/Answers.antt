use Rattle.ixdtf.proofs.laws.languages_disjoint.Goals as goal
use Rattle.ixdtf_grammar.proofs.theorems.Disjoint.{languages_disjoint}

pub returns : goal.returns
returns c = languages_disjoint
