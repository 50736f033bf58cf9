use Rattle.ixdtf_explanations.proofs.part.begin_of_bracket.Goals as goal
use Rattle.std.proofs.Common.{IsFalse}
use Rattle.ixdtf_grammar.specs.language.Letters.{opening}
use Rattle.ixdtf_explanations.proofs.code.Numbers.{step_back}

pub loop-front-preserved : goal.loop-front-preserved
loop-front-preserved g c =
    let other : IsFalse (opening (g.T.EncodingType.number c.last-item.result)) = rw (← c.number_of.ensures, ← c.is_opening.ensures) c.if-is_opening.false in
    step_back g.T.EncodingType.number (λ n. IsFalse (opening n)) c.args.text.now c.loop-front.front.now c.args.end c.last-item.result
    c.last-item.is c.in-len1-up.len_at_least c.requires other c.loop-front.invariant
