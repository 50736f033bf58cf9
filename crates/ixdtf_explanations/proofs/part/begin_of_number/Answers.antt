use Rattle.ixdtf_explanations.proofs.part.begin_of_number.Goals as goal
use Rattle.std.proofs.Common.{IsTrue}
use Rattle.ixdtf_explanations.specs.Parts.{of_number}
use Rattle.ixdtf_explanations.proofs.code.Numbers.{step_back}

pub loop-front-preserved : goal.loop-front-preserved
loop-front-preserved g c =
    let inside : IsTrue (of_number (g.T.EncodingType.number c.last-item.result)) = rw (← c.number_of.ensures, ← c.is_of_number.ensures) c.if-not-is_of_number.false in
    step_back g.T.EncodingType.number (λ n. IsTrue (of_number n)) c.args.text.now c.loop-front.front.now c.args.end c.last-item.result
    c.last-item.is c.in-len1-up.len_at_least c.requires inside c.loop-front.invariant
