use Rattle.ixdtf_explanations.proofs.part.end_of_digits.Goals as goal
use Rattle.std.proofs.Common.{IsTrue, arith}
use Rattle.ixdtf_grammar.specs.language.Letters.{digit}
use Rattle.ixdtf_explanations.proofs.code.Numbers.{step_on}

pub loop-end-preserved : goal.loop-end-preserved
loop-end-preserved g c =
    let inside : IsTrue (digit (g.T.EncodingType.number c.index-text-end.result)) = rw (← c.number_of.ensures, ← c.is_digit.ensures) c.if-is_digit.true in
    let (from, within, passed) = c.loop-end.invariant in
    let before = c.loop-end-test.true in (
      omega (arith, from),
      omega (arith, before),
      step_on g.T.EncodingType.number (λ n. IsTrue (digit n)) c.args.text.now c.args.start c.loop-end.end c.index-text-end.result
          c.index-text-end.is before inside passed,
    )
