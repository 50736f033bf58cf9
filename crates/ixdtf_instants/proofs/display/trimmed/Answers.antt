use Rattle.std.proofs.Common.{◌≡◌, ◌∙◌, sym, arith}
use Rattle.ixdtf_instants.proofs.TextLemmas.{trimmed-zero, trimmed-other, trimmed-none}
use Rattle.ixdtf_instants.proofs.display.trimmed.Goals as goal

pub loop-count-preserved : goal.loop-count-preserved
loop-count-preserved c = (sym (trimmed-zero _ _ (omega arith) (omega arith)) ∙ c.loop-count.invariant.0, omega arith)

pub returns-else-number-eq0-clause-digits : goal.returns-else-number-eq0-clause-digits
returns-else-number-eq0-clause-digits c = sym (trimmed-other _ _ (omega arith)) ∙ c.loop-count.invariant.0

pub returns-after-loop-count-clause-digits : goal.returns-after-loop-count-clause-digits
returns-after-loop-count-clause-digits c =
    let none : c.loop-count.count ≡ 0 = omega arith in
    rw none (sym (trimmed-none _) ∙ (rw none at c.loop-count.invariant.0))
