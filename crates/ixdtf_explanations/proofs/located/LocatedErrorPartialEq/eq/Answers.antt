use Rattle.std.proofs.Common.{◌≡◌, sym, ◌∙◌, subst}
use Rattle.ixdtf_grammar.specs.contracts.reason.Reason.{the_type}
use denote.Enum.Bare.{same_true}
use lib.Dec.{T, eqb→eq}
use Rattle.ixdtf_explanations.proofs.located.LocatedErrorPartialEq.eq.Goals as goal
use Rattle.ixdtf_explanations.proofs.located.LocatedErrorPartialEq.eq.Goals.{then-self-other, else-self-other}

-- src/located.rt:74:5
pub returns-then-eq-clause-equal : goal.returns-then-eq-clause-equal
returns-then-eq-clause-equal c = elim c.if-self-other.branch [
  | then-self-other w ↦
      let reasons : c.args.self.now.reason ≡ c.args.other.now.reason =
      same_true the_type tt _ _ (sym w.eq.ensures ∙ sym w.value-is ∙ c.if-eq.true) in (
        (λ is. (w.if-self-other.true, reasons, c.eq-then-eq.ensures.equal.0 is)),
        λ same. c.eq-then-eq.ensures.equal.1 same.2,
      )
  | else-self-other w ↦ absurd (w.if-self-other.false (eqb→eq _ _ (subst T (sym (sym w.value-is ∙ c.if-eq.true)) tt)))
]
