-- Both branches return the number of the first nine digits.
use Rattle.ixdtf_grammar.proofs.records.Fraction.to_truncated_nanoseconds.Goals as goal
use Rattle.std.proofs.Common.{◌≡◌, ℕ, ◌^◌, ◌-◌, max, ap, ◌∙◌, arith}
use Rattle.ixdtf_grammar.specs.language.Fractions.{nanoseconds_of}
use Rattle.ixdtf_grammar.proofs.{PaddedDigits.ten_pos, code.Nanoseconds.{nanoseconds-few, nanoseconds-many}}

pub overflow_cast-result : goal.overflow_cast-result
overflow_cast-result c =
    rw c.number-value.ensures (omega (
      arith,
      nanoseconds-few c.self.inside.digits c.self.inside.value c.pow.result c.if-self-le9.true c.self.invariant.1
          (c.pow.ensures ∙ ap (λ k. 10 ^ k) c.from.ensures),
    ))

pub returns-then-self-le9-clause-value : goal.returns-then-self-le9-clause-value
returns-then-self-le9-clause-value c =
    let few = nanoseconds-few c.self.inside.digits c.self.inside.value c.pow.result c.if-self-le9.true c.self.invariant.1
    (c.pow.ensures ∙ ap (λ k. 10 ^ k) c.from.ensures) in
    rw c.number-value.ensures (few.value ∙ ap nanoseconds_of c.self.view_is)

pub returns-then-self-le9-clause-small : goal.returns-then-self-le9-clause-small
returns-then-self-le9-clause-small c =
    let few = nanoseconds-few c.self.inside.digits c.self.inside.value c.pow.result c.if-self-le9.true c.self.invariant.1
    (c.pow.ensures ∙ ap (λ k. 10 ^ k) c.from.ensures) in
    rw c.number-value.ensures few.small

-- A power of ten is at least 1.
power_is : (power k : ℕ) → power ≡ 10 ^ k → max power 1 ≡ 10 ^ k
power_is power k is = omega (arith, ten_pos k)

pub overflow_cast-result-else-self-le9 : goal.overflow_cast-result-else-self-le9
overflow_cast-result-else-self-le9 c =
    rw c.number-value.ensures (omega (
      arith,
      nanoseconds-many c.self.inside.digits c.self.inside.value c.max.result c.if-self-le9.false c.self.invariant.1
          (c.max.ensures ∙ power_is _ _ (c.pow-else-self-le9.ensures ∙ ap (λ k. 10 ^ k) (c.from-else-self-le9.ensures ∙ ap (λ n. n - 9) c.min.ensures))),
    ))

pub returns-else-self-le9-clause-value : goal.returns-else-self-le9-clause-value
returns-else-self-le9-clause-value c =
    let many = nanoseconds-many c.self.inside.digits c.self.inside.value c.max.result c.if-self-le9.false c.self.invariant.1
    (c.max.ensures ∙ power_is _ _ (c.pow-else-self-le9.ensures ∙ ap (λ k. 10 ^ k) (c.from-else-self-le9.ensures ∙ ap (λ n. n - 9) c.min.ensures))) in
    rw c.number-value.ensures (many.value ∙ ap nanoseconds_of c.self.view_is)

pub returns-else-self-le9-clause-small : goal.returns-else-self-le9-clause-small
returns-else-self-le9-clause-small c =
    let many = nanoseconds-many c.self.inside.digits c.self.inside.value c.max.result c.if-self-le9.false c.self.invariant.1
    (c.max.ensures ∙ power_is _ _ (c.pow-else-self-le9.ensures ∙ ap (λ k. 10 ^ k) (c.from-else-self-le9.ensures ∙ ap (λ n. n - 9) c.min.ensures))) in
    rw c.number-value.ensures many.small
