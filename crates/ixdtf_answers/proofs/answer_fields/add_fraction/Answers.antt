-- Proves that a point and nine digits are added.
use Rattle.ixdtf_answers.proofs.answer_fields.add_fraction.Goals as goal
use Rattle.std.proofs.Common.{arith, ◌∙◌}
use Rattle.ixdtf_answers.proofs.PrintedLemmas.{adds_digits}

pub returns-in-Some-clause-text : goal.returns-in-Some-clause-text
returns-in-Some-clause-text c =
    let nine = adds_digits c.from-nanoseconds.result c.add_byte-digits.ensures.text (omega arith) c.put_digits.ensures in
    rw c.in-Some.is (rw (c.from-nanoseconds.ensures ∙ c.to_truncated_nanoseconds.ensures.value) at nine)
