-- If one more digit is added to a value of fewer than 18 digits, the new value is less than 10 ^ 18.
use Rattle.ixdtf_grammar.proofs.records.LeadingDigits.with_digit.Goals as goal
use Rattle.std.proofs.Common.{◌+◌, ap, arith}
use Rattle.ixdtf_grammar.proofs.code.Nanoseconds.{one_more, eighteen}

pub overflow_mul-result : goal.overflow_mul-result
overflow_mul-result c =
    omega (
      arith,
      one_more c.self.inside.count c.self.inside.value 0 (omega (arith, c.requires.short, ap (λ f. f.count) c.self.view_is)) c.self.invariant.2 (omega arith),
      eighteen (c.self.inside.count + 1),
    )

pub overflow_add-result-2 : goal.overflow_add-result-2
overflow_add-result-2 c =
    omega (
      arith,
      one_more c.self.inside.count c.self.inside.value c.from.result (omega (arith, c.requires.short, ap (λ f. f.count) c.self.view_is)) c.self.invariant.2
          (omega arith),
      eighteen (c.self.inside.count + 1),
    )
