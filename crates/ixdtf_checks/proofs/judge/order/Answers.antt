-- Proves the verdict on a text whose instant is too early.
use Rattle.ixdtf_checks.proofs.judge.order.Goals as goal
use Rattle.std.proofs.Common.{rules, refl}
use Rattle.ixdtf_checks.specs.Order.{IsBefore}

pub returns-in-Some : goal.returns-in-Some
returns-in-Some c = λ reader timed printed.
    let before : IsBefore c.args.instant c.in-Some.last = search rules in
    rw c.in-Some.is (timed, before, rw (c.whole_text.ensures.column, c.whole_text.ensures.text) refl)
