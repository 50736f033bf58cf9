-- The value has two numbers with a `-` between them, or has not.
use Rattle.ixdtf_checks.proofs.option_value.fields_setting.Goals as goal
use Rattle.std.proofs.Common.{◌≡◌, ◌+◌, ◌-◌, refl, subst, arith}
use Rattle.std.proofs.lemmas.Str.Pattern.{split_parts}
use Rattle.ixdtf_checks.specs.Arguments.{IsNumber}
use Rattle.ixdtf_checks.proofs.ArgumentLemmas.{one_number, parsed, same_parts}

pub returns-in_default-clause-err : goal.returns-in_default-clause-err
returns-in_default-clause-err c = (refl, λ setting is. rw c.in_default.is at (same_parts c.args.value.now c.split_once.result c.split_once.ensures.cases setting is))

pub returns-in-Ok-Ok-clause-ok : goal.returns-in-Ok-Ok-clause-ok
returns-in-Ok-Ok-clause-ok c =
    let parts = rw c.in-Some.is at (split_parts 45 c.args.value.now c.split_once.result c.split_once.ensures.cases (omega arith)) in
    let first = c.in-Ok-Ok.first in
    let last = c.in-Ok-Ok.last in
    let one = rw c.in-Ok-Ok.is-0 at (parsed c.in-Some.first.now c.parse.result c.parse.ensures.value.0) in
    let two = rw c.in-Ok-Ok.is-1 at (parsed c.in-Some.last.now c.parse-2.result c.parse-2.ensures.value.0) in
    let sum : first ≡ first - 1 + 1 = omega arith in
    let both : last ≡ first - 1 + 1 + (last - first) = omega arith in (
      first - 1,
      last - first,
      c.in-Some.first.now,
      c.in-Some.last.now,
      parts.0,
      subst (λ n. IsNumber c.in-Some.first.now n) sum one,
      subst (λ n. IsNumber c.in-Some.last.now n) both two,
      refl,
    )

pub returns-in_default-2-clause-err : goal.returns-in_default-2-clause-err
returns-in_default-2-clause-err c =
    let one = rw c.in-Ok-Ok.is-0 at (parsed c.in-Some.first.now c.parse.result c.parse.ensures.value.0) in
    let two = rw c.in-Ok-Ok.is-1 at (parsed c.in-Some.last.now c.parse-2.result c.parse-2.ensures.value.0) in (
      refl,
      λ setting is.
          let (before, more, front, back) = rw c.in-Some.is at (same_parts c.args.value.now c.split_once.result c.split_once.ensures.cases setting is) in
          absurd (omega (arith, one_number c.in-Some.first.now c.in-Ok-Ok.first (before + 1) one front, one_number c.in-Some.last.now c.in-Ok-Ok.last (before + 1 + more) two back)),
    )

pub returns-in_default-2-2-clause-err : goal.returns-in_default-2-2-clause-err
returns-in_default-2-2-clause-err c =
    let one = rw c.in-Ok-Ok.is-0 at (parsed c.in-Some.first.now c.parse.result c.parse.ensures.value.0) in (
      refl,
      λ setting is.
          let (before, more, front, back) = rw c.in-Some.is at (same_parts c.args.value.now c.split_once.result c.split_once.ensures.cases setting is) in
          absurd (omega (arith, one_number c.in-Some.first.now c.in-Ok-Ok.first (before + 1) one front)),
    )

pub returns-in_default-2-3-clause-err : goal.returns-in_default-2-3-clause-err
returns-in_default-2-3-clause-err c =
    let none = rw c.in_default-2.is-1 at (parsed c.in-Some.last.now c.parse-2.result c.parse-2.ensures.value.0) in (
      refl,
      λ setting is.
          let (before, more, front, back) = rw c.in-Some.is at (same_parts c.args.value.now c.split_once.result c.split_once.ensures.cases setting is) in
          none (before + 1 + more) back,
    )

pub returns-in_default-2-4-clause-err : goal.returns-in_default-2-4-clause-err
returns-in_default-2-4-clause-err c =
    let none = rw c.in_default-2.is-0 at (parsed c.in-Some.first.now c.parse.result c.parse.ensures.value.0) in (
      refl,
      λ setting is.
          let (before, more, front, back) = rw c.in-Some.is at (same_parts c.args.value.now c.split_once.result c.split_once.ensures.cases setting is) in
          none (before + 1) front,
    )
