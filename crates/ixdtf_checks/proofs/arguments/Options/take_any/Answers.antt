-- A word that begins with a `-` has a `=`, or has none.
use Rattle.ixdtf_checks.proofs.arguments.Options.take_any.Goals as goal
use Rattle.std.proofs.Common.{inl, inr, subst, arith}
use Rattle.std.proofs.lemmas.Str.Pattern.{split_parts}
use Rattle.ixdtf_checks.specs.Arguments.{IsFileName}
use Rattle.ixdtf_checks.proofs.ArgumentLemmas.{is_without}

pub returns-in-None : goal.returns-in-None
returns-in-None c =
    let none = rw c.in-None.is at (split_parts 61 c.args.word.now c.split_once.result c.split_once.ensures.cases (omega arith)) in
    let option = subst (λ t. ¬ (IsFileName t)) c.as_bytes.ensures.value (c.is_file.ensures.no c.if-is_file.false) in
    inr (option, inl (is_without 61 c.args.word.now none, c.take_option.ensures))

pub returns-in-Some : goal.returns-in-Some
returns-in-Some c =
    let parts = rw c.in-Some.is at (split_parts 61 c.args.word.now c.split_once.result c.split_once.ensures.cases (omega arith)) in
    let option = subst (λ t. ¬ (IsFileName t)) c.as_bytes.ensures.value (c.is_file.ensures.no c.if-is_file.false) in
    inr (option, inr (c.in-Some.option.now, c.in-Some.value.now, is_without 61 c.in-Some.option.now parts.1, parts.0, c.take_with_value.ensures))
