use Rattle.ixdtf_brackets.proofs.brackets.parse_name_or_pair.Goals as goal
use Rattle.std.proofs.Common.{◌≡◌, ◌&&◌, true, false, None, Err, List, ◌++◌, ℕ, length, arith, refl, sym, ap, ◌∙◌, append_assoc, rules}
use Rattle.std.proofs.lemmas.{List.length-map, Result.err_from_is_err_and}
use Rattle.ixdtf_grammar.specs.language.Letters.{closing}
use Rattle.ixdtf_reading.specs.reading.{Brackets.{next_is}}
use Rattle.ixdtf_reading.proofs.code.LetterLoops.{front_is}
use Rattle.ixdtf_brackets.proofs.code.FirstPass.{pass_failed, value_failed, pair_read, more_failed, name_unended, name_read, name_refuses}
use Rattle.ixdtf_brackets.proofs.brackets.parse_name_or_pair.Goals.{else-more-via-then-more+else-ends_bracket, else-more-via-else-more}

pub returns-in_err-next-clause-bracket : goal.returns-in_err-next-clause-bracket
returns-in_err-next-clause-bracket g c =
    let p = err_from_is_err_and c.from_residual.result c.from_residual.ensures.1 in
    rw (p.1, p.2) (pass_failed _ _ _ _ c.in_err-next.ensures.letters)

pub returns-in_err-value-clause-bracket : goal.returns-in_err-value-clause-bracket
returns-in_err-value-clause-bracket g c =
    let p = err_from_is_err_and c.from_residual-in_err-value.result c.from_residual-in_err-value.ensures.1 in
    rw (p.1, p.2) (value_failed _ _ _ _ _ c.in_ok-next.ensures.letters.2 (sym c.ends_key.ensures ∙ c.if-ends_key.true) _
    c.in_err-value.ensures.value)

pub returns-then-ends_key-clause-bracket : goal.returns-then-ends_key-clause-bracket
returns-then-ends_key-clause-bracket g c =
    let keys = c.in_ok-next.ensures.letters in
    let front = front_is g.T.EncodingType.number c.rest-start.result.now c.rest-behind_key.result.now keys.0 c.pass_letters.new.cursor.rest _ c.rest-start.ensures
    keys.1 c.rest-behind_key.ensures in
    rw (c.saturating_sub.ensures, front) (pair_read _ _ _ _ _ keys.2 (sym c.ends_key.ensures ∙ c.if-ends_key.true) _ _ c.in_ok-value.ensures.value)

pub returns-in_err-more-clause-bracket : goal.returns-in_err-more-clause-bracket
returns-in_err-more-clause-bracket g c =
    let p = err_from_is_err_and c.from_residual-in_err-more.result c.from_residual-in_err-more.ensures.1 in
    rw (p.1, p.2) (more_failed _ _ _ _ _ c.in_ok-next.ensures.letters.2 _ c.in_err-more.ensures.letters)

-- The bracket is a name: the code units of a key, and those after them.
pub returns-then-ends_bracket-clause-bracket : goal.returns-then-ends_bracket-clause-bracket
returns-then-ends_bracket-clause-bracket g c =
    let keys = c.in_ok-next.ensures.letters in
    let passed = c.in_ok-more.ensures.letters in
    let split : c.args.cursor.now.rest ≡ (keys.0 ++ passed.0) ++ c.pass_rest_of_name.new.cursor.rest = rw (keys.1, passed.1, append_assoc) refl in
    let front = front_is g.T.EncodingType.number c.rest-start.result.now c.rest.result.now (keys.0 ++ passed.0) c.pass_rest_of_name.new.cursor.rest _ c.rest-start.ensures
    split c.rest.ensures in
    let is : (c.in_ok-more.more.state.may_end && next_is closing c.in_ok-more.more.next) ≡ true =
    rw c.if-more.true (sym c.ends_bracket.ensures ∙ c.if-ends_bracket.true) in
    rw (c.saturating_sub-count.ensures, front, c.advance.ensures.letters) (name_read _ _ _ _ _ keys.2 _ _ passed.2 is)

-- The text ends in the bracket.
pub returns-then-is_none-clause-bracket : goal.returns-then-is_none-clause-bracket
returns-then-is_none-clause-bracket g c =
    let none : c.in_ok-more.more.next ≡ None = search rules in
    name_unended _ _ _ _ _ c.in_ok-next.ensures.letters.2 _ _ c.in_ok-more.ensures.letters.2 none

pub returns-clause-bracket : goal.returns-clause-bracket
returns-clause-bracket g c =
    let passed = c.in_ok-more.ensures.letters in
    let is : (c.in_ok-more.more.state.may_end && next_is closing c.in_ok-more.more.next) ≡ false = elim c.else-more.branch [
      | else-more-via-then-more+else-ends_bracket w ↦ rw w.if-more.true (sym w.ends_bracket.ensures ∙ w.if-ends_bracket.false)
      | else-more-via-else-more w ↦ rw w.if-more.false refl
    ] in
    name_refuses _ _ _ _ _ c.in_ok-next.ensures.letters.2 _ _ passed.2 (sym c.ends_key.ensures ∙ c.if-ends_key.false) is
    ∙ ap Err (sym (rw (c.fork.ensures.same, c.rest-behind_key.ensures) at c.refuse_bracket-refused.ensures.stop))

pub returns-clause-looks : goal.returns-clause-looks
returns-clause-looks g c =
    let key : length c.rest-behind_key.result.now ≡ length c.pass_letters.new.cursor.rest =
    sym (length-map c.rest-behind_key.result.now g.T.EncodingType.number) ∙ ap (λ (t : List ℕ). length t) c.rest-behind_key.ensures in
    let looks = rw c.fork.ensures.same at c.refuse_bracket-refused.ensures.looks in (
      omega (arith, key, c.in_ok-next.ensures.looks, c.in_ok-next.ensures.shorter, c.in_ok-more.ensures.looks, c.in_ok-more.ensures.shorter, looks),
      omega (arith, key, c.in_ok-next.ensures.looks, c.in_ok-next.ensures.shorter, c.in_ok-more.ensures.looks, c.in_ok-more.ensures.shorter, looks),
    )
