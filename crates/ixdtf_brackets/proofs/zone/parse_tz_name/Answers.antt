use Rattle.ixdtf_brackets.proofs.zone.parse_tz_name.Goals as goal
use Rattle.std.proofs.{Common.{◌≡◌, true, false, rules}, lemmas.Result.err_from_is_err_and}
use Rattle.ixdtf_reading.proofs.code.LetterLoops.{front_is, next_shown}
use Rattle.ixdtf_brackets.proofs.code.NameLoop.{name_failed, name_ended, name_refused}

pub returns-in_err-name-clause-name : goal.returns-in_err-name-clause-name
returns-in_err-name-clause-name g c =
    let p = err_from_is_err_and c.from_residual.result c.from_residual.ensures.1 in
    rw (p.1, p.2) (name_failed _ _ c.in_err-name.ensures.letters)

pub returns-then-not-name-clause-name : goal.returns-then-not-name-clause-name
returns-then-not-name-clause-name g c =
    let slash : c.in_ok-name.name.state.may_end ≡ false = search rules in
    name_refused _ _ _ c.in_ok-name.ensures.letters.2 slash

-- The code units of the name are those that were consumed.
pub returns-clause-name : goal.returns-clause-name
returns-clause-name g c =
    let passed = c.in_ok-name.ensures.letters in
    let front = front_is g.T.EncodingType.number c.rest-start.result.now c.rest.result.now passed.0 c.pass_name.new.cursor.rest _ c.rest-start.ensures
    passed.1 c.rest.ensures in
    let ends : c.in_ok-name.name.state.may_end ≡ true = search rules in
    rw (c.saturating_sub-count.ensures, front) (name_ended _ _ _ passed.2 ends)

pub returns-clause-next : goal.returns-clause-next
returns-clause-next g c =
    let ends : c.in_ok-name.name.state.may_end ≡ true = search rules in
    rw ends at (next_shown _ _ _ _ _ _ c.in_ok-name.ensures.letters.2)
