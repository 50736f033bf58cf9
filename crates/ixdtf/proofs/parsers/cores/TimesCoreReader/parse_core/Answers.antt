use Rattle.ixdtf.proofs.parsers.cores.TimesCoreReader.parse_core.Goals as goal
use Rattle.std.proofs.{Common.{◌≡◌, false, refl, sym, ◌∙◌}, lemmas.Result.err_from_is_err_and}
use Rattle.ixdtf_grammar.specs.language.Letters.{time_letter}
use Rattle.ixdtf_reading.specs.reading.Brackets.{next_is}
use Rattle.ixdtf_times.proofs.code.LoneTimes.{reads_as, marked_is, unmarked_is, bad_is}
use Rattle.ixdtf.proofs.parsers.cores.TimesCoreReader.parse_core.Given.{Over}
use Rattle.ixdtf.proofs.parsers.cores.TimesCoreReader.parse_core.Goals.{In_default, in_default-via-in-Some+else-is_time_designator, in_default-via-in_default}

pub returns-in_err-byte-clause-core : goal.returns-in_err-byte-clause-core
returns-in_err-byte-clause-core g c =
    let p = err_from_is_err_and c.from_residual.result c.from_residual.ensures.1 in
    rw (p.1, p.2, c.look.ensures.rest) (bad_is _ _ _ c.in_err-byte.ensures.letter)

-- A `T` or `t` comes first, so no test of the prefix is needed.
pub returns-in-Some-clause-core : goal.returns-in-Some-clause-core
returns-in-Some-clause-core g c =
    let marked =
    marked_is c.args.profile _ c.in-Some.byte _ (rw c.in-Some.is at c.in_ok-byte.ensures.letter) (sym c.if-is_time_designator.ensures) _ c.requires.no_date in
    let same = marked ∙ rw (c.advance.ensures.letters, c.look.ensures.rest) refl in
    reads_as _ _ c.advance.new.self c.args.cursor.now _ c.parse_timed.result _ _ same c.parse_timed.ensures.core

-- Neither `T` nor `t` comes first.
other : (g : Over) (c : In_default g) → next_is time_letter c.in_ok-byte.field-0 ≡ false
other g c = elim c.in_default.branch [
  | in_default-via-in-Some+else-is_time_designator w ↦ rw w.in-Some.is (sym w.if-is_time_designator.ensures)
  | in_default-via-in_default w ↦ rw w.in_default.is refl
]

pub returns-in_err-after-in_default-clause-core : goal.returns-in_err-after-in_default-clause-core
returns-in_err-after-in_default-clause-core g c =
    let p = err_from_is_err_and c.from_residual-in_err-after-in_default.result c.from_residual-in_err-after-in_default.ensures.1 in
    rw (p.1, p.2) (unmarked_is _ _ _ c.in_ok-byte.ensures.letter (other g (goal.at.returns-in_err-after-in_default-clause-core g c).In_default) _ c.requires.no_date
    ∙ rw (← c.look.ensures.rest, c.in_err-after-in_default.ensures.core) refl)

pub returns-in_err-check_front-in_default-clause-core : goal.returns-in_err-check_front-in_default-clause-core
returns-in_err-check_front-in_default-clause-core g c =
    let p = err_from_is_err_and c.from_residual-in_err-check_front-in_default.result c.from_residual-in_err-check_front-in_default.ensures.1 in
    let front = c.in_err-check_front-in_default.ensures.front _ _ in
    rw (p.1, p.2) (unmarked_is _ _ _ c.in_ok-byte.ensures.letter (other g (goal.at.returns-in_err-check_front-in_default-clause-core g c).In_default) _ c.requires.no_date
    ∙ rw (← c.look.ensures.rest, c.in_ok-after-in_default.ensures.core) (rw (c.look.ensures.rest, ← c.rest-start.ensures) front))

pub returns-in_ok-check_front-in_default-clause-core : goal.returns-in_ok-check_front-in_default-clause-core
returns-in_ok-check_front-in_default-clause-core g c =
    let front = c.in_ok-check_front-in_default.ensures.front _ _ in
    unmarked_is _ _ _ c.in_ok-byte.ensures.letter (other g (goal.at.returns-in_ok-check_front-in_default-clause-core g c).In_default) _ c.requires.no_date
    ∙ rw (← c.look.ensures.rest, c.in_ok-after-in_default.ensures.core) (rw (c.look.ensures.rest, ← c.rest-start.ensures, ← c.in_ok-check_front-in_default.ensures.rest) front)
