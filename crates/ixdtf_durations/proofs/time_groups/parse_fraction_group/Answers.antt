use Rattle.ixdtf_durations.proofs.time_groups.parse_fraction_group.Goals as goal
use Rattle.ixdtf_grammar.specs.declared.reason.Reason.TheVariants as reasons
use Rattle.std.proofs.{Common.{◌≡◌, map, None, Ok}, lemmas.Result.err_from_is_err_and}
use Rattle.ixdtf_reading.specs.reading.Looks.{seen}
use Rattle.ixdtf_durations.proofs.code.{DurationFractions.{fraction_fails, fraction_over, no_letter, breaks, ends_group}, DurationSteps.letter_stays}

-- Reading the fraction failed.
pub returns-in_err-fraction-clause-group : goal.returns-in_err-fraction-clause-group
returns-in_err-fraction-clause-group g c profile s dates times ds number =
    let p = err_from_is_err_and c.from_residual.result c.from_residual.ensures.1 in
    rw (p.1, p.2) (fraction_fails _ _ c.in_err-fraction.ensures.fraction profile s dates times ds)

-- The look failed: the next code unit is bad.
pub returns-in_err-look-clause-group : goal.returns-in_err-look-clause-group
returns-in_err-look-clause-group g c profile s dates times ds number =
    let p = err_from_is_err_and c.from_residual-in_err-look.result c.from_residual-in_err-look.ensures.1 in
    rw (p.1, p.2, c.in_err-look.ensures.rest) (breaks _ _ _ (fraction_over _ _ _ c.in_ok-fraction.ensures.fraction) profile s dates times ds _ c.in_err-look.ensures.letter)

-- The text ends.
pub returns-in-None-clause-group : goal.returns-in-None-clause-group
returns-in-None-clause-group g c profile s dates times ds number =
    let none : seen reasons.GroupFractionDigits (map g.T.EncodingType.letter c.parse_fraction.new.cursor.rest) ≡ Ok None =
    cc (c.in_ok-look.ensures.letter, c.in-None.is) in
    rw c.in_ok-look.ensures.rest (no_letter _ _ _ (fraction_over _ _ _ c.in_ok-fraction.ensures.fraction) profile s dates times ds none)

-- A code unit follows.
pub returns-in-Some-clause-group : goal.returns-in-Some-clause-group
returns-in-Some-clause-group g c profile s dates times ds number =
    let stays = letter_stays {letter = g.T.EncodingType.letter} c.in_ok-look.ensures.letter c.in-Some.is c.in_ok-look.ensures.rest in
    ends_group _ _ _ (fraction_over _ _ _ c.in_ok-fraction.ensures.fraction) profile s dates times ds _ stays.found _ _ number stays.left

pub returns-in-Some-clause-more : goal.returns-in-Some-clause-more
returns-in-Some-clause-more g c =
    let stays = letter_stays {letter = g.T.EncodingType.letter} c.in_ok-look.ensures.letter c.in-Some.is c.in_ok-look.ensures.rest in
    stays.more
