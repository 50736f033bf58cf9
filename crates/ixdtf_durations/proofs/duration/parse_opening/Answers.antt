use Rattle.ixdtf_durations.proofs.duration.parse_opening.Goals as goal
use Rattle.std.proofs.{Common.{refl, rules, ◌∙◌}, lemmas.Result.err_from_is_err_and}
use Rattle.ixdtf_reading.proofs.code.FractionLoop.{one_taken}
use Rattle.ixdtf_durations.proofs.code.DurationSteps.{fails, reads_on_earlier, start_at_sign}

-- The look failed: the next code unit is bad.
pub returns-in_err-byte-clause-sign : goal.returns-in_err-byte-clause-sign
returns-in_err-byte-clause-sign g c profile =
    let p = err_from_is_err_and c.from_residual.result c.from_residual.ensures.1 in
    rw (p.1, p.2, c.in_err-byte.ensures.rest) (fails _ _ _ _ c.in_err-byte.ensures.letter)

-- The next code unit is a sign.
pub returns-in-Some-clause-sign : goal.returns-in-Some-clause-sign
returns-in-Some-clause-sign g c profile =
    let off = one_taken {letter = g.T.EncodingType.letter} c.in_ok-byte.ensures.letter c.in-Some.is c.in_ok-byte.ensures.rest c.advance.ensures.rest in
    reads_on_earlier _ _ _ _ c.args.cursor.now c.advance.new.self _ _ _ (start_at_sign _ _ _ _ off.found (search rules) ∙ rw (off.left, c.sign_from.ensures) refl)
    (c.parse_designator.ensures.sign profile)
