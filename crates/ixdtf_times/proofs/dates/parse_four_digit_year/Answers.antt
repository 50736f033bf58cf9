use Rattle.ixdtf_times.proofs.dates.parse_four_digit_year.Goals as goal
use Rattle.std.proofs.{Common.{◌∙◌, refl, arith}, lemmas.{Result.err_from_is_err_and, Grind.common_steps}}
use Rattle.ixdtf_times.proofs.code.YearDigits.{four_digits}

pub returns-in_err-below_thousand-clause-year : goal.returns-in_err-below_thousand-clause-year
returns-in_err-below_thousand-clause-year g c =
    let p = err_from_is_err_and c.from_residual.result c.from_residual.ensures.1 in
    rw (p.1, p.2) (four_digits _ _ ∙ rw c.in_err-below_thousand.ensures.number refl)

pub returns-clause-year : goal.returns-clause-year
returns-clause-year g c = four_digits _ _ ∙ rw c.in_ok-below_thousand.ensures.number (grind (arith, common_steps))
