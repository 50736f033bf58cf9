use Rattle.std.proofs.{Common.{refl, rules, FitsSigned, w64, to_z-of_z}, Output.{has_written_styled_append}}
use Rattle.ixdtf_instants.proofs.display.write_date.Goals as goal

pub returns : goal.returns
returns g c = λ flush ok.
    let fits : FitsSigned w64 c.args.date.year = search rules in
    let year = simp to_z-of_z at (c.in_ok-write_year.ensures flush refl) in
    let hyphen = c.in_ok-write_str.ensures.styled year.flush refl in
    let month = c.in_ok-write_digits.ensures hyphen.flush refl in
    let hyphen₂ = c.in_ok-write_str-2.ensures.styled month.flush refl in
    let day = c.write_digits-2.ensures hyphen₂.flush ok in
    rw (← c.from.ensures, ← c.from-2.ensures)
    (has_written_styled_append _ _ _ _ _ _ year (has_written_styled_append _ _ _ _ _ _ hyphen (has_written_styled_append _ _ _ _ _ _ month
    (has_written_styled_append _ _ _ _ _ _ hyphen₂ day))))
