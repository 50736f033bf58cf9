use Rattle.std.proofs.{Common.refl, Output.{has_written_styled_append, has_written_styled_of_eq}}
use Rattle.ixdtf_instants.specs.Texts.{clock_digits}
use Rattle.ixdtf_instants.proofs.display.write_clock.Goals as goal

pub returns : goal.returns
unfolding clock_digits
returns g c = λ flush ok.
    let hour = c.in_ok-write_digits.ensures flush refl in
    let colon = c.in_ok-write_str.ensures.styled hour.flush refl in
    let minute = c.in_ok-write_digits-2.ensures colon.flush refl in
    let colon₂ = c.in_ok-write_str-2.ensures.styled minute.flush refl in
    let second = c.write_digits-3.ensures colon₂.flush ok in
    rw (← c.from.ensures, ← c.from-2.ensures, ← c.from-3.ensures)
    (has_written_styled_append _ _ _ _ _ _ hour (has_written_styled_append _ _ _ _ _ _ colon (has_written_styled_append _ _ _ _ _ _ minute
    (has_written_styled_append _ _ _ _ _ _ colon₂ second))))
