use Rattle.ixdtf_print.proofs.written.write_bracket.Goals as goal
use Rattle.std.proofs.{Common.refl, Output.{has_written_styled_append, has_written_styled_of_eq}}
use Rattle.ixdtf.specs.Views.{note_of}
use Rattle.ixdtf_print.proofs.code.DisplayedBytes.{bracket_bytes}

pub returns-in_ok-write_zone-in-Some : goal.returns-in_ok-write_zone-in-Some
returns-in_ok-write_zone-in-Some g c = λ flush ok.
    let opening = c.in_ok-write_bytes-in-Some.ensures flush refl in
    let zone = c.in_ok-write_zone-in-Some.ensures opening.flush refl in
    let end = c.write_str.ensures.styled zone.flush ok in
    rw c.in-Some.is
    (has_written_styled_of_eq _ _ _ _ _ (bracket_bytes (note_of (λ byte. byte) c.in-Some.note) _ c.opening_of.ensures)
    (has_written_styled_append _ _ _ _ _ _ opening (has_written_styled_append _ _ _ _ _ _ zone end)))
