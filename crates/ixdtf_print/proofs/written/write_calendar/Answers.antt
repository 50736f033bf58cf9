use Rattle.ixdtf_print.proofs.written.write_calendar.Goals as goal
use Rattle.std.proofs.{Common.{ℕ, List, Some, refl, sym, ap, ◌∙◌}, Output.{has_written_styled_append, has_written_styled_of_eq}, lemmas.List.map-id}
use Rattle.ixdtf_print.specs.{Canonical.calendar_text, Shown.bytes_of}
use Rattle.ixdtf_print.proofs.code.DisplayedBytes.{calendar_bytes}

pub returns-in_ok-write_bytes-in-Some : goal.returns-in_ok-write_bytes-in-Some
returns-in_ok-write_bytes-in-Some g c = λ flush ok.
    let key = c.in_ok-write_str-in-Some.ensures.styled flush refl in
    let value = c.in_ok-write_bytes-in-Some.ensures key.flush refl in
    let end = c.write_str-in-Some.ensures.styled value.flush ok in
    let units = c.in-Some.value.now in
    let same = ap (λ (l : List ℕ). bytes_of (calendar_text (Some l))) (sym (map-id units)) in
    rw c.in-Some.is
    (has_written_styled_of_eq _ _ _ _ _ (calendar_bytes units ∙ same)
    (has_written_styled_append _ _ _ _ _ _ key (has_written_styled_append _ _ _ _ _ _ value end)))
