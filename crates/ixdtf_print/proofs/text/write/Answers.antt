use Rattle.ixdtf_print.proofs.text.write.Goals as goal
use Rattle.std.proofs.{Common.{refl, sym, ap, ◌∙◌}, Output.{has_written_styled_append, has_written_styled_of_eq}}
use Rattle.ixdtf_print.specs.Shown.{bytes_of}
use Rattle.ixdtf_print.proofs.code.DisplayedBytes.{bytes-append}

pub returns : goal.returns
returns g c = λ flush ok.
    let core = c.in_ok-write_core.ensures flush refl in
    let tail = c.write_tail.ensures core.flush ok in
    has_written_styled_of_eq _ _ _ _ _ (sym (bytes-append _ _) ∙ ap bytes_of (sym c.tail.ensures)) (has_written_styled_append _ _ _ _ _ _ core tail)
