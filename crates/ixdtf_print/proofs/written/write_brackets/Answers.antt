use Rattle.ixdtf_print.proofs.written.write_brackets.Goals as goal
use Rattle.std.proofs.{Common.refl, Output.{has_written_styled_append, has_written_styled_of_eq}}
use Rattle.ixdtf_print.specs.Printable.{record_of}
use Rattle.ixdtf_print.proofs.code.DisplayedBytes.{brackets_bytes}

pub returns : goal.returns
returns g c = λ flush ok.
    let bracket = c.in_ok-write_bracket.ensures flush refl in
    let calendar = c.write_calendar.ensures bracket.flush ok in
    has_written_styled_of_eq _ _ _ _ _ (brackets_bytes (record_of c.args.parsed.now)) (has_written_styled_append _ _ _ _ _ _ bracket calendar)
