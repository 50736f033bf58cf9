use Rattle.ixdtf_grammar.proofs.error.ParseErrorDisplay.fmt.Goals as goal
use Rattle.std.proofs.Output.{has_written_styled_append}
use Rattle.std.specs.Result.{IsOk}

-- The beginning of the message is written, and then the location, whatever the options are.
pub returns-in_ok-write_str-clause-styled : goal.returns-in_ok-write_str-clause-styled
returns-in_ok-write_str-clause-styled g c = λ flush ok.
    let went : IsOk c.write_str.result = rw c.in_ok-write_str.was in
    let first = c.write_str.ensures.styled flush went in
    let second = c.write_str-in-AbruptEnd.ensures.styled first.flush ok in
    rw c.in-AbruptEnd.is (has_written_styled_append _ _ _ _ _ _ first second)
