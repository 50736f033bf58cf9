use Rattle.ixdtf_explanations.proofs.pointed.PointedTextDisplay.fmt.Goals as goal
use Rattle.std.proofs.{Common.{refl}, Output.{has_written_styled_append, has_written_styled_of_eq}}
use Rattle.ixdtf_explanations.proofs.code.Pointed.{both_lines}

pub returns-clause-styled : goal.returns-clause-styled
returns-clause-styled g c = λ flush ok.
    let line = c.in_ok-write_line.ensures flush refl in
    let newline = c.in_ok-write_str.ensures.styled line.flush refl in
    let spaces = c.in_ok-write_spaces.ensures newline.flush refl in
    let marks = c.write_marks.ensures spaces.flush ok in
    has_written_styled_of_eq _ _ _ _ _ (both_lines _ _ _ _ _ _ c.column_of-column.ensures.column c.indent_of.ensures c.marks_of.ensures)
    (has_written_styled_append _ _ _ _ _ _ line (has_written_styled_append _ _ _ _ _ _ newline (has_written_styled_append _ _ _ _ _ _ spaces marks)))
