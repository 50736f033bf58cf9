use Rattle.ixdtf_c.proofs.report_marks.add_pointed.Goals as goal
use Rattle.ixdtf_explanations.proofs.code.Pointed.{both_lines}
use Rattle.ixdtf_c.proofs.Added.{adds_as, adds_then}

pub returns : goal.returns
returns c =
    adds_as (both_lines _ _ _ _ _ _ c.column_of-column.ensures.column c.indent_of.ensures c.marks_of.ensures)
    (adds_then c.add_line-newline.ensures (adds_then c.add-spaces.ensures (adds_then c.add_repeated-marks.ensures c.add_repeated.ensures)))
