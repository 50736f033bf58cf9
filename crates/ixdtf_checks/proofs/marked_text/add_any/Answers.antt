-- Proves the case of a text, and the case of bytes that are not UTF-8.
use Rattle.ixdtf_checks.proofs.marked_text.add_any.Goals as goal
use Rattle.std.proofs.Common.{sym}
use Rattle.ixdtf_checks.proofs.PointedLemmas.{adds_none, adds_same, lines_hidden, lines_masked}

pub returns-in-Ok-clause-text : goal.returns-in-Ok-clause-text
returns-in-Ok-clause-text c =
    adds_same (lines_masked c.args.bytes.now c.args.part.begin c.args.part.end c.window_of.result c.in-Ok.ensures.cases.1 c.window_of.ensures.characters) (rw c.marks_of.ensures.marks at c.add_shown.ensures.text)

pub returns-in-Err-clause-text : goal.returns-in-Err-clause-text
returns-in-Err-clause-text c =
    adds_same (sym (lines_hidden c.args.bytes.now c.args.part.begin c.args.part.end c.in-Err.ensures.cases.0)) (adds_none c.args.room.now c.args.at)
