-- Proves that the lines under the message are written.
use Rattle.ixdtf_checks.proofs.report.put_lines.Goals as goal
use Rattle.std.proofs.Common.{◌∷◌, append_assoc, take, Some}
use Rattle.std.proofs.lemmas.List.{append-nil}
use Rattle.ixdtf_explanations.specs.Messages.{message_text}
use Rattle.ixdtf_buffers.specs.Lines.{newline}
use Rattle.ixdtf_checks.specs.{Seen.lines_in, Verdicts.hint_line}

pub returns-in-None : goal.returns-in-None
returns-in-None g c =
    rw (c.in-None.is, append-nil (lines_in c.args.marked)) (rw c.add_marked-end.ensures.text.is at c.put.ensures)

pub returns-in-Some : goal.returns-in-Some
returns-in-Some g c =
    rw (c.in-Some.is, ← append_assoc (take c.args.at c.args.room.now) (newline ∷ lines_in c.args.marked) (hint_line (Some (message_text c.in-Some.hint))))
    (rw c.add_marked-end.ensures.text.is at c.put_hint.ensures)
