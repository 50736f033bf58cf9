use Rattle.ixdtf_c.proofs.error_reports.ixdtf_describe.Goals as goal
use Rattle.std.proofs.Common.{◌≡◌, ◌∙◌, ℕ, List, length, min, Option, arith}
use Rattle.ixdtf_grammar.specs.declared.reason.Reason.{Reason}
use Rattle.ixdtf_explanations.specs.declared.part.WrongPart.{WrongPart}
use Rattle.ixdtf_explanations.specs.declared.message.Message.{Message}
use Rattle.ixdtf_explanations.specs.Parts.{IsPart, extent_of}
use Rattle.ixdtf_explanations.specs.Messages.{IsMessage}
use Rattle.ixdtf_explanations.specs.Hints.{IsHint}
use Rattle.ixdtf_c.specs.Reported.{Describes, Writes, report_text}
use Rattle.ixdtf_c.proofs.{Reasoned.same_reason, Reporting.{too_short, written}}

-- The report of a reason is that of each reason with the same number.
described : {reason other : Reason} {text old new : List ℕ} {at place count number : ℕ} (message : Message) (part : WrongPart) (hint : Option Message) → reason ≡ other → at ≡ place
    → IsMessage reason text (min at (length text)) message → IsPart (extent_of reason) text (min at (length text)) part → IsHint reason text (min at (length text)) hint
    → Writes (report_text message part hint text) old new count number → Describes other text place old new count number
described message part hint same here is_message is_part is_hint writes = rw (← same, ← here) (record {
  message = message;
  part = part;
  hint = hint;
  is_message = is_message;
  is_part = is_part;
  is_hint = is_hint;
  writes = writes;
})

pub returns-then-out-count-clause-describes : goal.returns-then-out-count-clause-describes
returns-then-out-count-clause-describes c reason is =
    described c.message_in.result c.part_in.result c.hint_in.result (same_reason _ _ (c.in-Some.ensures.reason ∙ is)) c.in-Some.ensures.place c.message_in.ensures.message c.part_in.ensures.part c.hint_in.ensures.hint
    (too_short c.add_report.ensures (omega (arith, c.if-out-count.true)))

pub returns-clause-describes : goal.returns-clause-describes
returns-clause-describes c reason is =
    described c.message_in.result c.part_in.result c.hint_in.result (same_reason _ _ (c.in-Some.ensures.reason ∙ is)) c.in-Some.ensures.place c.message_in.ensures.message c.part_in.ensures.part c.hint_in.ensures.hint
    (written c.add_report.ensures c.add_report-end.ensures (omega (arith, c.if-out-count.false)) (omega arith))
