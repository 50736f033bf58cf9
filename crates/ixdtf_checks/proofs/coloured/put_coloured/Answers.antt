-- Proves that the parts of the report are written, one after the other.
use Rattle.ixdtf_checks.proofs.coloured.put_coloured.Goals as goal
use Rattle.std.specs.Prelude.{option_map}
use Rattle.ixdtf_explanations.specs.Messages.{message_text}
use Rattle.ixdtf_buffers.proofs.OutputLemmas.{Puts-after, Puts-exit}
use Rattle.ixdtf_checks.{specs.Seen.seen_refusal, proofs.ColouredLemmas.reported}

pub returns-in_err-put_head : goal.returns-in_err-put_head
returns-in_err-put_head g c =
    reported _ _ _ _ (seen_refusal c.refusal_of-refusal.result) (option_map message_text c.shown_hint-hint.result) c.refusal_of-refusal.ensures c.shown_hint-hint.ensures
    (Puts-exit _ c.in_err-put_head.ensures c.from_residual.ensures.1)

pub returns-in_err-put_message : goal.returns-in_err-put_message
returns-in_err-put_message g c =
    reported _ _ _ _ (seen_refusal c.refusal_of-refusal.result) (option_map message_text c.shown_hint-hint.result) c.refusal_of-refusal.ensures c.shown_hint-hint.ensures
    (Puts-after c.in_ok-put_head.ensures (Puts-exit _ c.in_err-put_message.ensures c.from_residual-in_err-put_message.ensures.1))

pub returns-in_err-put : goal.returns-in_err-put
returns-in_err-put g c =
    reported _ _ _ _ (seen_refusal c.refusal_of-refusal.result) (option_map message_text c.shown_hint-hint.result) c.refusal_of-refusal.ensures c.shown_hint-hint.ensures
    (Puts-after c.in_ok-put_head.ensures (Puts-after c.in_ok-put_message.ensures (Puts-exit _ c.in_err-put.ensures c.from_residual-in_err-put.ensures.1)))

pub returns-in_err-put_lines : goal.returns-in_err-put_lines
returns-in_err-put_lines g c =
    reported _ _ _ _ (seen_refusal c.refusal_of-refusal.result) (option_map message_text c.shown_hint-hint.result) c.refusal_of-refusal.ensures c.shown_hint-hint.ensures
    (Puts-after c.in_ok-put_head.ensures (Puts-after c.in_ok-put_message.ensures (Puts-after c.in_ok-put.ensures (Puts-exit _ c.in_err-put_lines.ensures c.from_residual-in_err-put_lines.ensures.1))))

pub returns : goal.returns
returns g c =
    reported _ _ _ _ (seen_refusal c.refusal_of-refusal.result) (option_map message_text c.shown_hint-hint.result) c.refusal_of-refusal.ensures c.shown_hint-hint.ensures
    (Puts-after c.in_ok-put_head.ensures (Puts-after c.in_ok-put_message.ensures (Puts-after c.in_ok-put.ensures (Puts-after c.in_ok-put_lines.ensures c.put_hint.ensures))))
