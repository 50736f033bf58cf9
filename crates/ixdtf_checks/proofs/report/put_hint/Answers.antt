-- Proves that the bytes of the array and the line with the hint are written.
use Rattle.ixdtf_checks.proofs.report.put_hint.Goals as goal
use Rattle.std.proofs.Common.{◌∷◌, [], ◌++◌, append_assoc, ◌∙◌, refl, take, codes}
use Rattle.ixdtf_explanations.specs.Messages.{message_text}
use Rattle.ixdtf_buffers.proofs.{AddingLemmas.adds_then, OutputLemmas.{Puts-after, Puts-exit}}
use Rattle.ixdtf_buffers.specs.Lines.{newline}

pub returns-in_err-put-in-None : goal.returns-in_err-put-in-None
returns-in_err-put-in-None g c =
    let front = take c.args.at c.args.room.now in
    let placed = c.in-None.ensures.none refl ∙ c.add_bytes-words.ensures.text.is in
    rw (← append_assoc front (codes "hint: ") (message_text c.args.hint.now ++ newline ∷ []))
    (Puts-exit _ (rw placed at c.in_err-put-in-None.ensures) c.from_residual.ensures.1)

pub returns-in_err-put_message-in-None : goal.returns-in_err-put_message-in-None
returns-in_err-put_message-in-None g c =
    let front = take c.args.at c.args.room.now in
    let placed = c.in-None.ensures.none refl ∙ c.add_bytes-words.ensures.text.is in
    rw (← append_assoc front (codes "hint: ") (message_text c.args.hint.now ++ newline ∷ []))
    (Puts-after (rw placed at c.in_ok-put-in-None.ensures)
    (Puts-exit _ c.in_err-put_message-in-None.ensures c.from_residual-in_err-put_message-in-None.ensures.1))

pub returns-in-Some : goal.returns-in-Some
returns-in-Some g c =
    let made = adds_then c.add_bytes-words.ensures.text (adds_then c.in-Some.ensures.text c.add_byte-filled.ensures.text) in
    rw made.is at c.put.ensures

pub returns-in_ok-put_message-in-None : goal.returns-in_ok-put_message-in-None
returns-in_ok-put_message-in-None g c =
    let front = take c.args.at c.args.room.now in
    let placed = c.in-None.ensures.none refl ∙ c.add_bytes-words.ensures.text.is in
    rw (← append_assoc front (codes "hint: ") (message_text c.args.hint.now ++ newline ∷ []))
    (Puts-after (rw placed at c.in_ok-put-in-None.ensures) (Puts-after c.in_ok-put_message-in-None.ensures c.put-in-None-2.ensures))
