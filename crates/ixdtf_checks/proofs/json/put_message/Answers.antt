-- Proves that the three parts of the message are written, between quotes.
use Rattle.ixdtf_checks.proofs.json.put_message.Goals as goal
use Rattle.std.proofs.Common.{sym}
use Rattle.ixdtf_checks.proofs.JsonLemmas.{Puts-same, string-parts, string_put}
use Rattle.ixdtf_buffers.proofs.OutputLemmas.{Puts-after, Puts-exit}
use Rattle.ixdtf_explanations.specs.Messages.{shown_text}

pub returns-in_err-put : goal.returns-in_err-put
returns-in_err-put g c = Puts-exit _ c.in_err-put.ensures c.from_residual.ensures.1

pub returns-in_err-put_escaped : goal.returns-in_err-put_escaped
returns-in_err-put_escaped g c =
    let message = c.args.message.now in
    Puts-same (sym (string-parts message.before.now (shown_text message.shown) message.after.now))
    (Puts-after c.in_ok-put.ensures
    (Puts-exit _ (rw c.as_bytes.ensures.value at c.in_err-put_escaped.ensures) c.from_residual-in_err-put_escaped.ensures.1))

pub returns-in_err-put_escaped-2 : goal.returns-in_err-put_escaped-2
returns-in_err-put_escaped-2 g c =
    let message = c.args.message.now in
    string_put message.before.now (shown_text message.shown) message.after.now c.in_ok-put.ensures (rw c.as_bytes.ensures.value at c.in_ok-put_escaped.ensures)
    (Puts-exit _ (rw c.shown_bytes-shown.ensures at c.in_err-put_escaped-2.ensures) c.from_residual-in_err-put_escaped-2.ensures.1)

pub returns-in_err-put_escaped-3 : goal.returns-in_err-put_escaped-3
returns-in_err-put_escaped-3 g c =
    let message = c.args.message.now in
    string_put message.before.now (shown_text message.shown) message.after.now c.in_ok-put.ensures (rw c.as_bytes.ensures.value at c.in_ok-put_escaped.ensures)
    (Puts-after (rw c.shown_bytes-shown.ensures at c.in_ok-put_escaped-2.ensures)
    (Puts-exit _ (rw c.as_bytes-2.ensures.value at c.in_err-put_escaped-3.ensures) c.from_residual-in_err-put_escaped-3.ensures.1))

pub returns : goal.returns
returns g c =
    let message = c.args.message.now in
    string_put message.before.now (shown_text message.shown) message.after.now c.in_ok-put.ensures (rw c.as_bytes.ensures.value at c.in_ok-put_escaped.ensures)
    (Puts-after (rw c.shown_bytes-shown.ensures at c.in_ok-put_escaped-2.ensures) (Puts-after (rw c.as_bytes-2.ensures.value at c.in_ok-put_escaped-3.ensures) c.put-2.ensures))
