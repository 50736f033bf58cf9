-- Proves that the members are written, one after the other.
use Rattle.ixdtf_checks.proofs.json.put_members.Goals as goal
use Rattle.ixdtf_checks.proofs.JsonLemmas.{Puts-same, object-line, object_put}
use Rattle.std.specs.Prelude.{option_map}
use Rattle.ixdtf_explanations.specs.Messages.{message_text}
use Rattle.ixdtf_checks.specs.Seen.{seen_refusal}
use Rattle.ixdtf_buffers.proofs.OutputLemmas.{Puts-after, Puts-exit}

pub returns-in_err-put_member : goal.returns-in_err-put_member
returns-in_err-put_member g c =
    Puts-same (object-line c.args.name.now c.args.number (seen_refusal c.args.refusal.now) (option_map message_text c.args.hint))
    (Puts-exit _ (rw c.as_bytes.ensures.value at c.in_err-put_member.ensures) c.from_residual.ensures.1)

pub returns-in_err-put_place : goal.returns-in_err-put_place
returns-in_err-put_place g c =
    Puts-same (object-line c.args.name.now c.args.number (seen_refusal c.args.refusal.now) (option_map message_text c.args.hint))
    (Puts-after (rw c.as_bytes.ensures.value at c.in_ok-put_member.ensures)
    (Puts-exit _ c.in_err-put_place.ensures c.from_residual-in_err-put_place.ensures.1))

pub returns-in_err-put_member-2 : goal.returns-in_err-put_member-2
returns-in_err-put_member-2 g c =
    Puts-same (object-line c.args.name.now c.args.number (seen_refusal c.args.refusal.now) (option_map message_text c.args.hint))
    (Puts-after (rw c.as_bytes.ensures.value at c.in_ok-put_member.ensures)
    (Puts-after c.in_ok-put_place.ensures
    (Puts-exit _ (rw (c.as_bytes-2.ensures.value, c.name_of.ensures) at c.in_err-put_member-2.ensures) c.from_residual-in_err-put_member-2.ensures.1)))

pub returns-in_err-put : goal.returns-in_err-put
returns-in_err-put g c =
    object_put c.args.name.now c.args.number (seen_refusal c.args.refusal.now) (option_map message_text c.args.hint) (rw c.as_bytes.ensures.value at c.in_ok-put_member.ensures)
    c.in_ok-put_place.ensures (rw (c.as_bytes-2.ensures.value, c.name_of.ensures) at c.in_ok-put_member-2.ensures)
    (Puts-exit _ c.in_err-put.ensures c.from_residual-in_err-put.ensures.1)

pub returns-in_err-put_message : goal.returns-in_err-put_message
returns-in_err-put_message g c =
    object_put c.args.name.now c.args.number (seen_refusal c.args.refusal.now) (option_map message_text c.args.hint) (rw c.as_bytes.ensures.value at c.in_ok-put_member.ensures)
    c.in_ok-put_place.ensures (rw (c.as_bytes-2.ensures.value, c.name_of.ensures) at c.in_ok-put_member-2.ensures)
    (Puts-after c.in_ok-put.ensures (Puts-exit _ c.in_err-put_message.ensures c.from_residual-in_err-put_message.ensures.1))

pub returns-in_err-put_hint : goal.returns-in_err-put_hint
returns-in_err-put_hint g c =
    object_put c.args.name.now c.args.number (seen_refusal c.args.refusal.now) (option_map message_text c.args.hint) (rw c.as_bytes.ensures.value at c.in_ok-put_member.ensures)
    c.in_ok-put_place.ensures (rw (c.as_bytes-2.ensures.value, c.name_of.ensures) at c.in_ok-put_member-2.ensures)
    (Puts-after c.in_ok-put.ensures (Puts-after c.in_ok-put_message.ensures (Puts-exit _ c.in_err-put_hint.ensures c.from_residual-in_err-put_hint.ensures.1)))

pub returns : goal.returns
returns g c =
    object_put c.args.name.now c.args.number (seen_refusal c.args.refusal.now) (option_map message_text c.args.hint) (rw c.as_bytes.ensures.value at c.in_ok-put_member.ensures)
    c.in_ok-put_place.ensures (rw (c.as_bytes-2.ensures.value, c.name_of.ensures) at c.in_ok-put_member-2.ensures)
    (Puts-after c.in_ok-put.ensures (Puts-after c.in_ok-put_message.ensures (Puts-after c.in_ok-put_hint.ensures c.put-2.ensures)))
