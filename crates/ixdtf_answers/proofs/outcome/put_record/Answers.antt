-- Proves the case of a record without a calendar, and the case of a record with one.
use Rattle.ixdtf_answers.proofs.outcome.put_record.Goals as goal
use Rattle.std.proofs.Common.{refl, None, Some, [], ◌∷◌}
use Rattle.std.proofs.lemmas.List.{map-id}
use Rattle.ixdtf.specs.Views.{parsed_of}
use Rattle.ixdtf_buffers.specs.Lines.{newline}
use Rattle.ixdtf_buffers.proofs.OutputLemmas.{Puts-after, Puts-exit}
use Rattle.ixdtf_answers.proofs.PartsLemmas.{puts_same, record_whole}

pub returns-in-None : goal.returns-in-None
returns-in-None g c =
    let p = parsed_of (λ byte. byte) c.args.parts.now in
    puts_same (record_whole p None _ _ (newline ∷ []) (rw c.in-None.is refl) c.add_record_front-front.ensures.text.is c.zone_field_name-name.ensures)
    c.put_front_and_name.ensures

pub returns-in_err-put-in-Some : goal.returns-in_err-put-in-Some
returns-in_err-put-in-Some g c =
    let p = parsed_of (λ byte. byte) c.args.parts.now in
    puts_same (record_whole p (Some c.in-Some.calendar.now) _ _ (newline ∷ []) (rw (c.in-Some.is, map-id) refl) c.add_record_front-front.ensures.text.is c.zone_field_name-name.ensures)
    (Puts-exit _ c.in_err-put-in-Some.ensures c.from_residual.ensures.1)

pub returns-in_ok-put-in-Some : goal.returns-in_ok-put-in-Some
returns-in_ok-put-in-Some g c =
    let p = parsed_of (λ byte. byte) c.args.parts.now in
    puts_same (record_whole p (Some c.in-Some.calendar.now) _ _ (newline ∷ []) (rw (c.in-Some.is, map-id) refl) c.add_record_front-front.ensures.text.is c.zone_field_name-name.ensures)
    (Puts-after c.in_ok-put-in-Some.ensures c.put_name_and_calendar.ensures)
