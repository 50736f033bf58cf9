-- Proves that the object about the refused line is written.
use Rattle.ixdtf_checks.proofs.json.put_object.Goals as goal
use Rattle.std.proofs.Common.{refl}
use Rattle.std.specs.Prelude.{option_map}
use Rattle.ixdtf_explanations.specs.Messages.{message_text}
use Rattle.ixdtf_checks.specs.{Reports.refusal_of, Seen.seen_refusal}
use Rattle.ixdtf_checks.specs.declared.request.Format.TheVariants.{Json}

pub returns : goal.returns
returns g c =
    let refusal = seen_refusal c.refusal_of-refusal.result in
    let hint = option_map message_text c.hint_of-hint.result in
    (refusal_of Json c.args.name.now c.args.number refusal hint, (refusal, hint, c.refusal_of-refusal.ensures, c.hint_of-hint.ensures, refl), c.put_members.ensures)
