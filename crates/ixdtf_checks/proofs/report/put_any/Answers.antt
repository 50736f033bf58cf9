-- Proves that what is in the array and the report are written.
use Rattle.ixdtf_checks.proofs.report.put_any.Goals as goal
use Rattle.std.proofs.Common.{refl, []}
use Rattle.std.specs.Prelude.{option_map}
use Rattle.ixdtf_explanations.specs.Messages.{message_text}
use Rattle.ixdtf_checks.specs.{Seen.{lines_behind, seen_refusal}, Texts.text_of}

pub returns : goal.returns
returns g c =
    let refusal = c.refusal_of-refusal.result in
    let hint = c.shown_hint-hint.result in (
      text_of [] c.args.number refusal.column (message_text refusal.message) (lines_behind refusal.marked hint),
      (seen_refusal refusal, option_map message_text hint, c.refusal_of-refusal.ensures, c.shown_hint-hint.ensures, refl),
      c.put_after.ensures,
    )
