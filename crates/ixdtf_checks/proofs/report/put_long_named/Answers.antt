-- Proves that a long name and the other bytes of the report are written.
use Rattle.ixdtf_checks.proofs.report.put_long_named.Goals as goal
use Rattle.std.proofs.Common.{refl}
use Rattle.std.specs.Prelude.{option_map}
use Rattle.ixdtf_explanations.specs.Messages.{message_text}
use Rattle.ixdtf_buffers.proofs.OutputLemmas.{Puts-after, Puts-exit}
use Rattle.ixdtf_checks.specs.{Seen.{lines_behind, seen_refusal}, Texts.text_of}

pub returns-in_err-put : goal.returns-in_err-put
returns-in_err-put g c =
    let refusal = c.refusal_of-refusal.result in
    let hint = c.shown_hint-hint.result in (
      text_of c.args.name.now c.args.number refusal.column (message_text refusal.message) (lines_behind refusal.marked hint),
      (seen_refusal refusal, option_map message_text hint, c.refusal_of-refusal.ensures, c.shown_hint-hint.ensures, refl),
      Puts-exit _ c.in_err-put.ensures c.from_residual.ensures.1,
    )

pub returns : goal.returns
returns g c =
    let refusal = c.refusal_of-refusal.result in
    let hint = c.shown_hint-hint.result in (
      text_of c.args.name.now c.args.number refusal.column (message_text refusal.message) (lines_behind refusal.marked hint),
      (seen_refusal refusal, option_map message_text hint, c.refusal_of-refusal.ensures, c.shown_hint-hint.ensures, refl),
      Puts-after c.in_ok-put.ensures c.put_after.ensures,
    )
