-- The lines under the message show a text that is refused as a whole.
use Rattle.ixdtf_checks.proofs.report_contents.refusal_of.Goals as goal
use Rattle.std.proofs.Common.{refl, subst, sym}
use Rattle.ixdtf_checks.specs.{Seen.seen_cause, Verdicts.Tells}
use Rattle.ixdtf_checks.specs.declared.cause.Cause.TheVariants as causes
use Rattle.ixdtf_checks.proofs.VerdictLemmas.{shows_part}

pub returns-in-Untimed : goal.returns-in-Untimed
returns-in-Untimed c =
    let text = c.in-Untimed.text in
    rw c.in-Untimed.is
    (subst (λ told. Tells (seen_cause (causes.Untimed text)) told) (sym c.refused_text.ensures) (refl, shows_part text.text.now (record { begin = 0; end = 0 })))

pub returns-in-Early : goal.returns-in-Early
returns-in-Early c =
    let text = c.in-Early.text in
    rw c.in-Early.is
    (subst (λ told. Tells (seen_cause (causes.Early c.in-Early.field-0 text)) told) (sym c.refused_text-in-Early.ensures)
    (refl, shows_part text.text.now (record { begin = 0; end = 0 })))
