use Rattle.ixdtf_c.proofs.error_reports.ixdtf_hint.Goals as goal
use Rattle.std.proofs.Common.{◌≡◌, ◌∙◌, ℕ, List, length, min, Option, arith}
use Rattle.ixdtf_grammar.specs.declared.reason.Reason.{Reason}
use Rattle.ixdtf_explanations.specs.declared.message.Message.{Message}
use Rattle.ixdtf_explanations.specs.Hints.{IsHint}
use Rattle.ixdtf_c.specs.Reported.{Hints, Writes, hint_text}
use Rattle.ixdtf_c.proofs.{Reasoned.same_reason, Reporting.{too_short, written}}

-- The hint about a reason is that about each reason with the same number.
hinted : {reason other : Reason} {text old new : List ℕ} {at place count number : ℕ} (hint : Option Message) → reason ≡ other → at ≡ place
    → IsHint reason text (min at (length text)) hint → Writes (hint_text hint) old new count number → Hints other text place old new count number
hinted hint same here is_hint writes = rw (← same, ← here) (record { hint = hint; is_hint = is_hint; writes = writes })

pub returns-then-out-count-clause-hints : goal.returns-then-out-count-clause-hints
returns-then-out-count-clause-hints c reason is =
    hinted c.hint_in-hint.result (same_reason _ _ (c.in-Some.ensures.reason ∙ is)) c.in-Some.ensures.place c.hint_in-hint.ensures.hint (too_short c.add_hint.ensures (omega (arith, c.if-out-count.true)))

pub returns-clause-hints : goal.returns-clause-hints
returns-clause-hints c reason is =
    hinted c.hint_in-hint.result (same_reason _ _ (c.in-Some.ensures.reason ∙ is)) c.in-Some.ensures.place c.hint_in-hint.ensures.hint
    (written c.add_hint.ensures c.add_hint-end.ensures (omega (arith, c.if-out-count.false)) (omega arith))
