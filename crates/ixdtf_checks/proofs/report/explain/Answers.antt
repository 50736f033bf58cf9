-- Proves that each line has a report.
use Rattle.ixdtf_checks.proofs.report.explain.Goals as goal
use Rattle.std.proofs.Common.{◌∷◌, [], ◌++◌, None, refl}
use Rattle.ixdtf_buffers.specs.Lines.{newline}
use Rattle.ixdtf_checks.proofs.ReportLemmas.{reported}

pub returns-in-Printed : goal.returns-in-Printed
returns-in-Printed c = λ request number refusals printed. rw c.in-Printed.is (printed ++ newline ∷ [], refl)

pub returns-in-Refused : goal.returns-in-Refused
returns-in-Refused c = λ request number refusals printed. rw c.in-Refused.is (reported request number refusals None _ _ _ c.refusal_of-refusal.ensures c.hint_of-hint.ensures)
