-- A refused line that is not reported has an empty report.
use Rattle.ixdtf_checks.proofs.report.put_report.Goals as goal
use Rattle.ixdtf_checks.proofs.report.put_report.Goals.{then-request-via-then-request, then-request-via-else-request+then-refusals-request}
use Rattle.std.proofs.Common.{rules, ◌≡◌, ap, ◌∙◌, true, nat_lt, refl, []}
use Rattle.std.specs.Prelude.{◌||◌}

pub returns-then-request : goal.returns-then-request
returns-then-request g c =
    let request = c.args.request.now in
    let over = nat_lt request.most_reports c.args.refusals in
    let passed : (request.is_quiet || over) ≡ true = elim c.then-request.branch [
      | then-request-via-then-request w ↦ ap (λ b. b || over) w.if-request.true
      | then-request-via-else-request+then-refusals-request w ↦ (let more : over ≡ true = search rules in ap (λ b. b || over) w.if-request.false ∙ more)
    ] in
    ([], rw (c.in-Refused.is, passed) refl, search rules)
