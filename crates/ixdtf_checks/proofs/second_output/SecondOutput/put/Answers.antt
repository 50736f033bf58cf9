-- Proves what is in the sink after the report.
use Rattle.ixdtf_checks.proofs.second_output.SecondOutput.put.Goals as goal
use Rattle.ixdtf_checks.proofs.SecondLemmas.{AddsReports-put, AddsReports-still}

pub returns-then-self-clause-adds : goal.returns-then-self-clause-adds
returns-then-self-clause-adds g c =
    let (report, is) = c.explain.ensures c.args.request.now c.args.number c.args.refusals c.args.printed.now in
    (report, is, AddsReports-still report c.if-self.true)

pub returns-clause-adds : goal.returns-clause-adds
returns-clause-adds g c =
    let (report, is, puts) = c.put_whole-result.ensures.puts in
    (report, is, AddsReports-put c.if-self.false c.is_err-self.ensures.value c.put_whole-result.ensures.empty puts)
