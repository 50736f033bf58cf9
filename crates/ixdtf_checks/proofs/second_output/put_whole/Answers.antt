-- Proves that the report is put into the output, and that its buffer is then written to the sink.
use Rattle.ixdtf_checks.proofs.second_output.put_whole.Goals as goal
use Rattle.std.proofs.{Common.{[]}, lemmas.List.{append-nil}}
use Rattle.ixdtf_buffers.proofs.OutputLemmas.{Puts-exit, Puts-written}

pub returns-in_err-put_report-clause-puts : goal.returns-in_err-put_report-clause-puts
returns-in_err-put_report-clause-puts g c =
    let (report, is, puts) = c.in_err-put_report.ensures in (report, is, rw append-nil at (Puts-exit [] puts c.from_residual.ensures.1))

pub returns-clause-puts : goal.returns-clause-puts
returns-clause-puts g c =
    let (report, is, puts) = c.in_ok-put_report.ensures in (report, is, Puts-written _ puts c.hand_on.ensures.puts)
