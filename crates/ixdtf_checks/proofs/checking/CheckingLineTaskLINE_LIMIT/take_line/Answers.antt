-- Proves that the line is reported to one of the outputs, and counted.
use Rattle.ixdtf_checks.proofs.checking.CheckingLineTaskLINE_LIMIT.take_line.Goals as goal
use Rattle.std.proofs.Common.{[], true, false, refl, ◌∙◌}
use Rattle.ixdtf_buffers.proofs.OutputLemmas.{Puts-either}
use Rattle.ixdtf_checks.specs.Seen.{seen}
use Rattle.ixdtf_checks.proofs.{ReportLemmas.line_reported, SecondLemmas.{AddsReports-nil, Puts-none}}

pub returns-then-goes_to_second-clause-takes : goal.returns-then-goes_to_second-clause-takes
returns-then-goes_to_second-clause-takes g c = λ text is.
    let printed = c.judge.new.printed in
    let (report, reports, adds) = c.put.ensures.adds in
    record {
      bytes = [];
      steps = (
        refl,
        (
          report,
          line_reported (seen printed c.judge.new.verdict) report true (c.goes_to_second.ensures printed ∙ c.if-goes_to_second.true) reports
              (c.judge.ensures.verdict text is) (c.judge.ensures.kept printed) c.add_line.ensures.lines (rw (← c.is_refused.ensures printed) at c.add_line.ensures.refused),
          adds,
        ),
      );
      puts = Puts-none c.put.ensures.err;
    }

pub returns-clause-takes : goal.returns-clause-takes
returns-clause-takes g c = λ text is.
    let printed = c.judge.new.printed in
    let (report, reports, puts) = c.put_report.ensures in
    record {
      bytes = report;
      steps = (
        refl,
        (
          [],
          line_reported (seen printed c.judge.new.verdict) report false (c.goes_to_second.ensures printed ∙ c.if-goes_to_second.false) reports
              (c.judge.ensures.verdict text is) (c.judge.ensures.kept printed) c.add_line.ensures.lines (rw (← c.is_refused.ensures printed) at c.add_line.ensures.refused),
          AddsReports-nil,
        ),
      );
      puts = Puts-either puts;
    }
