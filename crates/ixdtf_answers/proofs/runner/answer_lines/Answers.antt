-- Proves that the answers were written.
use Rattle.ixdtf_answers.proofs.runner.answer_lines.Goals as goal
use Rattle.std.proofs.{Common.{inl, inr}, KnownBytes.Consumes-whole}
use Rattle.ixdtf_buffers.specs.Lines.{lines_of}
use Rattle.ixdtf_answers.specs.Run.{WritesAnswers}
use Rattle.ixdtf_answers.proofs.RunLemmas.{writes, writes_front, on_ok}

pub returns-clause-ok : goal.returns-clause-ok
returns-clause-ok g c = on_ok _ _ c.drive.result.end
    (λ (flushed, end, (read, consumed, counted, does)). Consumes-whole _ _ read (λ bytes. WritesAnswers _ _ (lines_of bytes)) consumed end (writes does))
    c.drive.ensures.ok

pub returns-clause-read : goal.returns-clause-read
returns-clause-read g c = λ is.
    let (stopped, (read, consumed, counted, does)) = c.drive.ensures.read is in (read, consumed, writes does, rw counted at stopped)

pub returns-clause-write : goal.returns-clause-write
returns-clause-write g c = λ is.
    let (failed, (read, consumed, counted, does)) = c.drive.ensures.write is in (read, consumed, writes_front does)

pub returns-clause-unwritten : goal.returns-clause-unwritten
returns-clause-unwritten g c = λ is. elim (c.drive.ensures.write is).0 [ inl failed ↦ failed | inr never ↦ absurd never ]
