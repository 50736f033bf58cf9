-- Proves that the reports were written to the two outputs.
use Rattle.ixdtf_checks.proofs.checker.check_all.Goals as goal
use Rattle.std.proofs.{Common.{◌≡◌, ◌∙◌, length, arith, refl, inl, inr}, KnownBytes.Consumes-whole}
use Rattle.ixdtf_buffers.specs.Lines.{lines_of, ended_lines_of}
use Rattle.ixdtf_buffers.proofs.LinesLemmas.{lines_most}
use Rattle.ixdtf_checks.specs.Checks.{Reports}
use Rattle.ixdtf_checks.proofs.{ReportLemmas.{adds_of, reports, reports_front, second_failed, ended_most, on_ok}, SecondLemmas.{ok_of, ran}}

pub returns-clause-same : goal.returns-clause-same
returns-clause-same g c =
    let d = c.drive-driven.ensures in
    let (read, consumed, counted, did) = ran _ _ _ _ _ _ _ _ _ d.ok d.read d.write in
    c.finish.ensures.same ∙ (adds_of _ _ _ _ _ _ did.steps).1.same

pub returns-clause-ok : goal.returns-clause-ok
returns-clause-ok g c = on_ok _ _ c.finish.result
    (λ (is, works, flushed).
    let (handed, end, (read, consumed, counted, does)) = ok_of _ c.drive-driven.ensures.ok is in
    Consumes-whole _ _ read (λ bytes. Reports _ _ _ _ _ _ (lines_of bytes) × (c.drive-driven.result.bytes ≡ length bytes)) consumed end (
      reports _ _ _ _ _ _ (lines_of read) refl c.requires.counts.0 c.requires.counts.1 c.requires.unseen (omega (arith, counted, lines_most read)) refl refl
          _ _ _ c.requires.works works c.finish.ensures.keeps does,
      counted,
    ))
    c.finish.ensures.ok

pub returns-clause-flushed : goal.returns-clause-flushed
returns-clause-flushed g c =
    on_ok _ _ c.finish.result (λ (is, works, flushed). ((ok_of _ c.drive-driven.ensures.ok is).0, flushed)) c.finish.ensures.ok

pub returns-clause-read : goal.returns-clause-read
returns-clause-read g c = λ is.
    let (ended, works) = c.finish.ensures.read is in
    let (stopped, (read, consumed, counted, does)) = c.drive-driven.ensures.read ended in (
      read,
      consumed,
      reports _ _ _ _ _ _ (ended_lines_of read) refl c.requires.counts.0 c.requires.counts.1 c.requires.unseen (omega (arith, counted, ended_most read)) refl refl
          _ _ _ c.requires.works works c.finish.ensures.keeps does,
      counted,
      rw counted at stopped,
    )

pub returns-clause-write : goal.returns-clause-write
returns-clause-write g c = λ is.
    let d = c.drive-driven.ensures in
    let (read, consumed, counted, did) = ran _ _ _ _ _ _ _ _ _ d.ok d.read d.write in (
      read,
      consumed,
      reports_front _ _ _ _ _ _ (lines_of read) refl c.requires.counts.0 c.requires.counts.1 c.requires.unseen (omega (arith, counted, lines_most read)) refl refl
          _ _ _ c.requires.works c.finish.ensures.keeps c.finish.ensures.still did,
      counted,
    )

pub returns-clause-unwritten : goal.returns-clause-unwritten
returns-clause-unwritten g c = λ is.
    let d = c.drive-driven.ensures in
    let (read, consumed, counted, did) = ran _ _ _ _ _ _ _ _ _ d.ok d.read d.write in
    elim (c.finish.ensures.write is) [
      | inl failed ↦ inr failed
      | inr (same, inl stopped) ↦ inr (rw same (second_failed g.E.Sink.contents g.E.Sink.failed _ _ _ _ c.requires.works did.steps stopped))
      | inr (same, inr ended) ↦ elim (d.write ended).0 [ inl failed ↦ inl failed | inr failed ↦ inr (rw same failed) ]
    ]
