-- Proves that the shown part and the marks at its ends are added.
use Rattle.ixdtf_checks.proofs.marked_text.add_shown.Goals as goal
use Rattle.std.proofs.Common.{ap}
use Rattle.ixdtf_buffers.proofs.AddingLemmas.{adds_then}
use Rattle.ixdtf_checks.specs.Pointed.{masked}
use Rattle.ixdtf_checks.proofs.PointedLemmas.{adds_same, part_same}

pub returns-clause-text : goal.returns-clause-text
returns-clause-text c =
    let window = c.args.window in
    let part = part_same c.args.bytes.now window.start window.end c.requires.fits.order in
    adds_then c.add_cut_mark-first.ensures.text (adds_then (adds_same (ap masked part) c.add_masked-second.ensures.text) c.add_behind.ensures.text)
