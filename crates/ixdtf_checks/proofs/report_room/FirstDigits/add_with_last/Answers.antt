-- The first digits are written, and then the last digit.
use Rattle.ixdtf_checks.proofs.report_room.FirstDigits.add_with_last.Goals as goal
use Rattle.std.proofs.Common.{◌+◌, arith, refl}
use Rattle.ixdtf_buffers.proofs.AddingLemmas.{adds_front, adds_then}
use Rattle.ixdtf_checks.proofs.NumberLemmas.{last_digit}

pub returns-clause-text : goal.returns-clause-text
returns-clause-text g c =
    let kept = c.args.self.now in
    rw (last_digit kept.least c.args.last kept.tens c.requires.digit c.requires.fits, ← kept.first)
    (adds_then
    (adds_front c.args.room.now c.add_bytes-end.new.room c.args.at c.add_bytes-end.result (c.args.at + kept.count) kept.count kept.digits (omega (arith, c.requires.room))
    c.add_bytes-end.ensures.place refl (omega (arith, kept.few)) c.add_bytes-end.ensures.text)
    c.add_byte.ensures.text)
