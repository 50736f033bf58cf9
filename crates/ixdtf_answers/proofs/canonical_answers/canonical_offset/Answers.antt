-- Proves the case of an accepted text, and the case of a refused text.
use Rattle.ixdtf_answers.proofs.canonical_answers.canonical_offset.Goals as goal
use Rattle.std.proofs.Common.{refl, arith}
use Rattle.ixdtf.specs.language.Languages.Found.{shifted}
use Rattle.ixdtf_print.{specs.{Offsets.utc_offset_text}, proofs.theorems.PrintableOffsets.offset_fits}
use Rattle.ixdtf_answers.specs.{Answer.letters, declared.word.Word.TheVariants.CanonicalOffset}
use Rattle.ixdtf_answers.proofs.PrintedLemmas.{is_printed}

pub returns-in-Ok : goal.returns-in-Ok
returns-in-Ok c =
    let found = c.in-Ok.offset in
    let given = rw c.from_utf8.ensures.rest at ((c.parse_offset-read.ensures.reads.ok found).0 (rw c.in-Ok.is refl)) in
    is_printed CanonicalOffset c.args.text.now (shifted found) (utc_offset_text found) given refl (omega (arith, offset_fits (letters c.args.text.now) found given)) c.requires (omega (arith, c.told-room))
    (letters c.args.text.now, given) c.print_offset.ensures.prints c.count_of.ensures

pub returns-in-Err : goal.returns-in-Err
returns-in-Err c = record { ok = tt; err = rw c.from_utf8.ensures.rest at (rw c.in-Err.is at c.parse_offset-read.ensures.reads.err) }
