-- Proves the case of an accepted text, and the case of a refused text.
use Rattle.ixdtf_answers.proofs.canonical_answers.canonical_zone.Goals as goal
use Rattle.std.proofs.Common.{refl, arith}
use Rattle.ixdtf.specs.language.Languages.Found.{identified}
use Rattle.ixdtf_print.{specs.{Canonical.zone_text, Zones.zone_in}, proofs.theorems.PrintableZones.zone_fits}
use Rattle.ixdtf_answers.specs.{Answer.letters, declared.word.Word.TheVariants.CanonicalZone}
use Rattle.ixdtf_answers.proofs.PrintedLemmas.{is_printed}

pub returns-in-Ok : goal.returns-in-Ok
returns-in-Ok c =
    let found = zone_in c.in-Ok.zone in
    let given = rw c.from_utf8.ensures.rest at ((c.parse_identifier-read.ensures.reads.ok found).0 (rw c.in-Ok.is refl)) in
    is_printed CanonicalZone c.args.text.now (identified found) (zone_text found) given refl (omega (arith, zone_fits (letters c.args.text.now) found given)) c.requires (omega (arith, c.told-room))
    (letters c.args.text.now, given) c.print_zone.ensures.prints c.count_of.ensures

pub returns-in-Err : goal.returns-in-Err
returns-in-Err c = record { ok = tt; err = rw c.from_utf8.ensures.rest at (rw c.in-Err.is at c.parse_identifier-read.ensures.reads.err) }
