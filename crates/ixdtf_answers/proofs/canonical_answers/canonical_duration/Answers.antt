-- Proves the case of an accepted text, and the case of a refused text.
use Rattle.ixdtf_answers.proofs.canonical_answers.canonical_duration.Goals as goal
use Rattle.std.proofs.Common.{refl, arith}
use Rattle.ixdtf.specs.language.Languages.Found.{lasting}
use Rattle.ixdtf_grammar.specs.declared.profile.Profile.TheVariants.{Crate}
use Rattle.ixdtf_print.{specs.{Durations.duration_text}, proofs.theorems.PrintableDurations.duration_fits}
use Rattle.ixdtf_answers.specs.{Answer.letters, declared.word.Word.TheVariants.CanonicalDuration}
use Rattle.ixdtf_answers.proofs.PrintedLemmas.{is_printed}

pub returns-in-Ok : goal.returns-in-Ok
returns-in-Ok c =
    let found = c.in-Ok.duration in
    let given = rw (c.from_utf8.ensures.profile, c.from_utf8.ensures.rest) at ((c.parse-read.ensures.reads.ok found).0 (rw c.in-Ok.is refl)) in
    is_printed CanonicalDuration c.args.text.now (lasting found) (duration_text found) given refl (omega (arith, duration_fits Crate (letters c.args.text.now) found given)) c.requires (omega (arith, c.told-room))
    (letters c.args.text.now, given) c.print_duration.ensures.prints c.count_of.ensures

pub returns-in-Err : goal.returns-in-Err
returns-in-Err c = record { ok = tt; err = rw (c.from_utf8.ensures.profile, c.from_utf8.ensures.rest) at (rw c.in-Err.is at c.parse-read.ensures.reads.err) }
