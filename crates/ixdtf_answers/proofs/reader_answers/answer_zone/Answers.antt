-- Proves the case of an accepted text, and the case of a refused text.
use Rattle.ixdtf_answers.proofs.reader_answers.answer_zone.Goals as goal
use Rattle.std.proofs.Common.{refl}
use Rattle.ixdtf.specs.{Views.zone_of, table.Faults.fault_of, language.Languages.Found.identified}
use Rattle.ixdtf_answers.proofs.PartsLemmas.{puts_found, puts_refused, refused_short}
use Rattle.ixdtf_answers.specs.declared.word.Word.TheVariants.{Zone}

pub returns-in-Ok : goal.returns-in-Ok
returns-in-Ok g c =
    let found = zone_of (λ byte. byte) c.in-Ok.zone in
    puts_found _ c.args.text.now (identified found) (rw c.from_utf8.ensures.rest at ((c.parse_identifier-outcome.ensures.reads.ok found).0 (rw c.in-Ok.is refl))) c.put_zone.ensures

pub put_error-requires : goal.put_error-requires
put_error-requires g c = refused_short Zone c.args.text.now (fault_of c.in-Err.error) (rw c.from_utf8.ensures.rest at (rw c.in-Err.is at c.parse_identifier-outcome.ensures.reads.err))

pub returns-in-Err : goal.returns-in-Err
returns-in-Err g c =
    puts_refused _ c.args.text.now (fault_of c.in-Err.error) (rw c.from_utf8.ensures.rest at (rw c.in-Err.is at c.parse_identifier-outcome.ensures.reads.err)) c.put_error.ensures
