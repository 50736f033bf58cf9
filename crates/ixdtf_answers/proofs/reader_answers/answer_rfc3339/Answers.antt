-- Proves the case of an accepted text, and the case of a refused text.
use Rattle.ixdtf_answers.proofs.reader_answers.answer_rfc3339.Goals as goal
use Rattle.std.proofs.Common.{refl}
use Rattle.ixdtf.specs.{Views.parsed_of, table.Faults.fault_of, language.Languages.Found.dated}
use Rattle.ixdtf_answers.proofs.PartsLemmas.{puts_found, puts_refused, refused_short}
use Rattle.ixdtf_answers.specs.declared.word.Word.TheVariants.{Rfc3339}

pub returns-in-Ok : goal.returns-in-Ok
returns-in-Ok g c =
    let found = parsed_of (λ byte. byte) c.in-Ok.date_time in
    puts_found _ c.args.text.now (dated found) (rw c.from_utf8.ensures.rest at ((c.parse_rfc3339-outcome.ensures.reads.ok found).0 (rw c.in-Ok.is refl))) c.put_record.ensures

pub put_error-requires : goal.put_error-requires
put_error-requires g c =
    refused_short Rfc3339 c.args.text.now (fault_of c.in-Err.error) (rw c.from_utf8.ensures.rest at (rw c.in-Err.is at c.parse_rfc3339-outcome.ensures.reads.err))

pub returns-in-Err : goal.returns-in-Err
returns-in-Err g c =
    puts_refused _ c.args.text.now (fault_of c.in-Err.error) (rw c.from_utf8.ensures.rest at (rw c.in-Err.is at c.parse_rfc3339-outcome.ensures.reads.err)) c.put_error.ensures
