-- Proves the case of an accepted text, and the case of a refused text.
use Rattle.ixdtf_answers.proofs.reader_answers.answer_duration.Goals as goal
use Rattle.std.proofs.Common.{refl}
use Rattle.ixdtf.specs.{table.Faults.fault_of, language.Languages.Found.lasting}
use Rattle.ixdtf_answers.proofs.PartsLemmas.{puts_found, puts_refused, refused_short}

pub returns-in-Ok : goal.returns-in-Ok
returns-in-Ok g c =
    let found = c.in-Ok.duration in
    let reads = rw (c.with_profile-reader.ensures.profile, c.with_profile-reader.ensures.rest, c.from_utf8.ensures.rest) at c.in-Ok.ensures.reads in
    puts_found c.args.word c.args.text.now (lasting found) (rw c.requires.reader ((reads.ok found).0 refl)) (rw c.requires.fields c.put_duration.ensures)

pub put_error-requires : goal.put_error-requires
put_error-requires g c =
    let reads = rw (c.with_profile-reader.ensures.profile, c.with_profile-reader.ensures.rest, c.from_utf8.ensures.rest) at c.in-Err.ensures.reads in
    refused_short c.args.word c.args.text.now (fault_of c.in-Err.error) (rw c.requires.reader reads.err)

pub returns-in-Err : goal.returns-in-Err
returns-in-Err g c =
    let reads = rw (c.with_profile-reader.ensures.profile, c.with_profile-reader.ensures.rest, c.from_utf8.ensures.rest) at c.in-Err.ensures.reads in
    puts_refused c.args.word c.args.text.now (fault_of c.in-Err.error) (rw c.requires.reader reads.err) c.put_error.ensures
