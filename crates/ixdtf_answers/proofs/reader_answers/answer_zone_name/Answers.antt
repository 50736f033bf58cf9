-- Proves the case of an accepted text, and the case of a refused text.
use Rattle.ixdtf_answers.proofs.reader_answers.answer_zone_name.Goals as goal
use Rattle.std.proofs.Common.{refl, map}
use Rattle.ixdtf.specs.{table.Faults.fault_of, language.Languages.Found.named}
use Rattle.ixdtf_answers.proofs.PartsLemmas.{puts_found, puts_refused, refused_short}

pub returns-in-Ok : goal.returns-in-Ok
returns-in-Ok g c =
    let found = map (λ byte. byte) c.in-Ok.name.now in
    let reads = rw c.from_utf8.ensures.rest at c.in-Ok.ensures.reads in
    puts_found c.args.word c.args.text.now (named found) (rw c.requires.reader ((reads.ok found).0 refl)) (rw c.requires.fields c.put_zone.ensures)

pub put_error-requires : goal.put_error-requires
put_error-requires g c =
    let reads = rw c.from_utf8.ensures.rest at c.in-Err.ensures.reads in
    refused_short c.args.word c.args.text.now (fault_of c.in-Err.error) (rw c.requires.reader reads.err)

pub returns-in-Err : goal.returns-in-Err
returns-in-Err g c =
    let reads = rw c.from_utf8.ensures.rest at c.in-Err.ensures.reads in
    puts_refused c.args.word c.args.text.now (fault_of c.in-Err.error) (rw c.requires.reader reads.err) c.put_error.ensures
