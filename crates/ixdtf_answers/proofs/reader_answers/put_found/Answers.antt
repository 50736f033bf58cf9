-- Proves the case of an accepted text, and the case of a refused text.
use Rattle.ixdtf_answers.proofs.reader_answers.put_found.Goals as goal
use Rattle.ixdtf.specs.{Views.parsed_of, table.Faults.fault_of, language.Languages.Found.parsed}
use Rattle.ixdtf_answers.proofs.PartsLemmas.{puts_found, puts_refused, refused_short}

pub returns-in-Ok : goal.returns-in-Ok
returns-in-Ok g c =
    let found = parsed (parsed_of (λ byte. byte) c.in-Ok.parts) in
    puts_found c.args.word c.args.text.now found (rw c.in-Ok.is at c.requires.returned.ok) (rw c.requires.fields c.put_record.ensures)

pub put_error-requires : goal.put_error-requires
put_error-requires g c = refused_short c.args.word c.args.text.now (fault_of c.in-Err.error) (rw c.in-Err.is at c.requires.returned.err)

pub returns-in-Err : goal.returns-in-Err
returns-in-Err g c =
    puts_refused c.args.word c.args.text.now (fault_of c.in-Err.error) (rw c.in-Err.is at c.requires.returned.err) c.put_error.ensures
