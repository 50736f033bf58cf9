-- Proves the case of an accepted text, and the case of a refused text.
use Rattle.ixdtf_answers.proofs.reader_answers.answer_offset.Goals as goal
use Rattle.std.proofs.Common.{refl}
use Rattle.ixdtf.specs.{table.Faults.fault_of, language.Languages.Found.shifted}
use Rattle.ixdtf_answers.proofs.PartsLemmas.{puts_found, puts_refused, refused_short}
use Rattle.ixdtf_answers.specs.declared.word.Word.TheVariants.{Offset}

pub returns-in-Ok : goal.returns-in-Ok
returns-in-Ok g c =
    let found = c.in-Ok.offset in
    puts_found _ c.args.text.now (shifted found) (rw c.from_utf8.ensures.rest at ((c.in-Ok.ensures.reads.ok found).0 refl)) c.put_offset.ensures

pub put_error-requires : goal.put_error-requires
put_error-requires g c = refused_short Offset c.args.text.now (fault_of c.in-Err.error) (rw c.from_utf8.ensures.rest at c.in-Err.ensures.reads.err)

pub returns-in-Err : goal.returns-in-Err
returns-in-Err g c =
    puts_refused _ c.args.text.now (fault_of c.in-Err.error) (rw c.from_utf8.ensures.rest at c.in-Err.ensures.reads.err) c.put_error.ensures
