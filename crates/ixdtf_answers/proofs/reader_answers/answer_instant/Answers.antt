-- Proves the case of an accepted text, and the case of a refused text.
use Rattle.ixdtf_answers.proofs.reader_answers.answer_instant.Goals as goal
use Rattle.ixdtf_answers.proofs.reader_answers.answer_instant.{Given.Over, Goals.After-parse-dated}
use Rattle.std.proofs.Common.{refl, map}
use Rattle.ixdtf.specs.{Views.parsed_of, table.Faults.fault_of, language.{Languages.Found.parsed, Letters.byte_letter}}
use Rattle.ixdtf_answers.proofs.PartsLemmas.{puts_found, puts_refused, record_returned, refused_short}
use Rattle.ixdtf_answers.specs.{Parts.IsReturned, declared.word.Word.TheVariants.Instant}

-- The reader returned this result for the text.
returned : (g : Over) (c : After-parse-dated g) → IsReturned (λ parts. parsed (parsed_of (λ byte. byte) parts)) Instant c.args.text.now c.parse-dated.result
returned g c = record_returned Instant _ c.args.text.now _ refl c.from_utf8.ensures.rest c.parse-dated.ensures.reads

pub put_instant-requires : goal.put_instant-requires
put_instant-requires g c = (map byte_letter c.args.text.now, rw c.in-Ok.is at (returned g (goal.at.put_instant-requires g c).After-parse-dated).ok)

pub returns-in-Ok : goal.returns-in-Ok
returns-in-Ok g c =
    puts_found _ c.args.text.now (parsed (parsed_of (λ byte. byte) c.in-Ok.parts)) (rw c.in-Ok.is at (returned g (goal.at.returns-in-Ok g c).After-parse-dated).ok)
    c.put_instant.ensures

pub put_error-requires : goal.put_error-requires
put_error-requires g c =
    refused_short Instant c.args.text.now (fault_of c.in-Err.error) (rw c.in-Err.is at (returned g (goal.at.put_error-requires g c).After-parse-dated).err)

pub returns-in-Err : goal.returns-in-Err
returns-in-Err g c =
    puts_refused _ c.args.text.now (fault_of c.in-Err.error) (rw c.in-Err.is at (returned g (goal.at.returns-in-Err g c).After-parse-dated).err) c.put_error.ensures
