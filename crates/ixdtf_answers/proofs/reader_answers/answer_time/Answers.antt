-- Proves which result the reader returned.
use Rattle.ixdtf_answers.proofs.reader_answers.answer_time.Goals as goal
use Rattle.ixdtf_answers.proofs.PartsLemmas.{record_returned}

pub put_found-requires-clause-returned : goal.put_found-requires-clause-returned
put_found-requires-clause-returned g c =
    record_returned _ _ _ _ c.requires.reader c.parser.ensures.rest (rw c.parser.ensures.profile at c.parse_time-outcome.ensures.reads)
