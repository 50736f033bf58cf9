-- Proves which result the reader returned.
use Rattle.ixdtf_answers.proofs.reader_answers.answer_year_month.Goals as goal
use Rattle.std.proofs.Common.{refl}
use Rattle.ixdtf_answers.proofs.PartsLemmas.{record_returned}

pub put_found-requires-clause-returned : goal.put_found-requires-clause-returned
put_found-requires-clause-returned g c =
    record_returned _ _ _ _ refl c.from_utf8.ensures.rest c.parse_year_month-outcome.ensures.reads
