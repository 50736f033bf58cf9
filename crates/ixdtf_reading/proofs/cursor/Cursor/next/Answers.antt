use Rattle.ixdtf_reading.proofs.cursor.Cursor.next.Goals as goal
use Rattle.std.proofs.Common.{◌∙◌, ap, Ok}
use Rattle.ixdtf_reading.proofs.code.Units.{none_next, byte_next, bad_next}

pub returns-in-Ok-None-clause-next : goal.returns-in-Ok-None-clause-next
returns-in-Ok-None-clause-next g c = none_next _ g.T.EncodingType.letter _ (c.in-Ok-None.ensures.letter ∙ ap (λ x. Ok x) c.in-Ok-None.field-0-is)

pub returns-in-Ok-Some-clause-next : goal.returns-in-Ok-Some-clause-next
returns-in-Ok-Some-clause-next g c = byte_next _ g.T.EncodingType.letter _ _ (c.in-Ok-Some.ensures.letter ∙ ap (λ x. Ok x) c.in-Ok-Some.field-0-is)

pub returns-in-Err-clause-next : goal.returns-in-Err-clause-next
returns-in-Err-clause-next g c = bad_next _ _ g.T.EncodingType.letter _ c.in-Err.ensures.letter
