use Rattle.ixdtf_times.proofs.offsets.take_numeric_offset.Goals as goal
use Rattle.std.proofs.{Common.sym, lemmas.List.drop-map}
use Rattle.ixdtf_times.proofs.code.FixedOffsets.{is_numeric_offset}

pub returns-clause-offset : goal.returns-clause-offset
returns-clause-offset g c date time =
    rw (c.sign_from.ensures, c.advance_by.ensures.rest, c.fixed_minute.ensures.rest, c.fixed_hour.ensures.rest, ← drop-map g.T.EncodingType.letter 5 c.args.cursor.now.rest)
    (is_numeric_offset c.args.sign _ _ _ (sym c.in_ok-hour.ensures.there) (sym (rw c.fixed_hour.ensures.rest at c.in_ok-minute.ensures.there)) date time)
