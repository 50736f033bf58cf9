use Rattle.ixdtf_times.proofs.date_times.fixed_date_time.Goals as goal
use Rattle.std.proofs.{Common.{map, sym, arith}, lemmas.List.length-map}
use Rattle.ixdtf_reading.proofs.code.FixedPlaces.{too_short}

pub returns-then-remaining-lt19-clause-there : goal.returns-then-remaining-lt19-clause-there
returns-then-remaining-lt19-clause-there g c =
    let letter = g.T.EncodingType.letter in
    let units = c.args.cursor.now.rest in
    sym (too_short (map letter units) (omega (arith, length-map units letter)))
