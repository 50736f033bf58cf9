use Rattle.ixdtf_reading.proofs.cursor.are_equal.Goals as goal
use Rattle.ixdtf_reading.proofs.code.EqualUnits.{equal_lists}

pub returns : goal.returns
returns g c = equal_lists g.T.EncodingType.number _ g.met.T.EncodingType.equal _ _ _ c.eq.ensures
