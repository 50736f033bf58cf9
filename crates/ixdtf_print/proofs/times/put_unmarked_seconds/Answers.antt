use Rattle.ixdtf_print.proofs.times.put_unmarked_seconds.Goals as goal
use Rattle.ixdtf_print.specs.Canonical.{minutes_text, seconds_text}
use Rattle.ixdtf_print.proofs.code.PutBytes.{puts_then, room_first, room_then}

pub put_two-colon-requires : goal.put_two-colon-requires
unfolding seconds_text
put_two-colon-requires c = room_first _ c.requires

pub put_minutes-requires : goal.put_minutes-requires
unfolding minutes_text seconds_text
put_minutes-requires c = room_then c.put_two-colon.ensures c.requires

pub returns : goal.returns
unfolding minutes_text seconds_text
returns c = puts_then c.requires c.put_two-colon.ensures c.put_minutes.ensures
