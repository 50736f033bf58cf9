use Rattle.ixdtf_print.proofs.month_days.put_day.Goals as goal
use Rattle.ixdtf_print.specs.MonthDays.{day_text}
use Rattle.ixdtf_print.proofs.code.PutBytes.{puts_then, room_then}

pub returns : goal.returns
unfolding day_text
returns c =
    let behind = room_then c.put_two-hyphen.ensures c.requires in
    puts_then c.requires c.put_two-hyphen.ensures (puts_then behind c.put_byte-day.ensures c.put_two.ensures)
