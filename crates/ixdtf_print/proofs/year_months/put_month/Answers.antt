use Rattle.ixdtf_print.proofs.year_months.put_month.Goals as goal
use Rattle.ixdtf_print.specs.YearMonths.{month_text}
use Rattle.ixdtf_print.proofs.code.PutBytes.{puts_then, room_then}

pub returns : goal.returns
unfolding month_text
returns c =
    let behind = room_then c.put_year-hyphen.ensures c.requires in
    puts_then c.requires c.put_year-hyphen.ensures (puts_then behind c.put_byte-month.ensures c.put_two.ensures)
