-- The names fit into the two halves of the bytes that the date, the time, the offset and the brackets leave.
use Rattle.ixdtf_print.proofs.length.has_plenty.Goals as goal
use Rattle.std.proofs.Common.{arith}
use Rattle.ixdtf_print.specs.Printable.{record_of}
use Rattle.ixdtf_print.proofs.{code.CanonicalLengths.{brackets_long, canonical_long}, theorems.ShortCores.core_short}

pub returns-then-is_short_bracket : goal.returns-then-is_short_bracket
returns-then-is_short_bracket c = λ yes.
    let found = record_of c.args.parsed.now in
    omega (
      arith,
      canonical_long found,
      brackets_long found,
      core_short found c.requires,
      c.is_short_bracket.ensures c.if-is_short_bracket.true,
      c.is_short_calendar.ensures yes,
      c.if-room-lt-MOST_BESIDES_NAMES.false,
    )
