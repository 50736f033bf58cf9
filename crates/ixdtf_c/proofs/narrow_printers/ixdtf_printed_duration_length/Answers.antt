use Rattle.ixdtf_c.proofs.narrow_printers.ixdtf_printed_duration_length.Goals as goal
use Rattle.std.proofs.Common.{arith}
use Rattle.ixdtf_c.specs.{Lasting.contents, Standing.duration_by}
use Rattle.ixdtf_c.proofs.Printed.{short_text}

pub returns-clause-length : goal.returns-clause-length
returns-clause-length c = λ is. c.length_into.ensures.length is (omega (arith, short_text (duration_by (contents c.args.given.now)) is))
