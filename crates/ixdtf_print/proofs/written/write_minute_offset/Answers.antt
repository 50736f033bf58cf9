use Rattle.ixdtf_print.proofs.written.write_minute_offset.Goals as goal
use Rattle.std.proofs.{Common.arith, Output.has_written_styled_of_eq}
use Rattle.ixdtf_print.proofs.{code.CanonicalLengths.minute_offset_long, code.DisplayedBytes.whole_bytes}

pub put_minute_offset-requires : goal.put_minute_offset-requires
put_minute_offset-requires g c = record { room = omega (arith, minute_offset_long c.args.offset) }

pub returns : goal.returns
returns g c = λ flush ok.
    has_written_styled_of_eq _ _ _ _ _ (whole_bytes _ _ _ _ c.put_minute_offset.ensures (omega (arith, minute_offset_long c.args.offset)))
    (c.write_bytes.ensures flush ok)
