use Rattle.ixdtf_print.proofs.written.write_bytes.Goals as goal
use Rattle.std.proofs.{Common.{true, refl}, Output.{has_written_styled_append, has_written_styled_of_eq}}
use Rattle.ixdtf_print.proofs.code.DisplayedBytes.{one_more}

pub loop-byte-preserved : goal.loop-byte-preserved
loop-byte-preserved g c = λ flush.
    let so_far = c.loop-byte.invariant flush in
    has_written_styled_of_eq _ _ _ _ _ (one_more c.args.bytes.now c.loop-byte.byte-index _ c.loop-byte-test.true)
    (has_written_styled_append _ _ _ _ _ _ so_far (c.in_ok-write_byte.ensures so_far.flush (refl {a = true})))
