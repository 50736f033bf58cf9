-- What holds after each byte.
use Rattle.ixdtf_checks.proofs.json.put_escaped.Goals as goal
use Rattle.std.proofs.Common.{◌+◌}
use Rattle.ixdtf_checks.proofs.JsonLemmas.{escaped-next, escaped-parts}
use Rattle.ixdtf_buffers.proofs.OutputLemmas.{Puts-after, Puts-exit}

pub returns-in_err-put_byte : goal.returns-in_err-put_byte
returns-in_err-put_byte g c =
    rw (escaped-parts c.args.bytes.now (c.loop-byte.byte-index + 1), escaped-next c.args.bytes.now c.loop-byte.byte-index 0 c.loop-byte-test.true)
    (Puts-exit _ (Puts-after c.loop-byte.invariant c.in_err-put_byte.ensures) c.from_residual.ensures.1)

pub loop-byte-preserved : goal.loop-byte-preserved
loop-byte-preserved g c =
    rw (escaped-next c.args.bytes.now c.loop-byte.byte-index 0 c.loop-byte-test.true) (Puts-after c.loop-byte.invariant c.in_ok-put_byte.ensures)
