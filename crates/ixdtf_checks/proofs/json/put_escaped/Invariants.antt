-- The invariant of the loop over bytes.
use Rattle.ixdtf_checks.proofs.json.put_escaped.Given as goal
use Rattle.std.proofs.Common.{Ok, take}
use Rattle.std.specs.List.{flat_map}
use Rattle.ixdtf_buffers.specs.Output.{Puts}
use Rattle.ixdtf_checks.specs.Json.{json_byte}

-- The bytes so far were written.
abbrev pub invariant-loop-byte : goal.invariant-loop-byte
invariant-loop-byte g l = Puts g.K.Sink.contents g.K.Sink.failed l.fn.output l.output (Ok tt) (flat_map json_byte (take l.byte-index l.bytes))
