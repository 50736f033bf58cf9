use Rattle.ixdtf_print.proofs.written.write_bytes.Given as goal
use Rattle.std.proofs.Common.{take}
use Rattle.std.specs.{Fmt.{IsFlush, HasWrittenStyled}, Str.encode_utf8_all}

-- The bytes so far are written.
abbrev pub invariant-loop-byte : goal.invariant-loop-byte
invariant-loop-byte g l =
    IsFlush l.initial.f → HasWrittenStyled g.W.Write.write_str_gives l.initial.f (encode_utf8_all (take l.byte-index l.bytes)) l.f
