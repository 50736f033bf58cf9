use Rattle.ixdtf_explanations.proofs.pointed.write_characters.Given as goal
use Rattle.std.proofs.Common.{map}
use Rattle.std.specs.{Str.encode_utf8_all, Fmt.{IsFlush, HasWrittenStyled}}
use Rattle.ixdtf_explanations.specs.LocatedTexts.{shown}

-- The characters that the loop has passed are written, each as it is shown.
abbrev pub invariant-loop-character : goal.invariant-loop-character
invariant-loop-character g l =
    IsFlush l.initial.f
    → HasWrittenStyled g.W.Write.write_str_gives l.initial.f (encode_utf8_all (map shown l.yielded)) l.f
