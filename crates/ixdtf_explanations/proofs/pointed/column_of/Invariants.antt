use Rattle.ixdtf_explanations.proofs.pointed.column_of.Given as goal
use Rattle.std.proofs.Common.{◌≡◌, ◌+◌, ◌≤◌, length, drop}
use Rattle.std.specs.Str.{chars}
use Rattle.ixdtf_explanations.specs.LocatedTexts.{column_of}

-- `column` is the number of characters that the loop has passed. `left` is the position minus the number of bytes in them.
abbrev pub invariant-loop-character : goal.invariant-loop-character
invariant-loop-character l =
    (l.column ≡ length l.yielded)
    × (l.column + l.left ≤ l.at)
    × (l.column ≤ length (chars l.text))
    × (column_of (drop l.column (chars l.text)) l.left + l.column ≡ column_of (chars l.text) l.at)
