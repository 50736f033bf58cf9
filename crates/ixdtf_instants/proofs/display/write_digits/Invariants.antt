use Rattle.std.proofs.Common.{◌≡◌, ◌≤◌, List, ℕ, ◌++◌}
use Rattle.std.specs.Fmt.{IsFlush, HasWrittenStyled}
use Rattle.ixdtf_instants.specs.Texts.{digits_in}
use Rattle.ixdtf_instants.proofs.display.write_digits.Given as goal

-- The first digits are written, and `left` digits are left.
abbrev pub invariant-loop-left : goal.invariant-loop-left
invariant-loop-left g l =
    (l.left ≤ l.count) × (l.count ≤ 19) × (done : List ℕ) × (done ++ digits_in l.left l.number ≡ digits_in l.count l.number)
    × (IsFlush l.initial.f → HasWrittenStyled g.W.Write.write_str_gives l.initial.f done l.f)

abbrev pub decreases-loop-left : goal.decreases-loop-left
decreases-loop-left g l = l.left
