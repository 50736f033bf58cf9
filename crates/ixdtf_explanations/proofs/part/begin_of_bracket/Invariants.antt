use Rattle.std.proofs.Common.{◌≡◌, ◌≤◌, length, map, take}
use Rattle.ixdtf_explanations.specs.Parts.{HasNoOpening}
use Rattle.ixdtf_explanations.proofs.part.begin_of_bracket.Given as goal

-- Each turn of the loop passed one code unit that is no `[`.
abbrev pub invariant-loop-front : goal.invariant-loop-front
invariant-loop-front g l =
    (length l.front ≤ l.end) × (l.front ≡ take (length l.front) l.text)
    × HasNoOpening (map g.T.EncodingType.number l.text) (length l.front) l.end

abbrev pub decreases-loop-front : goal.decreases-loop-front
decreases-loop-front g l = length l.front
