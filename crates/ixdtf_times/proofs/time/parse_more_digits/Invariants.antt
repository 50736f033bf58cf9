use Rattle.ixdtf_times.proofs.time.parse_more_digits.Given as goal
use Rattle.std.proofs.Common.{◌+◌, ◌≤◌, ◌∷◌, [], length, map}
use Rattle.ixdtf_grammar.specs.language.Letters.Letter.{Plain}
use Rattle.ixdtf_reading.proofs.code.FractionLoop.{IsSoFar}

abbrev pub invariant-loop-cursor : goal.invariant-loop-cursor
invariant-loop-cursor g l = record {
  far : IsSoFar l.stop (Plain l.first ∷ []) (map g.T.EncodingType.letter l.initial.cursor.rest) (map g.T.EncodingType.letter l.cursor.rest) l.digits;
  looks : l.cursor.looks + length l.cursor.rest ≤ l.initial.cursor.looks + length l.initial.cursor.rest;
  counted : l.initial.cursor.looks ≤ l.cursor.looks;
}

abbrev pub decreases-loop-cursor : goal.decreases-loop-cursor
decreases-loop-cursor g l = length l.cursor.rest
