use Rattle.ixdtf_times.proofs.time.count_more_digits.Given as goal
use Rattle.std.proofs.Common.{◌≡◌, ◌+◌, ◌≤◌, length, map}
use Rattle.ixdtf_grammar.specs.language.{Letters.Text, Fractions.fraction_of}
use Rattle.ixdtf_reading.proofs.code.FractionLoop.{IsSoFar}

abbrev pub invariant-loop-byte : goal.invariant-loop-byte
invariant-loop-byte g l = record {
  far : (front : Text) → l.fn.leading ≡ fraction_of front
      → IsSoFar l.fn.stop front (map g.T.EncodingType.letter l.initial.cursor.rest) (map g.T.EncodingType.letter l.cursor.rest) l.fraction;
  long : 18 ≤ l.fraction.count;
  looks : l.cursor.looks + length l.cursor.rest ≤ l.initial.cursor.looks + length l.initial.cursor.rest;
  counted : l.initial.cursor.looks ≤ l.cursor.looks;
}

abbrev pub decreases-loop-byte : goal.decreases-loop-byte
decreases-loop-byte g l = length l.cursor.rest
