use Rattle.ixdtf_durations.proofs.time_groups.parse_time_groups.Given as goal
use Rattle.std.proofs.Common.{◌+◌, ◌≤◌, IsTrue, length, map}
use Rattle.ixdtf_grammar.specs.language.Letters.{digit}
use Rattle.ixdtf_durations.proofs.code.DurationLoops.{TimesSoFar}

abbrev pub invariant-loop-whole : goal.invariant-loop-whole
invariant-loop-whole g l = record {
  far : TimesSoFar l.profile l.first (map g.T.EncodingType.letter l.initial.cursor.rest) (map g.T.EncodingType.letter l.cursor.rest) l.values l.least l.digit;
  first : 1 ≤ l.least;
  is_digit : IsTrue (digit l.digit);
  looks : l.cursor.looks + length l.cursor.rest ≤ l.initial.cursor.looks + length l.initial.cursor.rest;
  counted : l.initial.cursor.looks ≤ l.cursor.looks;
}

abbrev pub decreases-loop-whole : goal.decreases-loop-whole
decreases-loop-whole g l = length l.cursor.rest
