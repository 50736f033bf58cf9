use Rattle.ixdtf_durations.proofs.date_groups.parse_dates.Given as goal
use Rattle.std.proofs.Common.{◌+◌, ◌≤◌, IsTrue, length, map}
use Rattle.ixdtf_grammar.specs.language.Letters.{digit}
use Rattle.ixdtf_durations.proofs.code.DurationLoops.{DatesSoFar}

abbrev pub invariant-loop-number : goal.invariant-loop-number
invariant-loop-number g l = record {
  far : DatesSoFar l.profile l.first (map g.T.EncodingType.letter l.initial.cursor.rest) (map g.T.EncodingType.letter l.cursor.rest) l.values l.least l.digit;
  first : 1 ≤ l.least;
  is_digit : IsTrue (digit l.digit);
  looks : l.cursor.looks + length l.cursor.rest ≤ l.initial.cursor.looks + length l.initial.cursor.rest;
  counted : l.initial.cursor.looks ≤ l.cursor.looks;
}

abbrev pub decreases-loop-number : goal.decreases-loop-number
decreases-loop-number g l = length l.cursor.rest
