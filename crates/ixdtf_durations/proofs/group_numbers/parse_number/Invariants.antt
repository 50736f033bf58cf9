use Rattle.ixdtf_durations.proofs.group_numbers.parse_number.Given as goal
use Rattle.std.proofs.Common.{◌+◌, ◌≤◌, IsTrue, length, map, nat_le}
use Rattle.ixdtf_grammar.specs.language.Durations.{greatest_value}
use Rattle.ixdtf_durations.proofs.code.DurationNumbers.{IsSoFar}

abbrev pub invariant-loop-byte : goal.invariant-loop-byte
invariant-loop-byte g l = record {
  far : IsSoFar l.first (map g.T.EncodingType.letter l.initial.cursor.rest) (map g.T.EncodingType.letter l.cursor.rest) l.value;
  small : IsTrue (nat_le l.value greatest_value);
  looks : l.cursor.looks + length l.cursor.rest ≤ l.initial.cursor.looks + length l.initial.cursor.rest;
  counted : l.initial.cursor.looks ≤ l.cursor.looks;
}

abbrev pub decreases-loop-byte : goal.decreases-loop-byte
decreases-loop-byte g l = length l.cursor.rest
