use Rattle.ixdtf_reading.proofs.annotations.parse_annotation_value.Given as goal
use Rattle.std.proofs.Common.{◌≡◌, ◌+◌, ◌≤◌, length, map, drop}
use Rattle.ixdtf_reading.specs.reading.Pairs.{Inside}
use Rattle.ixdtf_reading.proofs.code.PairLoops.{ValueSoFar}

abbrev pub invariant-loop-next : goal.invariant-loop-next
invariant-loop-next g l = record {
  start : map g.T.EncodingType.number l.start ≡ drop 1 l.fn.cursor.rest;
  far : ValueSoFar g.T.EncodingType.letter (drop 1 l.fn.cursor.rest) l.cursor.rest Inside;
  looks : l.cursor.looks + length l.cursor.rest + 1 ≤ l.fn.cursor.looks + length l.fn.cursor.rest;
  counted : l.fn.cursor.looks ≤ l.cursor.looks;
  shorter : length l.cursor.rest + 2 ≤ length l.fn.cursor.rest;
}

abbrev pub decreases-loop-next : goal.decreases-loop-next
decreases-loop-next g l = length l.cursor.rest
