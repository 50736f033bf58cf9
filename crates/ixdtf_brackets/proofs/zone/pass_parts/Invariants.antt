use Rattle.ixdtf_brackets.proofs.zone.pass_parts.Given as goal
use Rattle.std.proofs.Common.{◌+◌, ◌≤◌, length}
use Rattle.ixdtf_brackets.specs.BracketTypes.{name_after, stop_by}
use Rattle.ixdtf_brackets.proofs.code.NameLoop.{name_start}
use Rattle.ixdtf_reading.proofs.code.LetterLoops.{IsSoFar}

abbrev pub invariant-loop-behind : goal.invariant-loop-behind
invariant-loop-behind g l = record {
  far : IsSoFar (stop_by l.fn.in_name l.fn.after_slash) name_after g.T.EncodingType.letter name_start l.fn.cursor.rest l.cursor.rest name_start;
  looks : l.cursor.looks + length l.cursor.rest ≤ l.fn.cursor.looks + length l.fn.cursor.rest;
  counted : l.fn.cursor.looks ≤ l.cursor.looks;
  shorter : length l.cursor.rest ≤ length l.fn.cursor.rest;
}

abbrev pub decreases-loop-behind : goal.decreases-loop-behind
decreases-loop-behind g l = length l.cursor.rest
