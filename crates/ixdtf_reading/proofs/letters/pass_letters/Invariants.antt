use Rattle.ixdtf_reading.proofs.letters.pass_letters.Given as goal
use Rattle.std.proofs.Common.{◌+◌, ◌≤◌, length}
use Rattle.ixdtf_reading.specs.reading.Runs.{always, within}
use Rattle.ixdtf_reading.proofs.code.LetterLoops.{IsSoFar}

abbrev pub invariant-loop-here : goal.invariant-loop-here
invariant-loop-here g l = record {
  far : IsSoFar (always l.fn.stop) (within g.S.Letters.class) g.T.EncodingType.letter tt l.fn.cursor.rest l.here.rest tt;
  looks : l.here.looks + length l.here.rest ≤ l.fn.cursor.looks + length l.fn.cursor.rest;
  counted : l.fn.cursor.looks ≤ l.here.looks;
  shorter : length l.here.rest ≤ length l.fn.cursor.rest;
}

abbrev pub decreases-loop-here : goal.decreases-loop-here
decreases-loop-here g l = length l.here.rest
