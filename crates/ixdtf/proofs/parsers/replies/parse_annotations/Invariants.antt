use Rattle.ixdtf.proofs.parsers.replies.parse_annotations.Given as goal
use Rattle.std.proofs.Common.{ℕ, ◌+◌, ◌*◌, ◌≤◌, length, map, option_map}
use Rattle.ixdtf_grammar.specs.Handlers.{pair_of}
use Rattle.ixdtf_reading.specs.reading.Chains.{first_pairs, Counting}
use Rattle.ixdtf.proofs.code.Chains.{SoFar}

abbrev pub invariant-loop-annotation : goal.invariant-loop-annotation
invariant-loop-annotation g l = record {
  callable : goal.F-IsAlwaysCallable g l.handler;
  spent : ℕ;
  so_far : SoFar g.T.EncodingType.number (Counting (goal.F-step g)) (l.fn.handler, 0)
      (first_pairs (option_map (pair_of g.T.EncodingType.number) l.fn.first)) (map g.T.EncodingType.letter l.fn.cursor.rest)
      (l.handler, spent) (map g.T.EncodingType.letter l.cursor.rest) (option_map (pair_of g.T.EncodingType.number) l.calendar);
  looks : l.cursor.looks + 3 * length l.cursor.rest ≤ l.fn.cursor.looks + 3 * length l.fn.cursor.rest + 4 + spent;
  counted : l.fn.cursor.looks ≤ l.cursor.looks;
}

abbrev pub decreases-loop-annotation : goal.decreases-loop-annotation
decreases-loop-annotation g l = length l.cursor.rest
