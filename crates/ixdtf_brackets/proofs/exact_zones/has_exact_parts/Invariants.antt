use Rattle.ixdtf_brackets.proofs.exact_zones.has_exact_parts.Given as goal
use Rattle.std.proofs.Common.{◌≡◌, ◌+◌, ◌≤◌, length, map}
use Rattle.ixdtf_reading.specs.reading.ExactZones.{has_parts, PartForm.part_start}
use Rattle.ixdtf_brackets.specs.BracketTypes.{part_form_of}

abbrev pub invariant-loop-byte : goal.invariant-loop-byte
invariant-loop-byte g l = record {
  parts : has_parts (part_form_of l.form) (map g.T.EncodingType.letter l.cursor.rest) ≡ has_parts part_start (map g.T.EncodingType.letter l.fn.cursor.rest);
  looks : l.cursor.looks + length l.cursor.rest ≤ l.fn.cursor.looks + length l.fn.cursor.rest;
  counted : l.fn.cursor.looks ≤ l.cursor.looks;
}

abbrev pub decreases-loop-byte : goal.decreases-loop-byte
decreases-loop-byte g l = length l.cursor.rest
