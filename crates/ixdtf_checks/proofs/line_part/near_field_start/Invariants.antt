-- One iteration of the loop skips one field.
use Rattle.ixdtf_checks.proofs.line_part.near_field_start.Given as goal
use Rattle.std.proofs.Common.{◌≡◌, ◌+◌, ◌≤◌, length, drop, option_map}
use Rattle.ixdtf_checks.specs.Parts.{field_start}

-- The wanted field begins `start` bytes after the index of the field that comes after `left` others in the rest of the line.
abbrev pub invariant-loop-left : goal.invariant-loop-left
invariant-loop-left l = record {
  found : field_start l.separator l.before l.line ≡ option_map (λ more. l.start + more) (field_start l.separator l.left (drop l.start l.line));
  within : l.start ≤ length l.line;
}

abbrev pub decreases-loop-left : goal.decreases-loop-left
decreases-loop-left l = l.left
