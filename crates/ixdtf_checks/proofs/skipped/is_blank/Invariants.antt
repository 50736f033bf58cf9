-- One iteration of the loop reads one byte.
use Rattle.ixdtf_checks.proofs.skipped.is_blank.Given as goal
use Rattle.std.proofs.Common.{◌≡◌, drop}
use Rattle.ixdtf_checks.specs.Skipped.{is_blank}

-- The line is blank exactly if the bytes that are left are blank.
abbrev pub invariant-loop-byte : goal.invariant-loop-byte
invariant-loop-byte l = is_blank l.line ≡ is_blank (drop l.byte-index l.line)
