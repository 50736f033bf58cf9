-- One iteration of the loop goes past one doubled quote.
use Rattle.ixdtf_checks.proofs.csv.closing_quote.Given as goal
use Rattle.std.proofs.Common.{◌-◌, ◌≤◌, length}
use Rattle.ixdtf_checks.proofs.CsvLemmas.{Opened}

-- The bytes before the index are doubled quotes and other bytes.
abbrev pub invariant-quotes : goal.invariant-quotes
invariant-quotes l = record {
  within : l.start ≤ length l.bytes;
  opened : Opened l.bytes l.start;
}

abbrev pub decreases-quotes : goal.decreases-quotes
decreases-quotes l = length l.bytes - l.start
