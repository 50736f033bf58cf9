-- One iteration of the loop counts one byte, if it is a quote.
use Rattle.ixdtf_checks.proofs.csv.quotes_in.Given as goal
use Rattle.std.proofs.Common.{◌≡◌, ◌+◌, ◌≤◌, drop}
use Rattle.ixdtf_checks.specs.Csv.{quotes_in}

-- The quotes that were counted, and those in the other bytes, are those in all bytes.
abbrev pub invariant-loop-byte : goal.invariant-loop-byte
invariant-loop-byte l = record {
  counted : l.count + quotes_in (drop l.byte-index l.bytes) ≡ quotes_in l.bytes;
  few : l.count ≤ l.byte-index;
}
