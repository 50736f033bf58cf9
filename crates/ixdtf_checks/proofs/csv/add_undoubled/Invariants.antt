-- One iteration of the loop adds the bytes before one quote, and the quote.
use Rattle.ixdtf_checks.proofs.csv.add_undoubled.Given as goal
use Rattle.std.proofs.Common.{◌≡◌, ℕ, ◌+◌, ◌≤◌, List, ◌++◌, length}
use Rattle.ixdtf_buffers.specs.Adding.{Adds}
use Rattle.ixdtf_checks.specs.Csv.{undoubled}

-- The added bytes, and those that are to be added for the bytes that are left, are those for all bytes.
abbrev pub invariant-quotes : goal.invariant-quotes
invariant-quotes l = (l.end + length l.rest ≤ length l.bytes)
    × ((part : List ℕ) × (part ++ undoubled l.rest ≡ undoubled l.bytes) × Adds l.fn.unquoted l.unquoted 0 l.end part)

abbrev pub decreases-quotes : goal.decreases-quotes
decreases-quotes l = length l.rest
