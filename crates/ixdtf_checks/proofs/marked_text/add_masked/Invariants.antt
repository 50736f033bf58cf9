-- One iteration of the loop adds one run of bytes, and the byte 0xC2 after it or a `.`.
use Rattle.ixdtf_checks.proofs.marked_text.add_masked.Given as goal
use Rattle.std.proofs.Common.{◌≡◌, ℕ, ◌+◌, ◌≤◌, List, ◌++◌, length}
use Rattle.ixdtf_buffers.specs.Adding.{Adds}
use Rattle.ixdtf_checks.specs.Pointed.{masked}

-- The added bytes, and those that are shown for the bytes that are left, are those that are shown for all bytes.
abbrev pub invariant-leads : goal.invariant-leads
invariant-leads l = (l.end + length l.rest ≤ l.at + length l.bytes)
    × ((part : List ℕ) × (part ++ masked l.rest ≡ masked l.bytes) × Adds l.fn.room l.room l.at l.end part)

abbrev pub decreases-leads : goal.decreases-leads
decreases-leads l = length l.rest
