-- The order of instants.
use Rattle.std.specs.Prelude.{◌≡◌, ◌⊎◌, ◌<◌, ◌<ℤ◌}
use Rattle.std.specs.Ordering.{MatchOrdering}
use Rattle.std.specs.declared.cmp.Ordering.{Ordering}
use Rattle.ixdtf_instants.specs.declared.instant.Instant.{Instant}

-- Instants are compared by their seconds, and then by their nanoseconds.
abbrev pub IsBefore : Instant → Instant → Type 0
IsBefore instant other =
    (instant.seconds <ℤ other.seconds) ⊎ ((instant.seconds ≡ other.seconds) × (instant.nanoseconds < other.nanoseconds))

-- The comparison says which of two instants is before the other, or that they are equal.
abbrev pub ComparesInstants : (Instant → Instant → Ordering) → Type 0
ComparesInstants compare = (instant other : Instant) → MatchOrdering (compare instant other) (IsBefore instant other) (instant ≡ other) (IsBefore other instant)
