-- The count of an instant is the number of nanoseconds from 1970-01-01T00:00:00Z to the instant. It is below zero for an instant before
-- 1970.
use Rattle.std.specs.Prelude.{◌^◌, ℤ, pos, ◌+ℤ◌, ◌*ℤ◌}
use Rattle.ixdtf_instants.specs.declared.instant.Instant.{Instant}

abbrev pub count_of : Instant → ℤ
count_of instant = instant.seconds *ℤ pos (10 ^ 9) +ℤ pos instant.nanoseconds
