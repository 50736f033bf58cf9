-- Defines the exit status of the program.
use Rattle.std.specs.Prelude.{ℕ, Bool, ◌==◌, if◌then◌else◌}

-- The status is 2 if something failed, otherwise 1 if a line was refused, and otherwise 0.
abbrev pub status_of : Bool → ℕ → ℕ
status_of has_failed refused = if has_failed then 2 else (if refused == 0 then 0 else 1)
