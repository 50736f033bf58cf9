-- Defines the digits of a number without its last digit. No clause of `check` cites this module.
use Rattle.std.specs.{Prelude.{ℕ, ◌==◌, if◌then◌else◌, List, []}, Fmt.decimal}

-- These are the digits before the last digit of a number. `tens` is the number without its last digit. A number below ten has none.
abbrev pub first_digits : ℕ → List ℕ
first_digits tens = if tens == 0 then [] else decimal tens
