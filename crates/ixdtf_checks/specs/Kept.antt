-- Defines the lines that the code does not skip. No clause of `check` cites this module.
use Rattle.std.specs.Prelude.{◌≡◌, ℕ, Bool, true, false, List, Option, MatchOption}
use Rattle.ixdtf_checks.specs.{declared.request.Skips.Skips, Skipped.is_skipped}
use denote.Bor.{Bor}

-- The result is the line, or `None` if the line is skipped.
abbrev pub IsKept : Option Skips → Bool → List ℕ → Option (Bor (List ℕ)) → Type 0
IsKept skips is_first line result = MatchOption result
    (is_skipped skips is_first line ≡ true)
    (λ kept. (is_skipped skips is_first line ≡ false) × (kept.now ≡ line))
