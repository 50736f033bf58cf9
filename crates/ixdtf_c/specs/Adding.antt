-- Texts that are added to an array of the caller, if they fit.
use Rattle.std.specs.Prelude.{◌≡◌, ℕ, ◌+◌, ◌-◌, ◌^◌, ◌<◌, ◌≤◌, List, ◌++◌, length, take, drop, min}

-- The text was added after the first `at` bytes. `end` is the number of bytes with the text, or the greatest `usize` if that is less. If
-- the text fits into the array, its bytes follow the first `at` bytes. The bytes before it and after it are unchanged.
pub record Adds (old new : List ℕ) (at end : ℕ) (text : List ℕ) : Type 0 where
  pub counts : end ≡ min (at + length text) (2 ^ 64 - 1)
  pub room : length new ≡ length old
  pub is : at + length text < 2 ^ 64 → at + length text ≤ length old → take (at + length text) new ≡ take at old ++ text
  pub rest : at + length text < 2 ^ 64 → at + length text ≤ length old → drop (at + length text) new ≡ drop (at + length text) old
