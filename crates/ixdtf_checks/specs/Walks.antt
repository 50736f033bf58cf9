-- Defines how the code goes through the fields of a record. No clause of `check` cites this module.
use Rattle.std.specs.Prelude.{◌≡◌, ℕ, false, ◌+◌, ◌<◌, ◌≤◌, List, ◌∷◌, ◌++◌, length, drop, Option, Some, None}
use Rattle.ixdtf_checks.specs.declared.csv.{Ending.{Ending, TheVariants.{Last, At, Bad}}, Walked.{Walked, TheVariants.{Behind, Ended, Lost}}}
use Rattle.ixdtf_checks.specs.Csv.{Cell, AreCells, Ends, IsCell, IsBad, IsBroken, HasFew, begins_quoted, doubled, fronts, quote, spelled}

-- The bytes follow a quote that opens a field. A quote at the index closes it, or no quote does.
abbrev pub IsClosed : List ℕ → Option ℕ → Type 0
IsClosed bytes None = (text : List ℕ) × (bytes ≡ doubled text)
IsClosed bytes (Some at) = (text : List ℕ) × (at ≡ length (doubled text)) × (bytes ≡ doubled text ++ quote ∷ drop (at + 1) bytes)
    × (begins_quoted (drop (at + 1) bytes) ≡ false)

-- The bytes are a field, or begin with one and a separator, or do not begin with one.
abbrev pub HasEnding : ℕ → List ℕ → Ending → Type 0
HasEnding separator bytes Last = (cell : Cell) × IsCell separator cell × (bytes ≡ spelled cell)
HasEnding separator bytes (At place) = (cell : Cell) × IsCell separator cell
    × (place ≡ length (spelled cell)) × (place < length bytes) × (bytes ≡ spelled cell ++ separator ∷ drop (place + 1) bytes)
HasEnding separator bytes (Bad broken) = IsBroken broken.quoting separator bytes broken.at

-- The line begins with `count` fields, each with a separator, and this is the index after them.
pub record IsBehind (separator count : ℕ) (line : List ℕ) (start : ℕ) : Type 0 where
  pub earlier : List Cell
  pub are : AreCells separator earlier
  pub many : length earlier ≡ count
  pub begins : start ≡ length (fronts separator earlier)
  pub within : start ≤ length line
  pub whole : line ≡ fronts separator earlier ++ drop start line

abbrev pub IsWalk : ℕ → ℕ → List ℕ → Walked → Type 0
IsWalk separator count line (Behind start) = IsBehind separator count line start
IsWalk separator count line Ended = HasFew separator count line
IsWalk separator count line (Lost broken) = IsBad separator line broken

-- The index in an ending, or 0.
abbrev pub place_in : Ending → ℕ
place_in Last = 0
place_in (At place) = place
place_in (Bad broken) = broken.at

-- The index in what a walk returns, or 0.
abbrev pub reach_of : Walked → ℕ
reach_of (Behind start) = start
reach_of Ended = 0
reach_of (Lost broken) = broken.at

-- The bytes are a record, and its first field has `count` bytes.
abbrev pub IsFirst : ℕ → List ℕ → ℕ → Type 0
IsFirst separator bytes count = (cell : Cell) × IsCell separator cell × (count ≡ length (spelled cell)) × (bytes ≡ spelled cell ++ drop count bytes)
    × Ends separator (drop count bytes)
