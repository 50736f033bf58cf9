-- Records that are printed into an array.
use Rattle.std.specs.Prelude.{ℕ, ◌<◌, length}
use Rattle.ixdtf.specs.language.Languages.{Parsed}
use Rattle.ixdtf_print.specs.{Canonical.canonical_text}

-- The canonical text of the record and a newline fit into `size` bytes.
abbrev pub FitsArray : ℕ → Parsed → Type 0
FitsArray size found = length (canonical_text found) < size
