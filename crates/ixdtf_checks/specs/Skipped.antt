-- Defines the lines that have no text, and are skipped.
use Rattle.std.specs.Prelude.{ℕ, Bool, true, false, ◌==◌, ◌&&◌, ◌||◌, List, [], ◌∷◌, Option, Some, None}
use Rattle.ixdtf_checks.specs.declared.request.Skips.{Skips}

-- The line is empty, or has only spaces and tabs.
abbrev pub is_blank : List ℕ → Bool
is_blank [] = true
is_blank (byte ∷ bytes) = ((byte == 32) || (byte == 9)) && is_blank bytes

-- The line begins with the byte of comments.
abbrev pub is_comment : Option ℕ → List ℕ → Bool
is_comment None line = false
is_comment (Some byte) [] = false
is_comment (Some byte) (first ∷ others) = first == byte

-- The line has the names of the fields, or is blank, or is a comment.
abbrev pub is_skipped_by : Skips → Bool → List ℕ → Bool
is_skipped_by skips is_first line = (skips.header && is_first) || ((skips.blank && is_blank line) || is_comment skips.comment line)

abbrev pub is_skipped : Option Skips → Bool → List ℕ → Bool
is_skipped None is_first line = false
is_skipped (Some skips) is_first line = is_skipped_by skips is_first line
