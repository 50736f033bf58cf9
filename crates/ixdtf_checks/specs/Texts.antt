-- Defines the report of a refused line as a text without colours.
use Rattle.std.specs.{Prelude.{ℕ, List, ◌∷◌, ◌++◌, codes}, Fmt.decimal}
use Rattle.ixdtf_buffers.specs.Lines.{newline}

-- The number of a line and a column are written in this form.
abbrev pub line_and_column : ℕ → ℕ → List ℕ
line_and_column number column = codes ":" ++ (decimal number ++ (codes ":" ++ (decimal column ++ codes ": ")))

-- As a text, the report of a refused line has the name of the file, the number of the line, the column, the message, and the lines
-- under it.
abbrev pub text_of : List ℕ → ℕ → ℕ → List ℕ → List ℕ → List ℕ
text_of name number column message lines = name ++ (line_and_column number column ++ (message ++ newline ∷ lines))
