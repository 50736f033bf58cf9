-- Defines the report of a refused line with colours.
use Rattle.std.specs.Prelude.{◌≡◌, ℕ, ◌+◌, ◌-◌, List, [], ◌∷◌, ◌++◌, length, take, drop, position, codes, Option, Some, None}
use Rattle.std.specs.List.{flat_map}
use Rattle.ixdtf_buffers.specs.Lines.{is_byte, newline}
use Rattle.ixdtf_checks.specs.{Texts.line_and_column, Verdicts.Refusal}

-- These are escape sequences of ECMA-48. They begin with ESC, and `m` ends them. 1 is bold, 31 is red, and 0 ends both.
abbrev pub bold_on : List ℕ
bold_on = 27 ∷ codes "[1m"

abbrev pub red_on : List ℕ
red_on = 27 ∷ codes "[1;31m"

abbrev pub off : List ℕ
off = 27 ∷ codes "[0m"

abbrev pub bold : List ℕ → List ℕ
bold text = bold_on ++ (text ++ off)

abbrev pub bold_red : List ℕ → List ℕ
bold_red text = red_on ++ (text ++ off)

-- All bytes but the last have the colour. The last is the newline after the marks.
abbrev pub but_last : (List ℕ → List ℕ) → List ℕ → List ℕ
but_last red text = red (take (length text - 1) text) ++ drop (length text - 1) text

-- In the line with the marks, the marks have the colour, but not the spaces before them.
abbrev pub marks_with : (List ℕ → List ℕ) → Option ℕ → List ℕ → List ℕ
marks_with red None marks = marks
marks_with red (Some start) marks = take start marks ++ but_last red (drop start marks)

abbrev pub coloured_marks : (List ℕ → List ℕ) → List ℕ → List ℕ
coloured_marks red marks = marks_with red (position (is_byte 94) marks) marks

-- The lines under a message are the text, and then the line with the marks.
abbrev pub lines_with : (List ℕ → List ℕ) → Option ℕ → List ℕ → List ℕ
lines_with red None lines = lines
lines_with red (Some place) lines = take (place + 1) lines ++ coloured_marks red (drop (place + 1) lines)

abbrev pub coloured_lines : (List ℕ → List ℕ) → List ℕ → List ℕ
coloured_lines red lines = lines_with red (position (is_byte newline) lines) lines

-- In the line with the hint, the word before the hint has the colour.
abbrev pub coloured_hint : (List ℕ → List ℕ) → Option (List ℕ) → List ℕ
coloured_hint strong None = []
coloured_hint strong (Some hint) = strong (codes "hint:") ++ (codes " " ++ (hint ++ newline ∷ []))

-- This is the report with two colours. They are functions, which add something before and after a text.
abbrev pub report_with : (List ℕ → List ℕ) → (List ℕ → List ℕ) → List ℕ → ℕ → Refusal → Option (List ℕ) → List ℕ
report_with strong red name number refusal hint =
    strong (name ++ line_and_column number refusal.column)
    ++ (refusal.message ++ newline ∷ (coloured_lines red refusal.lines ++ coloured_hint strong hint))

-- The name of the file, the number of the line, the column and the word before the hint are bold, and the marks are bold and red.
abbrev pub coloured_of : List ℕ → ℕ → Refusal → Option (List ℕ) → List ℕ
coloured_of name number refusal hint = report_with bold bold_red name number refusal hint

-- A report with colours has parts of the report as a text, and escape sequences.
pub data Piece : Type 0 where
  shown : List ℕ → Piece
  starts_bold : Piece
  starts_red : Piece
  ends : Piece

-- These are the bytes of a piece.
abbrev pub piece_bytes : Piece → List ℕ
piece_bytes (shown bytes) = bytes
piece_bytes starts_bold = bold_on
piece_bytes starts_red = red_on
piece_bytes ends = off

-- These are its bytes without escape sequences.
abbrev pub piece_text : Piece → List ℕ
piece_text (shown bytes) = bytes
piece_text starts_bold = []
piece_text starts_red = []
piece_text ends = []

-- Without its escape sequences, the report is this text.
abbrev pub IsColoured : List ℕ → List ℕ → Type 0
IsColoured report text = (pieces : List Piece) × (report ≡ flat_map piece_bytes pieces) × (text ≡ flat_map piece_text pieces)
