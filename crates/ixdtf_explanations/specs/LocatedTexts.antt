-- The text of an error with its position, and a text with a mark under the position of an error.
use Rattle.std.specs.Prelude.{ℕ, ◌+◌, ◌-◌, Bool, List, [], ◌∷◌, ◌++◌, map, length, take, drop, replicate, codes, if◌then◌else◌, nat_lt, min, max}
use Rattle.std.specs.{Char.{is_control, len_utf8}, Str.{chars, encode_utf8_all}, Fmt.decimal}
use Rattle.ixdtf_grammar.specs.table.{Faults.Fault, ErrorTexts.message_of}

-- This is the text that `Display` writes for an error with its position.
abbrev pub located_text : Fault → ℕ → List ℕ
located_text fault at = message_of fault ++ (codes " at " ++ decimal at)

-- A control character is shown as `.`, and any other character as itself.
abbrev pub shown : ℕ → ℕ
shown c = if is_control c then 46 else c

-- This is the number of complete characters in the first `at` bytes. It is the column of the character that contains byte `at`. If
-- `at` is the end of the text or after it, the column is one after the last character.
abbrev pub column_of : List ℕ → ℕ → ℕ
column_of [] at = 0
column_of (c ∷ cs) at = if nat_lt at (len_utf8 c) then 0 else column_of cs (at - len_utf8 c) + 1

-- The mark is `..` if something is cut, and otherwise the empty text.
abbrev pub cut_mark : Bool → List ℕ
cut_mark is_cut = if is_cut then codes ".." else []

-- The first line has at most 48 characters before the column, and at most 24 characters from the column on.
abbrev pub line_of : List ℕ → ℕ → List ℕ
line_of characters column =
    cut_mark (nat_lt 48 column)
    ++ (map shown (drop (column - 48) (take (column + 24) characters))
    ++ cut_mark (nat_lt (column + 24) (length characters)))

-- This is the number of columns of the first line that are before the position.
abbrev pub indent_of : ℕ → ℕ
indent_of column = if nat_lt 48 column then 50 else column

-- This is the number of marks under a part of a text: one for each byte, but at least one, and at most 24.
abbrev pub marks_of : ℕ → ℕ → ℕ
marks_of begin end = max 1 (min (end - begin) 24)

-- There are two lines: the text, and a `^` under each byte of the part from `begin` up to `end`.
abbrev pub pointed_text : List ℕ → ℕ → ℕ → List ℕ
pointed_text text begin end =
    let column = column_of (chars text) begin in
    encode_utf8_all (line_of (chars text) column) ++ (codes "\n" ++ (replicate (indent_of column) 32 ++ replicate (marks_of begin end) 94))
