-- Defines the object of JSON about a refused line.
use Rattle.std.specs.{Prelude.{ℕ, ◌==◌, nat_lt, if◌then◌else◌, List, [], ◌∷◌, ◌++◌, codes, Option, Some, None}, List.flat_map, Fmt.decimal}
use Rattle.ixdtf_explanations.specs.Messages.{hex_text}
use Rattle.ixdtf_checks.specs.Verdicts.{Refusal}

-- This is a control character by its number.
abbrev pub json_control : ℕ → List ℕ
json_control byte = codes "\\u00" ++ hex_text 2 byte

-- This is a byte in a string. RFC 8259, section 7, asks that `"`, `\` and U+0000 to U+001F are escaped. All other bytes are written as
-- they are.
abbrev pub json_byte : ℕ → List ℕ
json_byte byte = if byte == 34 then codes "\\\"" else (if byte == 92 then codes "\\\\" else (if nat_lt byte 32 then json_control byte else byte ∷ []))

abbrev pub json_string : List ℕ → List ℕ
json_string bytes = codes "\"" ++ (flat_map json_byte bytes ++ codes "\"")

-- These are the numbers in the object.
abbrev pub json_place : ℕ → ℕ → ℕ → List ℕ
json_place number column end =
    codes ",\"line\":" ++ (decimal number ++ (codes ",\"column\":" ++ (decimal column ++ (codes ",\"end\":" ++ decimal end))))

-- This is the member with the hint, if there is a hint.
abbrev pub json_hint : Option (List ℕ) → List ℕ
json_hint None = []
json_hint (Some hint) = codes ",\"hint\":" ++ json_string hint

-- The object has the name of the file, the number of the line, the columns, the name of the reason, the message, and the hint if there
-- is one.
abbrev pub json_object : List ℕ → ℕ → Refusal → Option (List ℕ) → List ℕ
json_object name number refusal hint =
    (codes "{\"file\":" ++ json_string name) ++ (json_place number refusal.column refusal.end
    ++ ((codes ",\"reason\":" ++ json_string refusal.reason) ++ ((codes ",\"text\":" ++ json_string refusal.message) ++ (json_hint hint ++ codes "}"))))
