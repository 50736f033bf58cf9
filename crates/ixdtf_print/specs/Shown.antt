-- What `Display` writes for a record.
use Rattle.std.specs.{Prelude.{ℕ, List, map}, Str.encode_utf8_all}
use Rattle.ixdtf.specs.language.{Letters.{Letter, Text, Letter.{Plain, Bad}}, Languages.Parsed}
use Rattle.ixdtf_print.specs.Canonical.{canonical_text}

-- The number of a code unit. No code unit of a canonical text is `Bad`.
abbrev pub code_point : Letter → ℕ
code_point (Plain n) = n
code_point Bad = 0

-- The characters of a text in UTF-8.
abbrev pub bytes_of : Text → List ℕ
bytes_of text = encode_utf8_all (map code_point text)

-- The bytes that `Display` writes for the canonical text.
abbrev pub shown_text : Parsed → List ℕ
shown_text found = bytes_of (canonical_text found)
