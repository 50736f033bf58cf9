-- Defines how a string of JSON is read (RFC 8259, section 7).
use Rattle.std.specs.{List.All, Prelude.{◌≡◌, ◌≤◌, ℕ, zero, suc, Bool, ◌+◌, ◌-◌, ◌*◌, ◌==◌, ◌&&◌, ◌||◌, nat_le, nat_lt, if◌then◌else◌, List, [], ◌∷◌, ◌++◌, Option, Some, None, option_map}, Option.option_and_then, Char.encode_utf8}
use Rattle.ixdtf_checks.specs.Json.{json_string}

-- This is what a reader awaits: the next character, what follows a `\`, or a hexadecimal digit of an escape such as `\u001B`. For a digit,
-- these are the number of the digits after it, and the number that the digits before it have.
pub data Awaited : Type 0 where
  character : Awaited
  escape : Awaited
  digit : ℕ → ℕ → Awaited

-- This is the character that a `\` and this letter mean.
abbrev pub escape_of : ℕ → Option ℕ
escape_of letter =
    if (letter == 34) || ((letter == 92) || (letter == 47)) then Some letter
    else (if letter == 98 then Some 8
    else (if letter == 102 then Some 12
    else (if letter == 110 then Some 10
    else (if letter == 114 then Some 13
    else (if letter == 116 then Some 9 else None)))))

-- This is the value of a hexadecimal digit.
abbrev pub hex_value : ℕ → Option ℕ
hex_value byte =
    if nat_le 48 byte && nat_le byte 57 then Some (byte - 48)
    else (if nat_le 65 byte && nat_le byte 70 then Some (byte - 55)
    else (if nat_le 97 byte && nat_le byte 102 then Some (byte - 87) else None))

-- The number is one of those that stand for a character only in pairs.
abbrev pub is_surrogate : ℕ → Bool
is_surrogate code = nat_le 0xD800 code && nat_le code 0xDFFF

-- The bytes come before the rest of the text.
abbrev pub after : List ℕ → Option (List ℕ × List ℕ) → Option (List ℕ × List ℕ)
after bytes read = option_map (λ both. (bytes ++ both.0, both.1)) read

-- This is the text in the rest of a string, in UTF-8, and what follows the string. It is `None` if these bytes are not the rest of a
-- string. A quote ends the string. A control character cannot be in it. Of the escapes with a number, those of surrogates are left out.
abbrev pub read_from : Awaited → List ℕ → Option (List ℕ × List ℕ)
read_from awaited [] = None
read_from character (byte ∷ bytes) =
    if byte == 34 then Some ([], bytes)
    else (if byte == 92 then read_from escape bytes
    else (if nat_lt byte 32 then None else after (byte ∷ []) (read_from character bytes)))
read_from escape (byte ∷ bytes) =
    if byte == 117 then read_from (digit 3 0) bytes
    else option_and_then (λ meant. after (meant ∷ []) (read_from character bytes)) (escape_of byte)
read_from (digit (suc more) code) (byte ∷ bytes) =
    option_and_then (λ value. read_from (digit more (16 * code + value)) bytes) (hex_value byte)
read_from (digit zero code) (byte ∷ bytes) =
    option_and_then (λ value. if is_surrogate (16 * code + value) then None else after (encode_utf8 (16 * code + value)) (read_from character bytes)) (hex_value byte)

-- This is the text of the string that the bytes begin with, and what follows the string.
abbrev pub read_string : List ℕ → Option (List ℕ × List ℕ)
read_string [] = None
read_string (byte ∷ bytes) = if byte == 34 then read_from character bytes else None

-- A reader gets the text back from the string that is written for it, whatever follows the string.
abbrev pub IsReadBack : Type 0
IsReadBack = (text rest : List ℕ) → read_string (json_string text ++ rest) ≡ Some (text, rest)

-- No control character is in a string that is written.
abbrev pub HasNoControl : Type 0
HasNoControl = (text : List ℕ) → All (λ byte. 32 ≤ byte) (json_string text)
