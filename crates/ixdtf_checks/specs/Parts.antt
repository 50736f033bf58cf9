-- Defines the part of a line that is its text.
use Rattle.std.specs.Prelude.{◌≡◌, ℕ, Bool, true, false, zero, suc, ◌+◌, ◌-◌, ◌==◌, ◌&&◌, if◌then◌else◌, List, length, take, drop, Option, Some, None, position, option_map, slice_index_or, MatchOption}
use Rattle.std.specs.Option.{option_and_then, unwrap_or}
use Rattle.ixdtf_buffers.specs.Lines.{is_byte}
use Rattle.ixdtf_checks.specs.declared.{request.{Field.Field, Extent.{Extent, TheVariants.{One, More, Csv}}}, line_part.{Part.Part, Lost.{Lost, TheVariants.{NoField, Broken}}}}
use Rattle.ixdtf_checks.specs.Csv.{Cell, Cell.{escaped, unescaped}, IsBad, IsField, HasFew, quote, quotes_in}

-- This is the line without the carriage return at its end, if there is one.
abbrev pub without_return : List ℕ → List ℕ
without_return line = if slice_index_or line (length line - 1) 0 == 13 then take (length line - 1) line else line

-- The bytes begin with a byte order mark: U+FEFF in UTF-8 (RFC 3629, section 6).
abbrev pub has_mark : List ℕ → Bool
has_mark bytes = (slice_index_or bytes 0 0 == 239) && ((slice_index_or bytes 1 0 == 187) && (slice_index_or bytes 2 0 == 191))

abbrev pub without_mark : List ℕ → List ℕ
without_mark bytes = if has_mark bytes then drop 3 bytes else bytes

-- This is a line without the bytes that do not belong to it: a byte order mark at the beginning of the first line of a file, and a
-- carriage return at the end of any line.
abbrev pub line_in : Bool → List ℕ → List ℕ
line_in is_first bytes = without_return (if is_first then without_mark bytes else bytes)

-- This is a text and the number of bytes of the line before it. If the text is quoted, the line has each of its quotes twice.
pub record Text : Type 0 where
  pub start : ℕ
  pub bytes : List ℕ
  pub is_quoted : Bool

-- This is the number of bytes of the line for the first bytes of a text.
abbrev pub width_of : Text → ℕ → ℕ
width_of text count = count + (if text.is_quoted then quotes_in (take count text.bytes) else 0)

-- This is the index at which the field begins after `before` other fields, each with its separator.
abbrev pub field_start : ℕ → ℕ → List ℕ → Option ℕ
field_start separator zero line = Some 0
field_start separator (suc before) line =
    option_and_then (λ place. option_map (λ start. place + 1 + start) (field_start separator before (drop (place + 1) line)))
    (position (is_byte separator) line)

-- The first field has the bytes before the first separator, or all bytes.
abbrev pub front_field : ℕ → List ℕ → List ℕ
front_field separator line = unwrap_or (option_map (λ place. take place line) (position (is_byte separator) line)) line

-- These are the first fields, up to the field after `more` others: the bytes up to the end of this field. If the separator is a space,
-- they are these fields, joined by one space.
abbrev pub front_fields : ℕ → ℕ → List ℕ → Option (List ℕ)
front_fields separator more line =
    option_map (λ last. take (last + length (front_field separator (drop last line))) line) (field_start separator more line)

-- This is the part of a line with these bytes.
abbrev pub plain_text : ℕ → List ℕ → Text
plain_text start bytes = record { start = start; bytes = bytes; is_quoted = false }

-- This is the field after `before` other fields, if the line has enough fields. It is what is between two separators.
abbrev pub field_text : ℕ → ℕ → List ℕ → Option Text
field_text separator before line =
    option_map (λ start. plain_text start (front_field separator (drop start line))) (field_start separator before line)

-- This is the field after `before` other fields, with `more` fields after it, if the line has enough fields.
abbrev pub fields_text : ℕ → ℕ → ℕ → List ℕ → Option Text
fields_text separator before more line =
    option_and_then (λ start. option_map (λ bytes. plain_text start bytes) (front_fields separator more (drop start line)))
    (field_start separator before line)

-- This is the text of a field of a record of RFC 4180. `start` is the number of bytes before the field. The text of a field in quotes
-- begins after its first quote.
abbrev pub text_in : ℕ → Cell → Text
text_in start (escaped text) = record { start = start + 1; bytes = text; is_quoted = true }
text_in start (unescaped text) = plain_text start text

abbrev pub HasCell : ℕ → ℕ → List ℕ → Text → Type 0
HasCell separator before line text = (start : ℕ) × (cell : Cell) × IsField separator before line start cell × (text ≡ text_in start cell)

-- This is the text of a field of a record of RFC 4180. In a line without a quote, each field is what is between two separators.
abbrev pub HasCsvText : ℕ → ℕ → List ℕ → Text → Type 0
HasCsvText separator before line text =
    MatchOption (position (is_byte quote) line) (field_text separator before line ≡ Some text) (λ at. HasCell separator before line text)

-- The text of the line begins with this field.
abbrev pub HasFieldText : Extent → ℕ → ℕ → List ℕ → Text → Type 0
HasFieldText One separator before line text = field_text separator before line ≡ Some text
HasFieldText (More more) separator before line text = fields_text separator before more line ≡ Some text
HasFieldText Csv separator before line text = HasCsvText separator before line text

-- This is the text of a line: the complete line, or a field of it, or a field and the fields after it.
abbrev pub HasText : Option Field → List ℕ → Text → Type 0
HasText None line text = text ≡ plain_text 0 line
HasText (Some field) line text = HasFieldText field.extent field.separator field.before line text

-- The line has no text: it is no record, or has too few fields.
abbrev pub IsLostCell : ℕ → ℕ → List ℕ → Lost → Type 0
IsLostCell separator before line NoField = HasFew separator before line
IsLostCell separator before line (Broken broken) = IsBad separator line broken

abbrev pub IsLostCsv : ℕ → ℕ → List ℕ → Lost → Type 0
IsLostCsv separator before line lost = MatchOption (position (is_byte quote) line)
    ((lost ≡ NoField) × (field_text separator before line ≡ None))
    (λ at. IsLostCell separator before line lost)

abbrev pub IsLostField : Extent → ℕ → ℕ → List ℕ → Lost → Type 0
IsLostField One separator before line lost = (lost ≡ NoField) × (field_text separator before line ≡ None)
IsLostField (More more) separator before line lost = (lost ≡ NoField) × (fields_text separator before more line ≡ None)
IsLostField Csv separator before line lost = IsLostCsv separator before line lost

abbrev pub IsLost : Option Field → List ℕ → Lost → Type 0
IsLost None line lost = ⊥
IsLost (Some field) line lost = IsLostField field.extent field.separator field.before line lost

-- This is the part of the definitions for a part in the code.
abbrev pub seen_part : Part → Text
seen_part part = record { start = part.start; bytes = part.text.now; is_quoted = part.is_quoted }
