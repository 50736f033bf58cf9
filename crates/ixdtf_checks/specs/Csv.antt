-- Defines the fields of a record of RFC 4180, section 2. The record is a line, and some of its fields may be in quotes.
use Rattle.std.specs.Prelude.{◌≡◌, ◌⊎◌, ℕ, Bool, false, ◌+◌, ◌<◌, ◌==◌, if◌then◌else◌, List, [], ◌∷◌, ◌++◌, length, codes, slice_index_or}
use Rattle.ixdtf_buffers.specs.Lines.{is_byte}
use Rattle.ixdtf_checks.specs.declared.csv.{Broken.Broken, Quoting.{Quoting, TheVariants.{NotClosed, TextAfter, Stray}}}

-- This is the double quote.
abbrev pub quote : ℕ
quote = 34

-- A field has a text, and is in quotes ("escaped" in RFC 4180) or not.
pub data Cell : Type 0 where
  escaped : List ℕ → Cell
  unescaped : List ℕ → Cell

-- Each quote is doubled.
unfoldable pub doubled : List ℕ → List ℕ
doubled [] = []
doubled (byte ∷ bytes) = if byte == quote then quote ∷ (quote ∷ doubled bytes) else byte ∷ doubled bytes

-- These are the bytes of the line for a field.
abbrev pub spelled : Cell → List ℕ
spelled (escaped text) = quote ∷ (doubled text ++ quote ∷ [])
spelled (unescaped text) = text

-- None of the bytes is the wanted one.
abbrev pub IsWithout : ℕ → List ℕ → Type 0
IsWithout wanted bytes = (k : ℕ) → k < length bytes → is_byte wanted (slice_index_or bytes k 0) ≡ false

-- A field that is not in quotes has no separator and no quote.
abbrev pub IsCell : ℕ → Cell → Type 0
IsCell separator (escaped text) = Unit {0}
IsCell separator (unescaped text) = IsWithout separator text × IsWithout quote text

abbrev pub AreCells : ℕ → List Cell → Type 0
AreCells separator [] = Unit {0}
AreCells separator (cell ∷ cells) = IsCell separator cell × AreCells separator cells

-- These are the bytes of fields, each with a separator after it.
abbrev pub fronts : ℕ → List Cell → List ℕ
fronts separator [] = []
fronts separator (cell ∷ cells) = spelled cell ++ separator ∷ fronts separator cells

-- The bytes are a record: fields with one separator between two of them. This is their last field, and these are the fields before it.
pub record IsRecord (separator : ℕ) (bytes : List ℕ) : Type 0 where
  pub earlier : List Cell
  pub last : Cell
  pub are : AreCells separator earlier
  pub is : IsCell separator last
  pub whole : bytes ≡ fronts separator earlier ++ spelled last

-- Nothing follows a field, or a separator and the other fields of a record follow it.
abbrev pub Ends : ℕ → List ℕ → Type 0
Ends separator rest = (rest ≡ []) ⊎ ((others : List ℕ) × (rest ≡ separator ∷ others) × IsRecord separator others)

-- The line is a record, and this is its field after `before` other fields, which begins at this index.
pub record IsField (separator before : ℕ) (line : List ℕ) (start : ℕ) (cell : Cell) : Type 0 where
  pub earlier : List Cell
  pub rest : List ℕ
  pub are : AreCells separator earlier
  pub is : IsCell separator cell
  pub count : length earlier ≡ before
  pub begins : start ≡ length (fronts separator earlier)
  pub whole : line ≡ fronts separator earlier ++ (spelled cell ++ rest)
  pub ends : Ends separator rest

-- The line is a record, and has at most `before` fields.
pub record HasFew (separator before : ℕ) (line : List ℕ) : Type 0 where
  pub is : IsRecord separator line
  pub few : length is.earlier < before

-- The bytes begin with no field of a record. `at` is the index of the byte that is wrong. If a quote is not closed, it is this quote.
abbrev pub IsBroken : Quoting → ℕ → List ℕ → ℕ → Type 0
IsBroken NotClosed separator bytes at = (text : List ℕ) × (bytes ≡ quote ∷ doubled text) × (at ≡ 0)
IsBroken TextAfter separator bytes at = (text : List ℕ) × (byte : ℕ) × (rest : List ℕ)
    × (bytes ≡ spelled (escaped text) ++ byte ∷ rest) × (is_byte quote byte ≡ false) × (is_byte separator byte ≡ false) × (at ≡ length (spelled (escaped text)))
IsBroken Stray separator bytes at = (front : List ℕ) × (rest : List ℕ)
    × (bytes ≡ front ++ quote ∷ rest) × (0 < length front) × IsWithout separator front × IsWithout quote front × (at ≡ length front)

-- The line is no record: at this index, it has a quote that RFC 4180 does not allow, or a byte after a closing quote.
pub record IsBad (separator : ℕ) (line : List ℕ) (broken : Broken) : Type 0 where
  pub earlier : List Cell
  pub rest : List ℕ
  pub at : ℕ
  pub are : AreCells separator earlier
  pub whole : line ≡ fronts separator earlier ++ rest
  pub breaks : IsBroken broken.quoting separator rest at
  pub place : broken.at ≡ length (fronts separator earlier) + at

abbrev pub quoting_message : Quoting → List ℕ
quoting_message NotClosed = codes "a quote is not closed in this line"
quoting_message TextAfter = codes "text after a closing quote"
quoting_message Stray = codes "a quote in a field without quotes"

-- This is the name of the reason.
abbrev pub quoting_name : Quoting → List ℕ
quoting_name NotClosed = codes "quote_not_closed"
quoting_name TextAfter = codes "text_after_quote"
quoting_name Stray = codes "stray_quote"

-- This is the number of quotes in the bytes.
abbrev pub quotes_in : List ℕ → ℕ
quotes_in [] = 0
quotes_in (byte ∷ bytes) = (if byte == quote then 1 else 0) + quotes_in bytes

-- The following definitions say what functions of the code do. No clause of `check` cites them.

-- The bytes begin with a quote.
abbrev pub begins_quoted : List ℕ → Bool
begins_quoted [] = false
begins_quoted (byte ∷ bytes) = byte == quote

-- The bytes of a field are in quotes.
abbrev pub is_escaped : List ℕ → Bool
is_escaped [] = false
is_escaped (byte ∷ []) = false
is_escaped (byte ∷ (next ∷ bytes)) = byte == quote

-- The second of each two quotes is left out.
unfoldable pub undoubled : List ℕ → List ℕ
undoubled [] = []
undoubled (byte ∷ []) = byte ∷ []
undoubled (byte ∷ (next ∷ bytes)) = if byte == quote then byte ∷ undoubled bytes else byte ∷ undoubled (next ∷ bytes)
