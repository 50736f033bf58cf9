-- Defines which field has a name in the first line of a file.
use Rattle.std.specs.Prelude.{◌≡◌, ◌⊎◌, ℕ, ◌<◌, ◌≤◌, Bool, true, false, List, [], ◌∷◌, ◌++◌, length, drop, position, slice_index_or, Option, Some, None, option_map}
use Rattle.ixdtf_buffers.specs.Lines.{is_byte}
use Rattle.ixdtf_checks.specs.declared.{csv.Broken.Broken, named_column.{ColumnError.{ColumnError, TheVariants.{Missing, NoSeparator, Twice, NoRecord}}, Found.{Found, TheVariants.{Nothing, One, Several}}}}
use Rattle.ixdtf_checks.specs.{Csv.{Cell, Cell.{escaped, unescaped}, IsBad, IsRecord}, Parts.{field_start, front_field}}

-- `Has before` says that the field after `before` other fields has the name. No field has it.
abbrev pub IsNowhere : (ℕ → Type 0) → Type 0
IsNowhere Has = (before : ℕ) → ¬ (Has before)

-- At least two fields have the name.
abbrev pub IsRepeated : (ℕ → Type 0) → Type 0
IsRepeated Has = (before : ℕ) × (other : ℕ) × (before < other) × Has before × Has other

-- This is the field after `before` other fields.
abbrev pub field_in : ℕ → ℕ → List ℕ → Option (List ℕ)
field_in separator before line = option_map (λ start. front_field separator (drop start line)) (field_start separator before line)

-- The field after `before` other fields has the name.
abbrev pub IsNamed : ℕ → List ℕ → List ℕ → ℕ → Type 0
IsNamed separator name line before = field_in separator before line ≡ Some name

-- The field after `before` other fields is the only one that has the name.
pub record IsColumn (separator : ℕ) (name line : List ℕ) (before : ℕ) : Type 0 where
  pub named : IsNamed separator name line before
  pub only : (other : ℕ) → IsNamed separator name line other → other ≡ before

-- No field has the name.
abbrev pub IsMissing : ℕ → List ℕ → List ℕ → Type 0
IsMissing separator name line = IsNowhere (IsNamed separator name line)

-- The line is not empty and has no separator. So it is one field.
abbrev pub IsOneField : ℕ → List ℕ → Type 0
IsOneField separator line = (0 < length line) × (position (is_byte separator) line ≡ None)

-- No field has the name, or at least two fields have it. If no field has it, the error says whether the line is one field. So a line
-- has at most one of these errors.
abbrev pub HasNoColumn : ColumnError → ℕ → List ℕ → List ℕ → Type 0
HasNoColumn Missing separator name line = IsMissing separator name line × ¬ (IsOneField separator line)
HasNoColumn NoSeparator separator name line = IsMissing separator name line × IsOneField separator line
HasNoColumn Twice separator name line = IsRepeated (IsNamed separator name line)
HasNoColumn NoRecord separator name line = ⊥

-- ---- records of RFC 4180

-- This is the text of a field of a record.
abbrev pub cell_text : Cell → List ℕ
cell_text (escaped text) = text
cell_text (unescaped text) = text

-- Of these fields, the one after `before` others has the name.
abbrev pub IsNamedCell : List Cell → List ℕ → ℕ → Type 0
IsNamedCell cells name before = (before < length cells) × (cell_text (slice_index_or cells before (unescaped [])) ≡ name)

-- The line is a record, and this is its field after `before` other fields, if it has the name.
abbrev pub IsNamedIn : {separator : ℕ} {line : List ℕ} → IsRecord separator line → List ℕ → ℕ → Type 0
IsNamedIn is name before = IsNamedCell (is.earlier ++ is.last ∷ []) name before

-- The line is a record, and its field after `before` other fields is the only one that has the name.
pub record IsRecordColumn (separator : ℕ) (name line : List ℕ) (before : ℕ) : Type 0 where
  pub short : length line ≤ 65536
  pub is : IsRecord separator line
  pub named : IsNamedIn is name before
  pub only : (other : ℕ) → IsNamedIn is name other → other ≡ before

-- The line is too long, or is no record, or no field has the name, or at least two fields have it.
abbrev pub HasNoRecordColumn : ColumnError → ℕ → List ℕ → List ℕ → Type 0
HasNoRecordColumn Missing separator name line = (65536 < length line)
    ⊎ ((length line ≤ 65536) × (is : IsRecord separator line) × IsNowhere (IsNamedIn is name) × ¬ (IsOneField separator line))
HasNoRecordColumn NoSeparator separator name line =
    (length line ≤ 65536) × (is : IsRecord separator line) × IsNowhere (IsNamedIn is name) × IsOneField separator line
HasNoRecordColumn Twice separator name line = (length line ≤ 65536) × (is : IsRecord separator line) × IsRepeated (IsNamedIn is name)
HasNoRecordColumn NoRecord separator name line = (length line ≤ 65536) × (broken : Broken) × IsBad separator line broken

-- The following definitions say what functions of the code do.

-- These fields have the name.
abbrev pub AreFound : (ℕ → Type 0) → Found → Type 0
AreFound Has Nothing = IsNowhere Has
AreFound Has (One before) = Has before × ((other : ℕ) → Has other → other ≡ before)
AreFound Has Several = IsRepeated Has

-- These fields have the name if one more field is looked at, which has it or not.
abbrev pub found_with : Found → ℕ → Bool → Found
found_with found before false = found
found_with Nothing before true = One before
found_with (One column) before true = Several
found_with Several before true = Several

-- The error says whether the line is one field.
abbrev pub TellsOneField : ColumnError → ℕ → List ℕ → Type 0
TellsOneField Missing separator line = ¬ (IsOneField separator line)
TellsOneField NoSeparator separator line = IsOneField separator line
TellsOneField Twice separator line = ⊥
TellsOneField NoRecord separator line = ⊥
