-- The rows of the fault table, and the definition of when a row fits a text.
use Rattle.std.specs.Prelude.{◌≡◌, ℕ, Bool, IsFalse, List, [], ◌∷◌, ◌++◌}
use Rattle.ixdtf_grammar.specs.language.{Letters.{Text, Letter.{Plain, Bad}}, Shapes.Shape, Readers.{Reader, has_brackets}, Brackets.Pair}
use Rattle.ixdtf_grammar.specs.table.{Faults.{Fault, Fault.NonAsciiCodePoint}, LineNames.LineName, Lines.{Line, line_of, Line.{line, scanned, whole}}}
use Rattle.ixdtf_grammar.specs.table.{Lines.Ending.error, Before.Before}

-- The place of a row is the end of the text, another code unit, a bad code unit, or anywhere. It has the rest of the text from there
-- on.
pub data Place : Type 0 where
  end other bad anywhere : Text → Place

-- This is the rest of the text from the place on.
abbrev pub left_at : Place → Text
left_at (end left) = left
left_at (other left) = left
left_at (bad left) = left
left_at (anywhere left) = left

-- A row has the name of its line, its place and its error.
pub record Row : Type 0 where
  pub name : LineName
  pub place : Place
  pub error : Fault

abbrev pub front_of : Line → Shape
front_of (line front goes_on at_end at_other) = front
front_of (scanned front fault) = front
front_of (whole front fault) = front

-- The text after the prefix of the line is what a row with this place and this error requires.
abbrev pub Stops : Line → Place → Fault → Text → Type 0
Stops (line front goes_on at_end at_other) (end left) fault rest = (rest ≡ []) × (at_end ≡ error fault) × (left ≡ rest)
Stops (line front goes_on at_end at_other) (other left) fault rest =
    (c : ℕ) × (more : Text) × (rest ≡ Plain c ∷ more) × IsFalse (goes_on c) × (fault ≡ at_other c) × (left ≡ rest)
Stops (line front goes_on at_end at_other) (bad left) fault rest = (more : Text) × (rest ≡ Bad ∷ more) × (fault ≡ NonAsciiCodePoint) × (left ≡ rest)
Stops (line front goes_on at_end at_other) (anywhere left) fault rest = ⊥
Stops (scanned front at_end) (end left) fault rest = (rest ≡ []) × (fault ≡ at_end) × (left ≡ rest)
Stops (scanned front at_end) (other left) fault rest = ⊥
Stops (scanned front at_end) (bad left) fault rest = (more : Text) × (rest ≡ Bad ∷ more) × (fault ≡ NonAsciiCodePoint) × (left ≡ rest)
Stops (scanned front at_end) (anywhere left) fault rest = ⊥
Stops (whole front at_front) (anywhere left) fault rest = (fault ≡ at_front) × (left ≡ rest)
Stops (whole front at_front) (end left) fault rest = ⊥
Stops (whole front at_front) (other left) fault rest = ⊥
Stops (whole front at_front) (bad left) fault rest = ⊥

-- The text is a prefix of the line, and then a text that the row requires. `brackets` says whether the reader reads brackets.
abbrev pub FitsHere : Bool → Row → Text → Type 0
FitsHere brackets row text =
    (front rest : Text) × (text ≡ front ++ rest) × front_of (line_of brackets row.name) front × Stops (line_of brackets row.name) row.place row.error rest

-- The row fits the text, with these complete annotations before it. The text has three parts: the text before the line in the reader,
-- a prefix of the line, and a text that the row requires.
abbrev pub Fits : Reader → Row → List Pair → Text → Type 0
Fits reader row pairs text =
    (before rest : Text) × (text ≡ before ++ rest) × Before reader row.name pairs before rest × FitsHere (has_brackets reader) row rest
