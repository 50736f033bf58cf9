-- The outcomes of a text: a value that the grammar derives, or a row that fits.
use Rattle.std.specs.Prelude.{◌≡◌, ℕ, ◌+◌, List, ◌++◌, length}
use Rattle.ixdtf_grammar.specs.{language.{Letters.Text, Brackets.Pair, Readers.Reader, Languages.{Found, Derives}}, table.Faults.Fault}
use Rattle.ixdtf_grammar.specs.declared.reason.Reason.{Reason}
use Rattle.ixdtf_grammar.specs.table.{Reasons.reason_of, Rows.{Row, Fits, left_at}}

-- A row with the error fits, with these complete annotations before it.
abbrev pub HasFault : Reader → Text → List Pair → Fault → Type 0
HasFault reader text pairs fault = (row : Row) × Fits reader row pairs text × (row.error ≡ fault)

-- A row with the error fits at the position, with these complete annotations before it.
abbrev pub HasFaultAt : Reader → Text → List Pair → Fault → ℕ → Type 0
HasFaultAt reader text pairs fault at =
    (row : Row) × Fits reader row pairs text × (row.error ≡ fault) × (at + length (left_at row.place) ≡ length text)

-- No row with another error fits the text, and no row fits at another position.
abbrev pub OnlyPlace : Reader → Text → Fault → ℕ → Type 0
OnlyPlace reader text fault at = (other : Fault) (pairs : List Pair) (there : ℕ) → HasFaultAt reader text pairs other there → (other ≡ fault) × (there ≡ at)

-- A row fits whose line has the reason, with these complete annotations before it.
abbrev pub HasReason : Reader → Text → List Pair → Reason → Type 0
HasReason reader text pairs reason = (row : Row) × Fits reader row pairs text × (reason_of row.name ≡ reason)

-- No row fits whose line has another reason.
abbrev pub OnlyReason : Reader → Text → Reason → Type 0
OnlyReason reader text reason = (other : Reason) (pairs : List Pair) → HasReason reader text pairs other → other ≡ reason

-- No row fits the text.
abbrev pub NoRowFits : Reader → Text → Type 0
NoRowFits reader text = (row : Row) (pairs : List Pair) → ¬ (Fits reader row pairs text)

-- A row with the error fits, with these complete annotations before it. No other row fits, and this row does not fit with other
-- annotations. The grammar derives nothing from the text.
pub record OnlyFault (reader : Reader) (text : Text) (pairs : List Pair) (fault : Fault) : Type 0 where
  pub row : Row
  pub fits : Fits reader row pairs text
  pub has : row.error ≡ fault
  pub only : (other : Row) (before : List Pair) → Fits reader other before text → (other ≡ row) × (before ≡ pairs)
  pub underived : (found : Found) (all : List Pair) → ¬ (Derives reader text found all)

-- An outcome is a derived value with the annotations of the text, or a row of the fault table with the annotations before it.
pub data Outcome : Type 0 where
  derived : Found → List Pair → Outcome
  refused : Row → List Pair → Outcome

-- The grammar derives the value from the text, or the row fits the text.
abbrev pub Holds : Reader → Text → Outcome → Type 0
Holds reader text (derived found pairs) = Derives reader text found pairs
Holds reader text (refused row pairs) = Fits reader row pairs text

abbrev pub ExactlyOne : {A : Type 0} → (A → Type 0) → Type 0
ExactlyOne {A} p = (x : A) × p x × ((y : A) → p y → y ≡ x)

-- Each text has exactly one outcome in each reader. A row contains its place, with the rest of the text from there on. So the error
-- has one position.
abbrev pub OneOutcome : Type 0
OneOutcome = (reader : Reader) (text : Text) → ExactlyOne (Holds reader text)

-- These are the annotations of an outcome.
abbrev pub pairs_of : Outcome → List Pair
pairs_of (derived found pairs) = pairs
pairs_of (refused row pairs) = pairs

-- The annotations are the first ones of `all`.
abbrev pub Begins : List Pair → List Pair → Type 0
Begins pairs all = (more : List Pair) × (all ≡ pairs ++ more)

-- If the grammar derives a prefix of a text, the annotations of this prefix are the first ones of the outcome of the complete text.
abbrev pub FrontsBegin : Type 0
FrontsBegin = (reader : Reader) (front rest : Text) (found : Found) (pairs : List Pair) (outcome : Outcome) →
    Derives reader front found pairs → Holds reader (front ++ rest) outcome → Begins pairs (pairs_of outcome)
