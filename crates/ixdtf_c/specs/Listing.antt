-- What the contract of a reader that lists annotations says about a text.
use Rattle.std.specs.Prelude.{◌≡◌, ◌↔◌, ℕ, List, [], ◌∷◌, length, map, Result, Ok, Err, OnOk}
use Rattle.ixdtf_grammar.specs.declared.profile.Profile.{Profile}
use Rattle.ixdtf.specs.language.{Brackets.Pair, Letters.Text, Languages.{Parsed, Derives, Found.parsed}, Readers.Reader}
use Rattle.ixdtf.specs.{table.Outcomes.{HasFaultAt, OnlyFault, OnlyPlace, NoRowFits}, Laws.InNoOther}
use Rattle.ixdtf_c.specs.{Crossing.{Contents, Gives}, Located.FaultAt}

-- The outcome of a text with these annotations before its end or before its error. All of them are dropped. The outcome is `Ok` with
-- a record exactly if the grammar derives the record with these annotations. It is `Ok` only if no table row fits and no other text
-- reader accepts the text. It is `Err` only with the one error that the text has after these annotations, at its one position.
pub record PassesOver (profile : Profile) (reader : Reader) (text : Text) (pairs : List Pair) (outcome : Result Parsed FaultAt) : Type 0 where
  pub ok : (found : Parsed) → (outcome ≡ Ok found) ↔ Derives reader text (parsed found) pairs
  pub err : (e : FaultAt) → outcome ≡ Err e → HasFaultAt reader text pairs e.fault e.at
  pub no_row : OnOk outcome (NoRowFits reader text)
  pub no_other_reader : OnOk outcome (InNoOther profile reader text)
  pub only : (e : FaultAt) → outcome ≡ Err e → OnlyFault reader text pairs e.fault
  pub place : (e : FaultAt) → outcome ≡ Err e → OnlyPlace reader text e.fault e.at

-- The array `slots` after `items` were written to its first elements. Items that do not fit are left out. The elements after the
-- items are unchanged.
abbrev pub overwritten : {A : Type 0} → List A → List A → List A
overwritten [] items = []
overwritten (slot ∷ slots) [] = slot ∷ slots
overwritten (slot ∷ slots) (item ∷ items) = item ∷ overwritten slots items

-- The count is the number of annotations before the end of the text or before its error. The array has the first of them, in order.
-- The outcome is the one of the text if all annotations are dropped.
pub record Lists {A : Type 0} (view : A → Pair) (profile : Profile) (reader : Reader) (text : Text)
    (old new : List A) (count : ℕ) (outcome : Result Parsed FaultAt) : Type 0 where
  pub annotations : List A
  pub counted : count ≡ length annotations
  pub written : new ≡ overwritten old annotations
  pub read : PassesOver profile reader text (map view annotations) outcome

-- The text has an outcome, and its annotations are listed. The outcome is returned and written.
abbrev pub ListsRecord : {A : Type 0} → (A → Pair) → Profile → Reader → Text → List A → List A → ℕ → ℕ → Contents → Contents → Type 0
ListsRecord view profile reader text old new count number record_old record_new =
    (outcome : Result Parsed FaultAt) × Lists view profile reader text old new count outcome
    × Gives (λ found. found) outcome number record_old record_new
