-- What the contract of a reader for C says about a text. It has the clauses of the library's readers, about an outcome instead of a
-- result. It also says that this outcome is returned and written.
use Rattle.std.specs.Prelude.{◌≡◌, ◌↔◌, ℕ, [], Result, Ok, Err, OnOk}
use Rattle.ixdtf_grammar.specs.declared.{profile.Profile.Profile, records.DurationParseRecord.DurationParseRecord}
use Rattle.ixdtf.specs.language.{Letters.Text, Languages.{Parsed, Found, Derives, Found.lasting}, Readers.{Reader, Reader.parse_duration}}
use Rattle.ixdtf.specs.{table.Outcomes.{HasFaultAt, OnlyFault, OnlyPlace, NoRowFits}, Handlers.{UnhandledRecord, UnhandledOnlyFault}, Laws.InNoOther}
use Rattle.ixdtf.specs.Places.{UnhandledFaultAt, UnhandledOnlyPlace}
use Rattle.ixdtf_c.specs.{Crossing.{Contents, DurationContents, Gives, GivesDuration}, Located.FaultAt}

-- The outcome of a text that may have brackets. Each annotation is its own reply. The outcome is `Ok` with a record exactly if the
-- text gives this record. It is `Ok` only if no table row fits and no other text reader accepts the text. It is `Err` only with the
-- one error that the text gives, at the position of this error, and the text gives the error at no other position.
pub record ReadsRecord (profile : Profile) (reader : Reader) (text : Text) (outcome : Result Parsed FaultAt) : Type 0 where
  pub ok : (found : Parsed) → (outcome ≡ Ok found) ↔ UnhandledRecord reader text found
  pub err : (e : FaultAt) → outcome ≡ Err e → UnhandledFaultAt reader text e.fault e.at
  pub no_row : OnOk outcome (NoRowFits reader text)
  pub no_other_reader : OnOk outcome (InNoOther profile reader text)
  pub only : (e : FaultAt) → outcome ≡ Err e → UnhandledOnlyFault reader text e.fault
  pub place : (e : FaultAt) → outcome ≡ Err e → UnhandledOnlyPlace reader text e.fault e.at

-- The outcome of a text that has no brackets, such as an offset. The outcome is `Ok` with a value exactly if the grammar derives the
-- value from the text. It is `Ok` only if no table row fits. It is `Err` only with the one error that the text has, at the position
-- of this error, and the text has the error at no other position.
pub record ReadsPart {A : Type 0} (reader : Reader) (part : A → Found) (text : Text) (outcome : Result A FaultAt) : Type 0 where
  pub ok : (found : A) → (outcome ≡ Ok found) ↔ Derives reader text (part found) []
  pub err : (e : FaultAt) → outcome ≡ Err e → HasFaultAt reader text [] e.fault e.at
  pub no_row : OnOk outcome (NoRowFits reader text)
  pub only : (e : FaultAt) → outcome ≡ Err e → OnlyFault reader text [] e.fault
  pub place : (e : FaultAt) → outcome ≡ Err e → OnlyPlace reader text e.fault e.at

-- A text that may have brackets has an outcome, which is returned and written.
abbrev pub GivesRecord : Profile → Reader → Text → ℕ → Contents → Contents → Type 0
GivesRecord profile reader text number old new =
    (outcome : Result Parsed FaultAt) × ReadsRecord profile reader text outcome × Gives (λ found. found) outcome number old new

-- A text without brackets has an outcome, which is returned and written. `alone` makes a record from the value of the text.
abbrev pub GivesPart : {A : Type 0} → Reader → (A → Found) → (A → Parsed) → Text → ℕ → Contents → Contents → Type 0
GivesPart {A} reader part alone text number old new =
    (outcome : Result A FaultAt) × ReadsPart reader part text outcome × Gives alone outcome number old new

-- The text of a duration has an outcome, which is returned and written. It is `Ok` only if no other text reader accepts the text.
abbrev pub GivesLasting : Profile → Text → ℕ → DurationContents → DurationContents → Type 0
GivesLasting profile text number old new =
    (outcome : Result DurationParseRecord FaultAt) × ReadsPart (parse_duration profile) lasting text outcome
    × OnOk outcome (InNoOther profile (parse_duration profile) text) × GivesDuration outcome number old new
