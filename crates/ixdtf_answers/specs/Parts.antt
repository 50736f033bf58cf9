-- Defines what each function writes for an answer. No clause of `run` cites this module.
use Rattle.std.specs.Prelude.{◌≡◌, ℕ, ◌<◌, Bool, List, [], ◌∷◌, ◌++◌, Option, Some, None, Result, IfOk, IfErr, OnOk, take, codes}
use Rattle.ixdtf_buffers.specs.declared.{error.RunError.RunError, output.Output.Output}
use Rattle.ixdtf_buffers.specs.{Lines.newline, Output.Puts}
use Rattle.ixdtf_grammar.specs.declared.error.ParseError.{ParseError}
use Rattle.ixdtf_explanations.specs.declared.located.LocatedError.{LocatedError}
use Rattle.ixdtf_explanations.specs.declared.part.WrongPart.{WrongPart}
use Rattle.ixdtf_grammar.specs.language.Readers.{Reader}
use Rattle.ixdtf_explanations.specs.Parts.{IsPart, extent_of}
use Rattle.ixdtf.specs.{language.{Brackets.ZoneNote, Languages.Found, ZoneNames.{Zone, Zone.{Name, Offset}}}, table.Faults.fault_of}
use Rattle.ixdtf_answers.specs.Answer.{IsAnswer, IsReaderAnswer, IsExplainAnswer, IsExplanation, IsOutcome, Gives, Refuses, letters, fields_answer_of, read_answer_of, refusal_of}
use Rattle.ixdtf_answers.specs.{Fields.{minute_offset_text_of, zone_label_of}, Word.reader_of, Errors.RefusesAt, declared.word.Word.Word}

-- The answers of the word show the fields of the value that its reader returns.
abbrev pub ShowsFields : Word → Type 0
ShowsFields word = (found : Found) → read_answer_of word found ≡ fields_answer_of found

-- The reader of the word returned this result for the text. `view` gives the value of the definitions for the value in the code.
pub record IsReturned {X : Type 0} (view : X → Found) (word : Word) (text : List ℕ) (result : Result X ParseError) : Type 0 where
  pub ok : IfOk result (λ found. Gives (reader_of word) (letters text) (view found))
  pub err : IfErr result (λ error. Refuses (reader_of word) (letters text) (fault_of error))

-- The reader of the word accepted the text. The answer is `ok`, a space and the first `count` bytes of the array.
pub record HasPrinted (word : Word) (text room : List ℕ) (count : ℕ) : Type 0 where
  pub found : Found
  pub gives : Gives (reader_of word) (letters text) found
  pub fits : count < 4352
  pub answer : codes "ok " ++ take count room ≡ read_answer_of word found

-- The reader of the word returned an error for the text, or the canonical text of its value is at the beginning of the array. The
-- result has the number of bytes of the canonical text.
pub record IsPrinted (word : Word) (text room : List ℕ) (result : Result ℕ ParseError) : Type 0 where
  pub ok : IfOk result (HasPrinted word text room)
  pub err : IfErr result (λ error. Refuses (reader_of word) (letters text) (fault_of error))

-- The answer of the word's reader to the text, and a newline, were written to the output.
pub record PutsOutcome {K : Type 0} (contents : K → Option (List ℕ)) (failed : K → Type 0) (before after : Output K) (result : Result (Unit {0}) RunError) (word : Word) (text : List ℕ) : Type 0 where
  pub answer : List ℕ
  pub is : IsOutcome word text answer
  pub puts : Puts contents failed before after result (answer ++ newline ∷ [])

-- The reader accepted the text, or refused it with this error.
pub record IsLocated (reader : Reader) (text : List ℕ) (result : Result (Unit {0}) LocatedError) : Type 0 where
  pub ok : OnOk result ((found : Found) × Gives reader (letters text) found)
  pub err : IfErr result (λ error. RefusesAt reader (letters text) error.at error.reason)

-- The explanation of the error, with the part of the text that is wrong, and a newline, were written to the output.
pub record PutsRefusal {K : Type 0} (contents : K → Option (List ℕ)) (failed : K → Type 0) (before after : Output K) (result : Result (Unit {0}) RunError) (error : LocatedError) (text : List ℕ) : Type 0 where
  pub part : WrongPart
  pub is : IsPart (extent_of error.reason) text error.at part
  pub puts : Puts contents failed before after result (refusal_of error.at part error.reason ++ newline ∷ [])

-- The explanation of the word and the text, and a newline, were written to the output.
pub record PutsExplanation {K : Type 0} (contents : K → Option (List ℕ)) (failed : K → Type 0) (before after : Output K) (result : Result (Unit {0}) RunError) (word : Word) (text : List ℕ) : Type 0 where
  pub answer : List ℕ
  pub is : IsExplanation word text answer
  pub puts : Puts contents failed before after result (answer ++ newline ∷ [])

-- The answer to `explain`, a space and these bytes, and a newline, were written to the output.
pub record PutsExplained {K : Type 0} (contents : K → Option (List ℕ)) (failed : K → Type 0) (before after : Output K) (result : Result (Unit {0}) RunError) (bytes : List ℕ) : Type 0 where
  pub answer : List ℕ
  pub is : IsExplainAnswer bytes answer
  pub puts : Puts contents failed before after result (answer ++ newline ∷ [])

-- The answer to a line with this name and this text, and a newline, were written to the output.
pub record PutsReaderAnswer {K : Type 0} (contents : K → Option (List ℕ)) (failed : K → Type 0) (before after : Output K) (result : Result (Unit {0}) RunError) (name text : List ℕ) : Type 0 where
  pub answer : List ℕ
  pub is : IsReaderAnswer name text answer
  pub puts : Puts contents failed before after result (answer ++ newline ∷ [])

-- The answer to the line, and a newline, were written to the output.
pub record PutsAnswer {K : Type 0} (contents : K → Option (List ℕ)) (failed : K → Type 0) (before after : Output K) (result : Result (Unit {0}) RunError) (line : List ℕ) : Type 0 where
  pub answer : List ℕ
  pub is : IsAnswer line answer
  pub puts : Puts contents failed before after result (answer ++ newline ∷ [])

-- This is the field of a zone up to its name. If the zone is an offset, it is the complete field.
abbrev pub zone_front_of : Bool → Zone → List ℕ
zone_front_of critical (Name name) = zone_label_of critical
zone_front_of critical (Offset offset) = zone_label_of critical ++ minute_offset_text_of offset

-- This is the field of a zone up to its name. It is empty if there is no zone.
abbrev pub zone_field_front_of : Option ZoneNote → List ℕ
zone_field_front_of None = []
zone_field_front_of (Some note) = zone_front_of note.critical note.zone

-- This is the name of a zone. It is empty if the zone is an offset.
abbrev pub zone_name_of : Zone → List ℕ
zone_name_of (Name name) = name
zone_name_of (Offset offset) = []

-- This is the name of a zone. It is empty if there is no zone, or if the zone is an offset.
abbrev pub zone_field_name_of : Option ZoneNote → List ℕ
zone_field_name_of None = []
zone_field_name_of (Some note) = zone_name_of note.zone
