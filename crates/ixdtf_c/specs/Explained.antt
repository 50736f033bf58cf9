-- The explanation of an error.
use Rattle.std.specs.Prelude.{◌≡◌, ◌≢◌, ◌↔◌, ℕ, List, length, min}
use Rattle.ixdtf_grammar.specs.declared.reason.Reason.{Reason}
use Rattle.ixdtf_explanations.specs.declared.part.WrongPart.{WrongPart}
use Rattle.ixdtf_explanations.specs.Parts.{IsPart, extent_of}
use Rattle.ixdtf.specs.{language.Letters.Text, table.Faults.Fault}
use Rattle.ixdtf_c.specs.{declared.explanations.Explanation.Explanation, Asked.{Asked, Accepts, IsRefusal}, Numbers.number_for, Reasons.reason_number}

-- The explanation of a text that is accepted.
abbrev pub nothing_wrong : Explanation
nothing_wrong = record { place = 0; begin = 0; end = 0; error = 0; reason = 0 }

-- The explanation of the error with this reason at this position. `units` are the code units of the text.
abbrev pub explanation_for : Fault → ℕ → Reason → WrongPart → Explanation
explanation_for fault at reason part = record { place = at; begin = part.begin; end = part.end; error = number_for fault; reason = reason_number reason }

-- The text is refused with an error, and this is the explanation of the error. `units` are the code units of the text.
pub record IsExplanation (asked : Asked) (text : Text) (units : List ℕ) (explanation : Explanation) : Type 0 where
  pub fault : Fault
  pub reason : Reason
  pub part : WrongPart
  pub refused : IsRefusal asked text fault explanation.place reason
  pub is_part : IsPart (extent_of reason) units (min explanation.place (length units)) part
  pub has : explanation ≡ explanation_for fault explanation.place reason part

-- The number is 0 exactly if the text is accepted. Then each field of the explanation is 0. Otherwise the number is the one of the error,
-- and the explanation is that of the error.
pub record Explains (asked : Asked) (text : Text) (units : List ℕ) (number : ℕ) (explanation : Explanation) : Type 0 where
  pub accepted : (number ≡ 0) ↔ Accepts asked text
  pub nothing : number ≡ 0 → explanation ≡ nothing_wrong
  pub refused : number ≢ 0 → IsExplanation asked text units explanation
  pub has_number : number ≡ explanation.error
