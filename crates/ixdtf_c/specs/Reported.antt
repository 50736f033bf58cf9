-- The report of an error, and the hint about it.
use Rattle.std.specs.Prelude.{◌≡◌, ◌⊎◌, ℕ, ◌^◌, ◌≤◌, ◌<◌, List, [], ◌++◌, length, min, take, drop, codes, Option, None, Some}
use Rattle.std.specs.Str.Lossy.{utf8_valid_len}
use Rattle.ixdtf_grammar.specs.declared.reason.Reason.{Reason}
use Rattle.ixdtf_explanations.specs.declared.part.WrongPart.{WrongPart}
use Rattle.ixdtf_explanations.specs.declared.message.Message.{Message}
use Rattle.ixdtf_explanations.specs.Parts.{IsPart, extent_of}
use Rattle.ixdtf_explanations.specs.Messages.{IsMessage, message_text}
use Rattle.ixdtf_explanations.specs.Hints.{IsHint}
use Rattle.ixdtf_explanations.specs.LocatedTexts.{pointed_text}

-- The words of a hint, or nothing if there is no hint.
abbrev pub hint_text : Option Message → List ℕ
hint_text None = []
hint_text (Some hint) = message_text hint

-- The line of a hint, after a newline, or nothing if there is no hint.
abbrev pub hint_line : Option Message → List ℕ
hint_line None = []
hint_line (Some hint) = codes "\nhint: " ++ message_text hint

-- A report: the message, the text with marks under the part that is wrong, and the hint. The characters before the first byte that is not
-- UTF-8 are shown.
abbrev pub report_text : Message → WrongPart → Option Message → List ℕ → List ℕ
report_text message part hint text =
    message_text message ++ (codes "\n" ++ (pointed_text (take (utf8_valid_len text) text) part.begin part.end ++ hint_line hint))

-- What is returned and written for these bytes. The number is 0 if the bytes fit into the array, and otherwise 102. After 0, the first
-- bytes of the array are these bytes, and the other bytes are unchanged. After 102, the array is unchanged. The count is the number of the
-- bytes. (If it were not less than 2 ^ 64, a `usize` could not hold it, and the number would be 102.)
pub record Writes (bytes old new : List ℕ) (count number : ℕ) : Type 0 where
  pub known : (number ≡ 0) ⊎ (number ≡ 102)
  pub counts : length bytes < 2 ^ 64 → count ≡ length bytes
  pub fits : number ≡ 0 → length bytes ≤ length old
  pub text : number ≡ 0 → take count new ≡ bytes
  pub rest : number ≡ 0 → drop count new ≡ drop count old
  pub too_short : number ≡ 102 → length old < length bytes
  pub unchanged : number ≡ 102 → new ≡ old

-- The report of an error with this reason at this position is returned and written.
pub record Describes (reason : Reason) (text : List ℕ) (place : ℕ) (old new : List ℕ) (count number : ℕ) : Type 0 where
  pub message : Message
  pub part : WrongPart
  pub hint : Option Message
  pub is_message : IsMessage reason text (min place (length text)) message
  pub is_part : IsPart (extent_of reason) text (min place (length text)) part
  pub is_hint : IsHint reason text (min place (length text)) hint
  pub writes : Writes (report_text message part hint text) old new count number

-- The hint about an error with this reason at this position is returned and written.
pub record Hints (reason : Reason) (text : List ℕ) (place : ℕ) (old new : List ℕ) (count number : ℕ) : Type 0 where
  pub hint : Option Message
  pub is_hint : IsHint reason text (min place (length text)) hint
  pub writes : Writes (hint_text hint) old new count number
