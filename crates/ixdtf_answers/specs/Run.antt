-- Defines what a run writes for the bytes that it reads.
use Rattle.std.specs.{Prelude.{◌≡◌, ℕ, List, [], ◌∷◌, ◌++◌, Option}, Io.KnownBytes.Appends}
use Rattle.ixdtf_answers.specs.Answer.{IsAnswer}
use Rattle.ixdtf_buffers.specs.Lines.{newline}

-- The bytes are the answer to the line, and a newline.
abbrev pub Answers : List ℕ → List ℕ → Type 0
Answers line bytes = (answer : List ℕ) × IsAnswer line answer × (bytes ≡ answer ++ newline ∷ [])

-- The bytes are the answers to the lines, each with a newline.
abbrev pub AreAnswers : List (List ℕ) → List ℕ → Type 0
AreAnswers [] bytes = bytes ≡ []
AreAnswers (line ∷ lines) bytes =
    (answer : List ℕ) × (others : List ℕ) × IsAnswer line answer × (bytes ≡ answer ++ newline ∷ others) × AreAnswers lines others

-- The answers to the lines were written.
abbrev pub WritesAnswers : Option (List ℕ) → Option (List ℕ) → List (List ℕ) → Type 0
WritesAnswers old new lines = (written : List ℕ) × AreAnswers lines written × Appends old new written

-- A prefix of the answers to the lines was written.
pub record WritesFront (old new : Option (List ℕ)) (lines : List (List ℕ)) : Type 0 where
  pub written : List ℕ
  pub rest : List ℕ
  pub answers : AreAnswers lines (written ++ rest)
  pub appended : Appends old new written
