-- Proves that a run over lines writes the answers to the lines.
use Rattle.std.proofs.{Common.{ℕ, List, [], ◌∷◌, ◌++◌, Option, Result, Ok, Err, OnOk, refl, append_assoc}}
use Rattle.ixdtf_buffers.specs.{declared.error.RunError.RunError, Tasks.{Steps, Does, DoesFront}}
use Rattle.ixdtf_answers.specs.Run.{Answers, AreAnswers, WritesAnswers, WritesFront}
use Rattle.ixdtf_answers.proofs.EachLine.{all_answers, AreAnswers-append}

module _ {T : Type 0} where
  answers_of : (old new : T) (lines : List (List ℕ)) (bytes : List ℕ) → Steps (λ _ line put _. Answers line put) old lines bytes new → AreAnswers lines bytes
  answers_of old new [] bytes (none, same) = none
  answers_of old new (line ∷ lines) bytes (put, others, next, whole, (answer, is, ends), rest) =
      (answer, others, is, rw (whole, ends, append_assoc) refl, answers_of next new lines others rest)

module _ {T : Type 0} {s n : Option (List ℕ)} {old new : T} where
  -- All bytes that were passed to the output were written.
  pub writes : {lines : List (List ℕ)} → Does (λ _ line put _. Answers line put) s n old new lines → WritesAnswers s n lines
  writes {lines = lines} p = (p.bytes, answers_of old new lines p.bytes p.steps, p.appended)

  -- A prefix of the answers to the first lines is also a prefix of the answers to all lines.
  pub writes_front : {lines : List (List ℕ)} → DoesFront (λ _ line put _. Answers line put) s n old new lines → WritesFront s n lines
  writes_front p =
      let (more, answers) = all_answers p.others in
      let first = rw p.front.whole at (answers_of old new p.first p.bytes p.steps) in
      record {
        written = p.front.front;
        rest = p.front.rest ++ more;
        answers = rw (p.whole, ← append_assoc) (AreAnswers-append p.first p.others (p.front.front ++ p.front.rest) more first answers);
        appended = p.front.appended;
      }

-- A statement about a successful call follows from another one.
pub on_ok : (A B : Type 0) (r : Result (Unit {0}) RunError) → (A → B) → OnOk r A → OnOk r B
on_ok A B (Ok t) follows p = follows p
on_ok A B (Err e) follows p = tt
