-- Proves the case of a line that is too long, and the case of any other line.
use Rattle.ixdtf_answers.proofs.answer.AnsweringLineTaskLINE_LIMIT.take_line.Goals as goal
use Rattle.std.proofs.Common.{[], ◌∷◌, ◌++◌, refl}
use Rattle.ixdtf_buffers.{proofs.OutputLemmas.{Puts-either}, specs.Lines.{newline}}
use Rattle.ixdtf_answers.specs.Answer.{too_long}
use Rattle.ixdtf_answers.proofs.AnswerLemmas.{IsAnswer-long}

pub answer_short-requires : goal.answer_short-requires
answer_short-requires g c = rw c.in-Some.is at c.requires

pub returns-in-None-clause-takes : goal.returns-in-None-clause-takes
returns-in-None-clause-takes g c = λ text long. record {
  bytes = too_long ++ newline ∷ [];
  steps = (too_long, IsAnswer-long text (rw c.in-None.is at long), refl);
  puts = Puts-either c.put_too_long.ensures;
}

pub returns-in-Some-clause-takes : goal.returns-in-Some-clause-takes
returns-in-Some-clause-takes g c = λ text is.
    let put = rw (rw c.in-Some.is at is) at c.answer_short.ensures in
    record { bytes = put.answer ++ newline ∷ []; steps = (put.answer, put.is, refl); puts = Puts-either put.puts }
