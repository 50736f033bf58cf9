-- Proves the case of an accepted text, and the case of a refused text.
use Rattle.ixdtf_answers.proofs.explanations.explain_text.Goals as goal
use Rattle.std.proofs.Common.{inr, refl}
use Rattle.ixdtf_answers.specs.{Answer.refusal_of, Word.reader_of}
use Rattle.ixdtf_answers.proofs.ExplainLemmas.{accepted, at_within}

pub returns-in-Ok : goal.returns-in-Ok
returns-in-Ok g c =
    let put = c.answer_text.ensures in
    record { answer = put.answer; is = accepted c.args.word c.args.text.now put.answer c.in-Ok.ensures.ok put.is; puts = put.puts }

pub put_refusal-requires : goal.put_refusal-requires
put_refusal-requires g c = at_within (reader_of c.args.word) c.args.text.now c.in-Err.error.at c.in-Err.error.reason c.in-Err.ensures.err

pub returns-in-Err : goal.returns-in-Err
returns-in-Err g c =
    let put = c.put_refusal.ensures in
    let error = c.in-Err.error in
    record {
      answer = refusal_of error.at put.part error.reason;
      is = inr (record { at = error.at; reason = error.reason; refuses = c.in-Err.ensures.err; part = put.part; is_part = put.is; is = refl });
      puts = put.puts;
    }
