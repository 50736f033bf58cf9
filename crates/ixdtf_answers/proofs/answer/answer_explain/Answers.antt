-- Proves the case of bytes that begin with a word and a space, and the two cases of other bytes.
use Rattle.ixdtf_answers.proofs.answer.answer_explain.Goals as goal
use Rattle.std.proofs.Common.{inl, inr, refl}
use Rattle.ixdtf_answers.specs.Answer.{unknown_reader}
use Rattle.ixdtf_answers.proofs.AnswerLemmas.{IsExplainAnswer-word, IsExplainAnswer-none}

pub returns-in_default : goal.returns-in_default
returns-in_default g c = record {
  answer = unknown_reader;
  is = IsExplainAnswer-none c.args.bytes.now c.in_default.ensures.place;
  puts = c.put_no_such_reader.ensures;
}

pub returns-in_default-named : goal.returns-in_default-named
returns-in_default-named g c = record {
  answer = unknown_reader;
  is = IsExplainAnswer-word c.args.bytes.now unknown_reader c.in-Some.place c.in-Some.ensures.place (inr (c.in_default-named.ensures, refl));
  puts = c.put_no_such_reader-in_default-named.ensures;
}

pub returns : goal.returns
returns g c =
    let p = c.explain_text.ensures in
    record {
      answer = p.answer;
      is = IsExplainAnswer-word c.args.bytes.now p.answer c.in-Some.place c.in-Some.ensures.place (inl (c.in-Some-named.word, c.in-Some-named.ensures, p.is));
      puts = p.puts;
    }
