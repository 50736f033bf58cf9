-- Proves the case of a line without a space, and the two cases of a line with one.
use Rattle.ixdtf_answers.proofs.answer.answer_short.Goals as goal
use Rattle.std.proofs.Common.{inl}
use Rattle.ixdtf_answers.specs.Answer.{unknown_reader}
use Rattle.ixdtf_answers.proofs.AnswerLemmas.{IsAnswer-word, IsAnswer-none}

pub returns-in_default : goal.returns-in_default
returns-in_default g c = record {
  answer = unknown_reader;
  is = IsAnswer-none c.args.line.now c.requires c.in_default.ensures.place;
  puts = c.put_no_such_reader.ensures;
}

pub returns-in_default-named : goal.returns-in_default-named
returns-in_default-named g c =
    let p = c.answer_no_word.ensures in
    record {
      answer = p.answer;
      is = IsAnswer-word c.args.line.now p.answer c.in-Some.place c.requires c.in-Some.ensures.place p.is;
      puts = p.puts;
    }

pub returns : goal.returns
returns g c =
    let p = c.answer_text.ensures in
    record {
      answer = p.answer;
      is = IsAnswer-word c.args.line.now p.answer c.in-Some.place c.requires c.in-Some.ensures.place (inl (c.in-Some-named.word, c.in-Some-named.ensures, p.is));
      puts = p.puts;
    }
