-- Proves the case of `explain`, and the case of another name that is not that of a word.
use Rattle.ixdtf_answers.proofs.answer.answer_no_word.Goals as goal
use Rattle.std.proofs.{Common.{inl, inr, refl, sym, ◌∙◌, true≢false}, lemmas.Slice.Eq.bytes_eq-Decides}
use Rattle.ixdtf_answers.specs.Answer.{unknown_reader}

pub returns-then-eq : goal.returns-then-eq
returns-then-eq g c =
    let p = c.answer_explain.ensures in
    let named = (bytes_eq-Decides c.args.name.now c.as_slice.result.now).0 (sym c.eq.ensures ∙ c.if-eq.true) in
    record { answer = p.answer; is = inr (inl (named ∙ c.as_slice.ensures, p.is)); puts = p.puts }

pub returns-else-eq : goal.returns-else-eq
returns-else-eq g c =
    let equal = (bytes_eq-Decides c.args.name.now c.as_slice.result.now).1 in
    record {
      answer = unknown_reader;
      is = inr (inr (c.requires.unnamed, λ is. true≢false (sym (equal (is ∙ sym c.as_slice.ensures)) ∙ (sym c.eq.ensures ∙ c.if-eq.false)), refl));
      puts = c.put_no_such_reader.ensures;
    }
