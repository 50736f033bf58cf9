-- Proves which part of the text is in the answer.
use Rattle.ixdtf_answers.proofs.explanations.put_refusal.Goals as goal
use Rattle.std.proofs.Common.{◌≡◌, ℕ, List, [], ◌∷◌, ◌++◌, length, min, codes, subst, arith, append_assoc}
use Rattle.std.specs.Fmt.{decimal}
use Rattle.ixdtf_grammar.specs.ReasonNames.{reason_name}
use Rattle.ixdtf_explanations.specs.Parts.{IsPart, extent_of}
use Rattle.ixdtf_buffers.specs.Lines.{newline}
use Rattle.ixdtf_answers.proofs.PartsLemmas.{puts_same}

-- The parts of an answer, as they are added, are the answer.
whole : (a b c d e f g h t : List ℕ) → (((a ++ b) ++ (c ++ (d ++ (e ++ f)))) ++ g) ++ (h ++ t) ≡ (a ++ (b ++ (c ++ (d ++ (e ++ (f ++ (g ++ h))))))) ++ t
whole a b c d e f g h t = simp append_assoc

pub returns : goal.returns
returns g c =
    let error = c.args.error in
    let bytes = c.args.text.now in
    let part = c.part_in.result in
    let within : min error.at (length bytes) ≡ error.at = omega (arith, c.requires) in
    let put =
    rw (c.add_array-front.ensures.text.is, c.add_part-third.ensures.text.is, c.add_number-second.ensures.text.is, c.add_array-first.ensures.text.is, c.as_bytes.ensures.value, c.name.ensures)
    at c.put_front_and_name.ensures in
    record {
      part = part;
      is = subst (λ at. IsPart (extent_of error.reason) bytes at part) within c.part_in.ensures.part;
      puts = puts_same
          (whole (codes "error at=") (decimal error.at) (codes " part=") (decimal part.begin) (codes "..") (decimal part.end) (codes " reason=") (reason_name error.reason) (newline ∷ []))
          put;
    }
