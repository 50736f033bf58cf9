use Rattle.ixdtf_brackets.proofs.brackets.refuse_bracket.Goals as goal
use Rattle.std.proofs.Common.{◌≡◌, map, Ok, false, refl, sym, ap, ◌∙◌}
use Rattle.ixdtf_grammar.specs.language.Letters.{equals}
use Rattle.ixdtf_reading.specs.reading.{Brackets.{refusal, name_stop, sight_at}, Looks.error_of}
use Rattle.ixdtf_brackets.proofs.code.FirstPass.{bracket_failed, bracket_sighted}

-- The look ahead failed: a code unit is bad.
pub returns-in-Err-clause-stop : goal.returns-in-Err-clause-stop
returns-in-Err-clause-stop g c = rw (bracket_failed _ _ _ c.in-Err.ensures.letters) refl

-- The bracket is a name, but the next code unit cannot continue it.
pub returns-in-Some-2-clause-stop : goal.returns-in-Some-2-clause-stop
returns-in-Some-2-clause-stop g c =
    let letter = g.T.EncodingType.letter in
    let text = map letter c.args.here.rest in
    let key = map letter (map g.T.EncodingType.number c.args.behind_key.now) in
    let other : equals c.in-Some.byte ≡ false = sym c.is_annotation_key_value_separator.ensures ∙ c.if-is_annotation_key_value_separator.false in
    let seen_so : sight_at error_of text ≡ Ok (equals c.in-Some.byte) = bracket_sighted _ _ _ _ c.in-Some.byte c.in-Ok.ensures.letters.2 c.in-Some.is in
    let left : map letter c.fork_at-in-Some-2.result.rest ≡ text = ap (map letter) (c.fork_at-in-Some-2.ensures.there ∙ c.rest-behind_name.ensures) in
    (λ i. (c.stop.ensures i, left i))
    ∙ sym (ap (λ seen. refusal seen (name_stop c.args.name.may_end) key text) (seen_so ∙ ap Ok other))
