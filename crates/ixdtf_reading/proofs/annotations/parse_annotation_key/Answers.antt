use Rattle.ixdtf_reading.proofs.annotations.parse_annotation_key.Goals as goal
use Rattle.std.proofs.{Common.{◌≡◌, ◌∷◌, ◌∙◌, true, false, sym, ap, rules}, lemmas.Result.err_from_is_err_and}
use Rattle.ixdtf_reading.specs.reading.Zones.{with_letter}
use Rattle.ixdtf_reading.proofs.code.{FirstBytes.key_there, LetterLoops.front_before, PairLoops.{key_after_one, key_failed, key_open, key_done}}

pub advance_two-requires : goal.advance_two-requires
advance_two-requires g c = key_there g.T.EncodingType.letter c.args.cursor.now.rest c.requires.first

pub returns-in_err-next-clause-key : goal.returns-in_err-next-clause-key
returns-in_err-next-clause-key g c =
    let p = err_from_is_err_and c.from_residual.result c.from_residual.ensures.1 in
    let after = key_after_one _ g.met.T.EncodingType.faithful _ _ c.requires.first c.advance_two.ensures.rest in
    rw (p.1, p.2) (after.2 ∙ ap (with_letter after.0) (key_failed _ _ _ c.in_err-next.ensures.letters))

-- The code unit after the key is not `=`.
pub returns-then-not-ends_key-clause-key : goal.returns-then-not-ends_key-clause-key
returns-then-not-ends_key-clause-key g c =
    let test : c.ends_key.result ≡ false = search rules in
    let after = key_after_one _ g.met.T.EncodingType.faithful _ _ c.requires.first c.advance_two.ensures.rest in
    rw c.stopped.ensures (after.2 ∙ ap (with_letter after.0) (key_open _ _ _ _ c.in_ok-next.ensures.letters.2 (sym c.ends_key.ensures ∙ test)))

pub returns-clause-key : goal.returns-clause-key
returns-clause-key g c =
    let test : c.ends_key.result ≡ true = search rules in
    let after = key_after_one _ g.met.T.EncodingType.faithful _ _ c.requires.first c.advance_two.ensures.rest in
    let passed = c.in_ok-next.ensures.letters in
    let front = front_before g.T.EncodingType.number c.rest_behind-start.result.now _ (after.0 ∷ passed.0) c.pass_letters.new.cursor.rest _
    c.rest_behind-start.ensures (after.1 ∙ ap (λ t. after.0 ∷ t) passed.1) c.remaining.ensures in
    rw (c.saturating_sub.ensures, front) (after.2 ∙ ap (with_letter after.0) (key_done _ _ _ _ passed.2 (sym c.ends_key.ensures ∙ test)))
