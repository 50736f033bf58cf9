use Rattle.ixdtf_explanations.proofs.pointed.write_characters.Goals as goal
use Rattle.std.proofs.Common.{◌≡◌, refl, true, map, take, drop, sym, ap, ◌∙◌}
use Rattle.std.proofs.{Output.{has_written_styled_append, has_written_styled_of_eq}, lemmas.Iterator.{YieldsList-from_chars, YieldsList-from_take}}
use Rattle.std.proofs.lemmas.{Iterator.{Adapters.YieldsList-from_skip, Consumers.YieldsList-end}, List.map-id}
use Rattle.std.specs.Str.{chars, encode_utf8_all}
use Rattle.ixdtf_explanations.specs.LocatedTexts.{shown}
use Rattle.ixdtf_explanations.proofs.code.Pointed.{one_more}

pub loop-character-preserved : goal.loop-character-preserved
loop-character-preserved g c = λ flush.
    let so_far = c.loop-character.invariant flush in
    has_written_styled_of_eq _ _ _ _ _ (one_more c.loop-character.yielded c.in-Some.character)
    (has_written_styled_append _ _ _ _ _ _ so_far (c.in_ok-write_character.ensures so_far.flush (refl {a = true})))

pub returns : goal.returns
returns g c = λ flush ok.
    let all = YieldsList-from_skip c.args.first (YieldsList-from_take c.args.end (YieldsList-from_chars c.args.text.now c.utf8.text cc) cc) cc in
    let t = YieldsList-end all c.loop-character.yielded _ c.loop-character.yielded_by _ _ c.in-None.is c.next.ensures.steps in
    let listed : c.loop-character.yielded ≡ drop c.args.first (take c.args.end (chars c.args.text.now)) = sym (map-id c.loop-character.yielded) ∙ t.0 in
    has_written_styled_of_eq _ _ _ _ _ (ap (λ l. encode_utf8_all (map shown l)) listed) (c.loop-character.invariant flush)
