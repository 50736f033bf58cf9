use Rattle.ixdtf_c.proofs.report_marks.add_characters.Goals as goal
use Rattle.std.proofs.Common.{◌≡◌, map, take, drop, sym, ap, ◌∙◌}
use Rattle.std.proofs.lemmas.{Iterator.{YieldsList-from_chars, YieldsList-from_take, Adapters.YieldsList-from_skip, Consumers.YieldsList-end}, List.map-id}
use Rattle.std.specs.Str.{chars, encode_utf8_all}
use Rattle.ixdtf_explanations.specs.LocatedTexts.{shown}
use Rattle.ixdtf_explanations.proofs.code.Pointed.{one_more}
use Rattle.ixdtf_c.proofs.Added.{adds_as, adds_then}

pub loop-character-preserved : goal.loop-character-preserved
loop-character-preserved c = adds_as (one_more c.loop-character.yielded c.in-Some.character) (adds_then c.loop-character.invariant c.add_character-end.ensures)

pub returns : goal.returns
returns c =
    let all = YieldsList-from_skip c.args.first (YieldsList-from_take c.args.last (YieldsList-from_chars c.args.text.now c.utf8.text cc) cc) cc in
    let t = YieldsList-end all c.loop-character.yielded _ c.loop-character.yielded_by _ _ c.in-None.is c.next.ensures.steps in
    let listed : c.loop-character.yielded ≡ drop c.args.first (take c.args.last (chars c.args.text.now)) = sym (map-id c.loop-character.yielded) ∙ t.0 in
    adds_as (ap (λ l. encode_utf8_all (map shown l)) listed) c.loop-character.invariant
