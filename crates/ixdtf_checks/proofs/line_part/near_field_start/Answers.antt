-- Proves that one more field is skipped.
use Rattle.ixdtf_checks.proofs.line_part.near_field_start.Goals as goal
use Rattle.std.proofs.{Common.{◌≡◌, ◌+◌, ◌-◌, length, take, drop, option_map, refl, ap, ◌∙◌, arith}, lemmas.List.{take_all, length-drop, drop-drop}}
use Rattle.ixdtf_checks.specs.Parts.{field_start}
use Rattle.ixdtf_checks.proofs.PartsLemmas.{field_start-some, option_map-more}

pub loop-left-preserved : goal.loop-left-preserved
loop-left-preserved c =
    let l = c.loop-left in
    let line = c.args.line.now in
    let separator = c.args.separator in
    let rest = drop l.start line in
    let place = c.in-Some.place in
    let all : take (length line - l.start) rest ≡ rest = take_all (length line - l.start) rest (omega (arith, length-drop l.start line)) in
    let next = field_start-some separator l.left place rest c.loop-left-test.true (rw all at c.in-Some.ensures.place) in
    record {
      found = l.invariant.found ∙ ap (λ o. option_map (λ more. l.start + more) o) next
          ∙ option_map-more l.start (place + 1) (l.start + (place + 1)) _ refl
          ∙ ap (λ t. option_map (λ more. l.start + (place + 1) + more) (field_start separator (l.left - 1) t)) (drop-drop (place + 1) l.start line);
      within = omega (arith, l.invariant.within, c.in-Some.ensures.within, length-drop l.start line, ap length all);
    }
