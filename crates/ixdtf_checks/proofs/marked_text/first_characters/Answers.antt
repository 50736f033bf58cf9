-- One iteration of the loop reads one byte of the first characters.
use Rattle.ixdtf_checks.proofs.marked_text.first_characters.Goals as goal
use Rattle.std.proofs.Common.{◌≡◌, take, get_or, subst, sym, arith}
use Rattle.std.proofs.lemmas.{List.{length-take-le, take_all}, Str.{IsUtf8-take, IsUtf8-drop}}
use Rattle.std.specs.Str.{IsUtf8}
use Rattle.ixdtf_checks.specs.Pointed.{begun}
use Rattle.ixdtf_checks.proofs.CharactersLemmas.{begun_counted, begun_most, boundary_counted, starts_chars, starts_few, starts_more}

pub loop-end-init : goal.loop-end-init
loop-end-init c =
    let front = take c.min-end.result c.args.bytes.now in
    let counted = c.characters_in-count.ensures in
    (omega arith, omega (arith, counted, starts_few front, length-take-le c.min-end.result c.args.bytes.now (omega arith)), sym counted)

pub loop-end-preserved : goal.loop-end-preserved
loop-end-preserved c =
    let bs = c.args.bytes.now in
    let byte = get_or bs c.loop-end.end 0 in
    let one : c.from-count.result ≡ begun byte = begun_counted byte _ c.begins_character.result c.begins_character.ensures c.from-count.ensures in
    let (within, few, counted) = c.loop-end.invariant in
    (omega arith, omega arith, omega (arith, one, counted, starts_more bs c.loop-end.end (omega arith)))

pub returns-then-count-gt-FROM_PLACE-clause-front : goal.returns-then-count-gt-FROM_PLACE-clause-front
returns-then-count-gt-FROM_PLACE-clause-front c =
    IsUtf8-take c.args.bytes.now c.loop-end.end c.requires (boundary_counted c.args.bytes.now c.loop-end.end _ _ (omega arith) c.begins_character.ensures c.from-count.ensures (omega arith))

pub returns-then-count-gt-FROM_PLACE-clause-rest : goal.returns-then-count-gt-FROM_PLACE-clause-rest
returns-then-count-gt-FROM_PLACE-clause-rest c =
    IsUtf8-drop c.args.bytes.now c.loop-end.end c.requires (boundary_counted c.args.bytes.now c.loop-end.end _ _ (omega arith) c.begins_character.ensures c.from-count.ensures (omega arith))

pub returns-then-count-gt-FROM_PLACE-clause-few : goal.returns-then-count-gt-FROM_PLACE-clause-few
returns-then-count-gt-FROM_PLACE-clause-few c =
    let front = take c.loop-end.end c.args.bytes.now in
    omega (arith, c.loop-end.invariant, starts_chars front (returns-then-count-gt-FROM_PLACE-clause-front c))

pub returns-then-count-gt-FROM_PLACE-clause-cut : goal.returns-then-count-gt-FROM_PLACE-clause-cut
returns-then-count-gt-FROM_PLACE-clause-cut c = λ more.
    let bs = c.args.bytes.now in
    let byte = get_or bs c.loop-end.end 0 in
    let one : c.from-count.result ≡ begun byte = begun_counted byte _ c.begins_character.result c.begins_character.ensures c.from-count.ensures in
    omega (arith, c.loop-end.invariant, one, begun_most byte, starts_chars (take c.loop-end.end bs) (returns-then-count-gt-FROM_PLACE-clause-front c))

pub returns-clause-few : goal.returns-clause-few
returns-clause-few c =
    let bs = c.args.bytes.now in
    let all = take_all c.loop-end.end bs (omega arith) in
    omega (arith, c.loop-end.invariant, starts_chars (take c.loop-end.end bs) (subst IsUtf8 (sym all) c.requires))
