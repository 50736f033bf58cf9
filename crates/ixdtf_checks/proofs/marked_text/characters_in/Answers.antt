-- One iteration of the loop reads one byte.
use Rattle.ixdtf_checks.proofs.marked_text.characters_in.Goals as goal
use Rattle.std.proofs.{Common.{◌≡◌, take, get_or, arith}, lemmas.List.length-take-le}
use Rattle.ixdtf_checks.specs.Pointed.{begun}
use Rattle.ixdtf_checks.proofs.CharactersLemmas.{begun_counted, begun_most, starts_few, starts_more}

pub overflow_add-count : goal.overflow_add-count
overflow_add-count c =
    let bs = c.args.bytes.now in
    let i = c.loop-byte.byte-index in
    let byte = get_or bs i 0 in
    let one : c.from-count.result ≡ begun byte = begun_counted byte _ c.begins_character.result c.begins_character.ensures c.from-count.ensures in
    omega (arith, c.loop-byte.invariant, starts_few (take i bs), length-take-le i bs (omega arith), one, begun_most byte)

pub loop-byte-preserved : goal.loop-byte-preserved
loop-byte-preserved c =
    let bs = c.args.bytes.now in
    let byte = get_or bs c.loop-byte.byte-index 0 in
    let one : c.from-count.result ≡ begun byte = begun_counted byte _ c.begins_character.result c.begins_character.ensures c.from-count.ensures in
    omega (arith, c.loop-byte.invariant, one, starts_more bs c.loop-byte.byte-index c.loop-byte-test.true)
