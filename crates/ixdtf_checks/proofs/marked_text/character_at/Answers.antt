-- The loop goes back to the first byte of a character.
use Rattle.ixdtf_checks.proofs.marked_text.character_at.Goals as goal
use Rattle.std.proofs.Common.{◌≡◌, ◌+◌, ◌-◌, get_or, length, rules, sym, ap, ◌∙◌, arith}
use Rattle.std.proofs.lemmas.{List.take_all, Str.{IsUtf8-take, IsUtf8-drop, IsCharBoundary-start}}
use Rattle.std.specs.Str.{chars}
use Rattle.ixdtf_checks.proofs.CharactersLemmas.{begun_false, column_at, column_beyond, lead_true, starts_more}

pub returns-then-place-bytes-clause-column : goal.returns-then-place-bytes-clause-column
returns-then-place-bytes-clause-column c =
    let bs = c.args.bytes.now in
    column_beyond bs c.args.place c.requires c.if-place-bytes.true ∙ sym (ap (λ t. length (chars t)) (take_all (length bs) bs (omega arith)))

pub loop-start-preserved : goal.loop-start-preserved
loop-start-preserved c =
    let bs = c.args.bytes.now in
    let s = c.loop-start.start in
    let back : s - 1 + 1 ≡ s = omega arith in
    let more = starts_more bs s (omega arith) in
    let none = begun_false (get_or bs s 0) (search rules) in
    (omega arith, rw back (omega (arith, more, none, c.loop-start.invariant.1)))

pub returns-else-not-begins_character-clause-front : goal.returns-else-not-begins_character-clause-front
returns-else-not-begins_character-clause-front c =
    IsUtf8-take c.args.bytes.now c.loop-start.start c.requires (omega arith, λ _. lead_true (get_or c.args.bytes.now c.loop-start.start 0) (search rules))

pub returns-else-not-begins_character-clause-rest : goal.returns-else-not-begins_character-clause-rest
returns-else-not-begins_character-clause-rest c =
    IsUtf8-drop c.args.bytes.now c.loop-start.start c.requires (omega arith, λ _. lead_true (get_or c.args.bytes.now c.loop-start.start 0) (search rules))

pub returns-else-not-begins_character-clause-column : goal.returns-else-not-begins_character-clause-column
returns-else-not-begins_character-clause-column c =
    column_at c.args.bytes.now c.args.place c.loop-start.start c.requires (omega arith) c.loop-start.invariant.0 c.loop-start.invariant.1
    (lead_true (get_or c.args.bytes.now c.loop-start.start 0) (search rules))

pub returns-after-loop-start-clause-column : goal.returns-after-loop-start-clause-column
returns-after-loop-start-clause-column c =
    let first : c.loop-start.start ≡ 0 = omega arith in
    let bs = c.args.bytes.now in
    column_at bs c.args.place c.loop-start.start c.requires (omega arith) c.loop-start.invariant.0 c.loop-start.invariant.1
    (rw first (λ big. (IsCharBoundary-start bs c.requires).1 (omega arith) big))
