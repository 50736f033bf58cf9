-- The loop goes back over the last characters.
use Rattle.ixdtf_checks.proofs.marked_text.last_characters.Goals as goal
use Rattle.std.proofs.Common.{◌≡◌, ◌+◌, ◌-◌, ◌∙◌, take, drop, get_or, length, sym, ap, arith, length-drop}
use Rattle.std.proofs.lemmas.{List.{get_or-drop, take_all}, Str.{IsUtf8-take, IsUtf8-drop}}
use Rattle.std.specs.Str.{chars}
use Rattle.ixdtf_checks.specs.Pointed.{starts, begun}
use Rattle.ixdtf_checks.proofs.CharactersLemmas.{begun_counted, begun_full, begun_most, lead_begun, starts_before, starts_chars, starts_few}

pub loop-start-init : goal.loop-start-init
loop-start-init c =
    let bs = c.args.bytes.now in
    let s = c.saturating_sub-start.result in
    let long = length-drop s bs in
    let all : take (length bs - s) (drop s bs) ≡ drop s bs = take_all (length bs - s) (drop s bs) (omega (arith, long)) in
    let counted : starts (drop s bs) ≡ c.characters_in-count.result = sym (c.characters_in-count.ensures ∙ ap starts all) in
    let here : get_or (drop s bs) 0 0 ≡ get_or bs s 0 = get_or-drop s bs 0 0 ∙ ap (λ n. get_or bs n 0) (omega arith) in (
      omega arith,
      omega (arith, counted, starts_few (drop s bs), long),
      counted,
      λ full. (omega arith, λ some. lead_begun (get_or bs s 0) (ap begun (sym here) ∙ begun_full (drop s bs) (omega (arith, full, counted, long)) (omega (arith, some, long)))),
    )

pub loop-start-preserved : goal.loop-start-preserved
loop-start-preserved c =
    let bs = c.args.bytes.now in
    let last = c.loop-start.start - 1 in
    let byte = get_or bs last 0 in
    let back : last + 1 ≡ c.loop-start.start = omega arith in
    let one : c.from-count.result ≡ begun byte = begun_counted byte _ c.begins_character.result c.begins_character.ensures c.from-count.ensures in
    let (within, few, counted, whole) = c.loop-start.invariant in
    let more : starts (drop last bs) ≡ begun byte + starts (drop c.loop-start.start bs) =
    starts_before bs last (omega arith) ∙ ap (λ n. begun byte + starts (drop n bs)) back in (
      omega arith,
      omega (arith, one, begun_most byte),
      omega (arith, more, counted, one),
      λ full. (omega arith, λ _. lead_begun byte (omega (arith, one, full, begun_most byte))),
    )

pub returns-else-count-lt-BEFORE_PLACE-clause-front : goal.returns-else-count-lt-BEFORE_PLACE-clause-front
returns-else-count-lt-BEFORE_PLACE-clause-front c =
    let (within, few, counted, whole) = c.loop-start.invariant in
    IsUtf8-take c.args.bytes.now c.loop-start.start c.requires (whole (omega arith))

pub returns-else-count-lt-BEFORE_PLACE-clause-rest : goal.returns-else-count-lt-BEFORE_PLACE-clause-rest
returns-else-count-lt-BEFORE_PLACE-clause-rest c =
    let (within, few, counted, whole) = c.loop-start.invariant in
    IsUtf8-drop c.args.bytes.now c.loop-start.start c.requires (whole (omega arith))

pub returns-else-count-lt-BEFORE_PLACE-clause-count : goal.returns-else-count-lt-BEFORE_PLACE-clause-count
returns-else-count-lt-BEFORE_PLACE-clause-count c =
    let (within, few, counted, whole) = c.loop-start.invariant in
    let bs = c.args.bytes.now in
    let s = c.loop-start.start in
    starts_chars (drop s bs) (IsUtf8-drop bs s c.requires (whole (omega arith))) ∙ counted

pub returns-after-loop-start-clause-count : goal.returns-after-loop-start-clause-count
returns-after-loop-start-clause-count c =
    let (within, few, counted, whole) = c.loop-start.invariant in
    let bs = c.args.bytes.now in
    let first : c.loop-start.start ≡ 0 = omega arith in
    let all : length (chars bs) ≡ c.loop-start.count = starts_chars bs c.requires ∙ (rw first at counted) in
    rw first all
