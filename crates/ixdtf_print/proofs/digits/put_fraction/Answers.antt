use Rattle.ixdtf_print.proofs.digits.put_fraction.Goals as goal
use Rattle.std.proofs.Common.{min, ◌-◌, ◌≤◌, ap, ◌∙◌, arith}
use Rattle.ixdtf_print.proofs.{parts.PaddedDigits.{fraction_is, few_digits_are}, code.PutBytes.{puts_then, room_first, room_then}}

pub put_digits-zeros-requires : goal.put_digits-zeros-requires
put_digits-zeros-requires c =
    let room = rw (c.in-Some.is, fraction_is c.in-Some.fraction) at c.requires in
    let count = c.from-count.ensures ∙ c.digit_count.ensures.count in
    let places = c.min.ensures ∙ ap (λ n. min n 18) count in
    rw (places, c.leading_value.ensures.value) (room_first _ (room_then c.put_byte-value.ensures room))

pub put_digits-requires : goal.put_digits-requires
put_digits-requires c =
    let room = rw (c.in-Some.is, fraction_is c.in-Some.fraction) at c.requires in
    let count = c.from-count.ensures ∙ c.digit_count.ensures.count in
    let places = c.min.ensures ∙ ap (λ n. min n 18) count in
    let more = ap (λ n. n - 18) count in
    let value = rw (places, c.leading_value.ensures.value) at c.put_digits-zeros.ensures in
    rw more (room_then value (room_then c.put_byte-value.ensures room))

pub returns : goal.returns
returns c =
    let room = rw (c.in-Some.is, fraction_is c.in-Some.fraction) at c.requires in
    let count = c.from-count.ensures ∙ c.digit_count.ensures.count in
    let places = c.min.ensures ∙ ap (λ n. min n 18) count in
    let more = ap (λ n. n - 18) count in
    let value = rw (places, c.leading_value.ensures.value) at c.put_digits-zeros.ensures in
    let zeros = rw more at c.put_digits.ensures in
    rw (c.in-Some.is, fraction_is c.in-Some.fraction) (puts_then room c.put_byte-value.ensures
    (puts_then (room_then c.put_byte-value.ensures room) value zeros))

pub returns-then-count-le18 : goal.returns-then-count-le18
returns-then-count-le18 c =
    let count = c.from-count.ensures ∙ c.digit_count.ensures.count in
    let places = c.min.ensures ∙ ap (λ n. min n 18) count in
    let few : c.in-Some.fraction.count ≤ 18 = omega (arith, count, c.if-count-le18.true) in
    let is = few_digits_are c.in-Some.fraction few in
    let room = rw (c.in-Some.is, is) at c.requires in
    let value = rw (places, c.leading_value.ensures.value) at c.put_digits-zeros.ensures in
    rw (c.in-Some.is, is) (puts_then room c.put_byte-value.ensures value)
