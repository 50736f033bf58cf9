use Rattle.ixdtf_print.proofs.digits.put_digits.Goals as goal
use Rattle.std.proofs.Common.{◌≡◌, ◌+◌, ◌-◌, ◌/◌, ◌%◌, refl, arith}
use Rattle.ixdtf_print.proofs.code.DigitLoop.{inside_room, next_pair, first_digit, all_digits}

pub set_byte-requires : goal.set_byte-requires
set_byte-requires c =
    let inside = inside_room c.requires c.loop-place.invariant in
    omega (arith, inside.0, inside.1, c.loop-place-test.true)

pub set_byte-requires-in-loop-place : goal.set_byte-requires-in-loop-place
set_byte-requires-in-loop-place c =
    let inside = inside_room c.requires c.loop-place.invariant in
    omega (arith, inside.0, inside.1, c.loop-place-test.true, c.set_byte.auto.out)

pub loop-place-preserved : goal.loop-place-preserved
loop-place-preserved c =
    let both = next_pair (c.loop-place.left % 100) (c.loop-place.place - 2) (c.loop-place.left / 100) c.tens_digit.result c.ones_digit.result c.requires
    c.loop-place-test.true refl c.tens_digit.ensures c.ones_digit.ensures refl refl c.loop-place.invariant in
    let same : c.loop-place.place - 2 + 1 ≡ c.loop-place.place - 1 = omega arith in
    rw (c.set_byte-in-loop-place.ensures, c.set_byte.ensures, same) both

pub returns : goal.returns
returns c = rw c.set_byte-2.ensures (first_digit c.requires (omega (arith, c.loop-place.invariant.begun)) c.loop-place.invariant)

pub returns-then-place-at : goal.returns-then-place-at
returns-then-place-at c = all_digits (omega arith) c.loop-place.invariant
