use Rattle.ixdtf_print.proofs.fields.put_year.Goals as goal
use Rattle.std.proofs.{Common.{pos, arith}, lemmas.Int.ints}
use Rattle.std.specs.Prelude.{◌≤ℤ◌, ◌<ℤ◌}
use Rattle.ixdtf_print.proofs.{code.YearSigns.{negative_year, far_year}, code.PutBytes.{puts_then, room_then}}

-- ---- before year 0

pub put_digits-requires : goal.put_digits-requires
put_digits-requires c =
    let sign : c.args.date.year <ℤ pos 0 = omega (arith, ints) in
    room_then c.put_byte-digits.ensures (rw (negative_year _ _ c.distance_of-distance.ensures sign) at c.requires)

pub returns-then-date-lt0 : goal.returns-then-date-lt0
returns-then-date-lt0 c =
    let sign : c.args.date.year <ℤ pos 0 = omega (arith, ints) in
    let is = negative_year _ _ c.distance_of-distance.ensures sign in
    rw is (puts_then (rw is at c.requires) c.put_byte-digits.ensures c.put_digits.ensures)

-- ---- after year 9999

pub put_digits-requires-2 : goal.put_digits-requires-2
put_digits-requires-2 c =
    let sign : pos 0 ≤ℤ c.args.date.year = omega (arith, ints) in
    room_then c.put_byte-digits-2.ensures (rw (far_year _ _ c.distance_of-distance.ensures sign c.if-distance-le9999.false) at c.requires)

pub returns : goal.returns
returns c =
    let sign : pos 0 ≤ℤ c.args.date.year = omega (arith, ints) in
    let is = far_year _ _ c.distance_of-distance.ensures sign c.if-distance-le9999.false in
    rw is (puts_then (rw is at c.requires) c.put_byte-digits-2.ensures c.put_digits-2.ensures)
