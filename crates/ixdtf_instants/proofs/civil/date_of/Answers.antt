use Rattle.std.proofs.Common.{arith, ℕ, ◌+◌, ◌-◌, ◌*◌, ◌/◌, ◌≤◌, ℤ, pos, ◌+ℤ◌, ◌-ℤ◌, to_z, of_z, w64}
use Rattle.ixdtf_instants.specs.Calendar.{month_length}
use Rattle.ixdtf_instants.proofs.SignedLemmas.{signed_casts}
use Rattle.ixdtf_instants.proofs.CivilLemmas.{number-late, number-early, in_month-early}
use Rattle.ixdtf_instants.proofs.civil.date_of.Goals as goal

pub returns-then-month-lt10-clause-number : goal.returns-then-month-lt10-clause-number
returns-then-month-lt10-clause-number c =
    number-late _ _ _ c.args.days c.march_year_of-year.result 1_000_000_000 (omega (arith, signed_casts, c.march_year_of-year.ensures.bound)) (omega arith) (omega (arith, c.if-month-lt10.true))
    (omega (arith, signed_casts, c.days_from_first-count.ensures, c.march_year_of-year.ensures, c.days_before.ensures, c.march_month_of-month.ensures))

pub returns-else-month-lt10-clause-date : goal.returns-else-month-lt10-clause-date
returns-else-month-lt10-clause-date c =
    let year : ℤ = to_z w64 (of_z w64 (to_z w64 (of_z w64 (to_z w64 c.march_year_of-year.result -ℤ pos 400_000_000_000)) +ℤ pos 1)) in
    let month : ℕ = c.march_month_of-month.result - 9 in
    let day : ℕ = c.days_from_first-count.result - c.days_before.result - (153 * c.march_month_of-month.result + 2) / 5 + 1 in
    let in_month : day ≤ month_length year month = in_month-early year month day c.march_year_of-year.result 1_000_000_000 c.days_from_first-count.result (omega (arith, signed_casts, c.march_year_of-year.ensures.bound)) (omega (arith, c.if-month-lt10.false)) (omega (arith, c.march_month_of-month.ensures))
    (omega (arith, c.march_year_of-year.ensures, c.days_before.ensures, c.march_month_of-month.ensures))
    (omega (arith, c.march_year_of-year.ensures.next))
    (omega (arith, c.march_year_of-year.ensures, c.days_before.ensures, c.march_month_of-month.ensures)) in
    (omega (arith, c.if-month-lt10.false), omega (arith, c.march_month_of-month.ensures), omega arith, in_month)

pub returns-else-month-lt10-clause-number : goal.returns-else-month-lt10-clause-number
returns-else-month-lt10-clause-number c =
    number-early _ _ _ c.args.days c.march_year_of-year.result 1_000_000_000 (omega (arith, signed_casts, c.march_year_of-year.ensures.bound)) (omega (arith, c.if-month-lt10.false)) (omega (arith, c.march_month_of-month.ensures))
    (omega (arith, signed_casts, c.days_from_first-count.ensures, c.march_year_of-year.ensures, c.days_before.ensures, c.march_month_of-month.ensures))
