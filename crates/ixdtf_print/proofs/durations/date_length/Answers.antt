use Rattle.ixdtf_print.proofs.durations.date_length.Goals as goal
use Rattle.std.proofs.Common.{sym, ◌∙◌, arith}
use Rattle.ixdtf_print.proofs.parts.DerivedDurations.{some_units_long}

pub returns-clause-length : goal.returns-clause-length
returns-clause-length c =
    let some = sym c.is_zero.ensures ∙ c.if-is_zero.false in
    let years = rw c.from.ensures at c.unit_length.ensures.length in
    let months = rw c.from-2.ensures at c.unit_length-2.ensures.length in
    let weeks = rw c.from-3.ensures at c.unit_length-3.ensures.length in
    rw c.in-Some.is (omega (arith, some_units_long c.in-Some.date some, years, months, weeks, c.unit_length-4.ensures.length))
