use Rattle.ixdtf_times.proofs.months.parse_year_month_date.Goals as goal
use Rattle.std.proofs.Common.{◌≡◌, map, subst}
use Rattle.std.specs.Prelude.{IfSome}
use Rattle.ixdtf_reading.specs.reading.{Looks.error_of, Months.year_month_at, FixedPlaces.ranged_month}
use Rattle.ixdtf_reading.proofs.code.FixedPlaces.{reads_tested}

pub returns-in-Some-clause-date : goal.returns-in-Some-clause-date
returns-in-Some-clause-date g c =
    let letter = g.T.EncodingType.letter in
    let old = c.args.cursor.now in
    let new = c.take_fixed_year_month.new.cursor in
    let read : year_month_at error_of (map letter old.rest) ≡ ranged_month c.in-Some.first (map letter new.rest) =
    subst (λ found. IfSome found (λ first. year_month_at error_of (map letter old.rest) ≡ ranged_month first (map letter new.rest))) c.in-Some.is
    c.take_fixed_year_month.ensures.read in
    reads_tested letter (λ d. d) old new c.check_year_month.result (year_month_at error_of) _ read (c.check_year_month.ensures (map letter new.rest))
