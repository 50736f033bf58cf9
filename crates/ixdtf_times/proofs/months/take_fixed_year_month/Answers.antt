use Rattle.ixdtf_times.proofs.months.take_fixed_year_month.Goals as goal
use Rattle.std.proofs.{Common.{◌≡◌, map, Some, true, sym}, lemmas.List.drop-map}
use Rattle.ixdtf_grammar.specs.language.Letters.{hyphen}
use Rattle.ixdtf_reading.specs.reading.FixedPlaces.{byte_place, month_of_year_place}
use Rattle.ixdtf_times.proofs.code.FixedMonths.{hyphened_month_is_read, basic_month_is_read}

pub returns-then-is_hyphen-clause-read : goal.returns-then-is_hyphen-clause-read
returns-then-is_hyphen-clause-read g c =
    let letter = g.T.EncodingType.letter in
    let units = c.args.cursor.now.rest in
    let mark : hyphen (byte_place 4 (map letter units)) ≡ true = cc (c.byte_at.ensures.there, c.fixed_year.ensures.rest) in
    let month : month_of_year_place c.in_ok-year.year 5 (map letter units) ≡ Some c.in_ok-first.first =
    cc (c.in_ok-first.ensures.there, c.byte_at.ensures.rest, c.fixed_year.ensures.rest) in
    rw (c.advance_by.ensures.rest, c.fixed_month_of.ensures.rest, c.byte_at.ensures.rest, c.fixed_year.ensures.rest, ← drop-map letter 7 units)
    (hyphened_month_is_read (map letter units) _ _ (sym c.in_ok-year.ensures.there) mark month)

pub returns-clause-read : goal.returns-clause-read
returns-clause-read g c =
    let letter = g.T.EncodingType.letter in
    let units = c.args.cursor.now.rest in
    let month : month_of_year_place c.in_ok-year.year 4 (map letter units) ≡ Some c.in_ok-first-2.first =
    cc (c.in_ok-first-2.ensures.there, c.byte_at.ensures.rest, c.fixed_year.ensures.rest) in
    rw (c.advance_by-2.ensures.rest, c.fixed_month_of-2.ensures.rest, c.byte_at.ensures.rest, c.fixed_year.ensures.rest, ← drop-map letter 6 units)
    (basic_month_is_read (map letter units) _ _ (sym c.in_ok-year.ensures.there) month)
