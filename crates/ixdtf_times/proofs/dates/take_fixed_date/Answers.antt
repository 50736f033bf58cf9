use Rattle.ixdtf_times.proofs.dates.take_fixed_date.Goals as goal
use Rattle.std.proofs.{Common.{◌≡◌, pos, map, Some, true, sym}, lemmas.List.drop-map}
use Rattle.ixdtf_grammar.specs.language.Letters.{hyphen}
use Rattle.ixdtf_reading.specs.reading.{Dates.{date_at, days_at}, Looks.error_of, FixedPlaces.{byte_place, days_place, basic_days_place}}
use Rattle.ixdtf_reading.proofs.code.FixedPlaces.{hyphened_is_read, basic_is_read, reads_tested, reads_on, year_is_read}
use Rattle.ixdtf_times.proofs.dates.take_fixed_date.Goals.{then-is_hyphen+in_default, else-is_hyphen+in_default-fixed_basic_days}

pub returns-in-Some-clause-read : goal.returns-in-Some-clause-read
returns-in-Some-clause-read g c =
    let letter = g.T.EncodingType.letter in
    let units = c.args.cursor.now.rest in
    let mark : hyphen (byte_place 4 (map letter units)) ≡ true = cc (c.byte_at.ensures.there, c.fixed_year.ensures.rest) in
    let days : days_place c.in_ok-year.year (map letter units) ≡ Some c.in-Some.date =
    cc (c.in-Some.ensures.there, c.byte_at.ensures.rest, c.fixed_year.ensures.rest) in
    reads_tested letter (λ d. d) c.args.cursor.now c.take_date.new.cursor c.take_date.result (date_at error_of) _
    (hyphened_is_read (map letter units) _ _ (sym c.in_ok-year.ensures.there) mark days)
    (rw (c.fixed_days.ensures.rest, c.byte_at.ensures.rest, c.fixed_year.ensures.rest, ← drop-map letter 7 units, ← drop-map letter 10 units)
    at c.take_date.ensures.ranged)

pub returns-in-Some-fixed_basic_days-clause-read : goal.returns-in-Some-fixed_basic_days-clause-read
returns-in-Some-fixed_basic_days-clause-read g c =
    let letter = g.T.EncodingType.letter in
    let units = c.args.cursor.now.rest in
    let days : basic_days_place c.in_ok-year.year (map letter units) ≡ Some c.in-Some-fixed_basic_days.date =
    cc (c.in-Some-fixed_basic_days.ensures.there, c.byte_at.ensures.rest, c.fixed_year.ensures.rest) in
    reads_tested letter (λ d. d) c.args.cursor.now c.take_date-in-Some-fixed_basic_days.new.cursor c.take_date-in-Some-fixed_basic_days.result (date_at error_of) _
    (basic_is_read (map letter units) _ _ (sym c.in_ok-year.ensures.there) days)
    (rw (c.fixed_basic_days.ensures.rest, c.byte_at.ensures.rest, c.fixed_year.ensures.rest, ← drop-map letter 6 units, ← drop-map letter 8 units)
    at c.take_date-in-Some-fixed_basic_days.ensures.ranged)

pub returns-clause-read : goal.returns-clause-read
returns-clause-read g c =
    let letter = g.T.EncodingType.letter in
    let units = c.args.cursor.now.rest in
    let left : c.if-is_hyphen.cursor.rest ≡ units = elim c.if-is_hyphen.branch [
      | then-is_hyphen+in_default w ↦ cc (w.cursor-is, w.fixed_days.ensures.rest, c.byte_at.ensures.rest, c.fixed_year.ensures.rest)
      | else-is_hyphen+in_default-fixed_basic_days w ↦
          cc (w.cursor-is, w.fixed_basic_days.ensures.rest, c.byte_at.ensures.rest, c.fixed_year.ensures.rest)
    ] in
    reads_on letter (λ d. d) c.args.cursor.now c.advance_by.new.self c.parse_days.new.cursor c.parse_days.result (date_at error_of) (days_at error_of (pos c.in_ok-year.year))
    (rw (c.advance_by.ensures.rest, left, ← drop-map letter 4 units) (year_is_read (map letter units) _ (sym c.in_ok-year.ensures.there)))
    c.parse_days.ensures.date
