use Rattle.ixdtf_times.proofs.months.parse_month_day_at.Goals as goal
use Rattle.std.proofs.{Common.{◌≡◌, ◌+◌, map, drop, Some, true, sym, refl}, lemmas.List.drop-map}
use Rattle.ixdtf_grammar.specs.language.Letters.{hyphen}
use Rattle.ixdtf_reading.specs.reading.FixedPlaces.{byte_place, number_place, unmarked_at}
use Rattle.ixdtf_times.proofs.code.FixedMonths.{month_goes_on, month_stops, hyphened_day_is_read, basic_day_is_read, day_tested, yields_on}
use Rattle.ixdtf_reading.specs.reading.{Looks.error_of, Months.lone_day_at}
use Rattle.ixdtf_times.proofs.months.parse_month_day_at.Goals.{then-is_hyphen+in_default-fixed_day, else-is_hyphen+in_default-fixed_day-2}

pub returns-in_default-clause-date : goal.returns-in_default-clause-date
returns-in_default-clause-date g c =
    let letter = g.T.EncodingType.letter in
    let units = c.args.cursor.now.rest in
    let start = c.args.start in
    yields_on letter c.advance_by.new.self c.parse_unmarked.new.cursor c.parse_unmarked.result (unmarked_at c.args.first c.args.profile) _
    (rw (c.advance_by.ensures.rest, c.fixed_number.ensures.rest, drop-map letter start units) refl) c.parse_unmarked.ensures.date

pub returns-in-Err-clause-date : goal.returns-in-Err-clause-date
returns-in-Err-clause-date g c =
    let letter = g.T.EncodingType.letter in
    let units = c.args.cursor.now.rest in
    let start = c.args.start in
    let stops = month_stops c.args.first c.args.profile (map letter units) start c.in-Some.month (sym c.in-Some.ensures.there) c.in-Err.ensures.1 in
    rw (stops, c.in-Err.ensures.0, c.advance_by-in-Err.ensures.rest, c.fixed_number.ensures.rest, drop-map letter (start + 2) units) refl

pub returns-in-Some-fixed_day-clause-date : goal.returns-in-Some-fixed_day-clause-date
returns-in-Some-fixed_day-clause-date g c =
    let letter = g.T.EncodingType.letter in
    let units = c.args.cursor.now.rest in
    let text = map letter units in
    let start = c.args.start in
    let profile = c.args.profile in
    let month = c.in-Some.month in
    let mark : hyphen (byte_place (start + 2) text) ≡ true = cc (c.byte_at.ensures.there, c.fixed_number.ensures.rest) in
    let day : number_place (start + 3) text ≡ Some c.in-Some-fixed_day.day = cc (c.in-Some-fixed_day.ensures.there, c.byte_at.ensures.rest, c.fixed_number.ensures.rest) in
    let left : map letter c.advance_by-in-Some-fixed_day.new.self.rest ≡ drop (start + 5) text =
    rw (c.advance_by-in-Some-fixed_day.ensures.rest, c.fixed_day.ensures.rest, c.byte_at.ensures.rest, c.fixed_number.ensures.rest, drop-map letter (start + 5) units) refl in
    rw (
      month_goes_on c.args.first profile text start month (sym c.in-Some.ensures.there) c.in_default-check_month.ensures.1,
      hyphened_day_is_read c.args.first profile text start month c.in-Some-fixed_day.day mark day,
      ← left,
    ) (day_tested profile month c.in-Some-fixed_day.day _ c.check_month_day.result c.check_month_day.ensures)

pub returns-in-Some-fixed_day-2-clause-date : goal.returns-in-Some-fixed_day-2-clause-date
returns-in-Some-fixed_day-2-clause-date g c =
    let letter = g.T.EncodingType.letter in
    let units = c.args.cursor.now.rest in
    let text = map letter units in
    let start = c.args.start in
    let profile = c.args.profile in
    let month = c.in-Some.month in
    let found = c.in-Some-fixed_day-2.day in
    let day : number_place (start + 2) text ≡ Some found = cc (c.in-Some-fixed_day-2.ensures.there, c.byte_at.ensures.rest, c.fixed_number.ensures.rest) in
    let left : map letter c.advance_by-in-Some-fixed_day-2.new.self.rest ≡ drop (start + 4) text =
    rw (c.advance_by-in-Some-fixed_day-2.ensures.rest, c.fixed_day-else-is_hyphen.ensures.rest, c.byte_at.ensures.rest, c.fixed_number.ensures.rest, drop-map letter (start + 4) units) refl in
    rw (
      month_goes_on c.args.first profile text start month (sym c.in-Some.ensures.there) c.in_default-check_month.ensures.1,
      basic_day_is_read c.args.first profile text start month found day,
      ← left,
    ) (day_tested profile month found _ c.check_month_day-in-Some-fixed_day-2.result c.check_month_day-in-Some-fixed_day-2.ensures)

pub returns-clause-date : goal.returns-clause-date
returns-clause-date g c =
    let letter = g.T.EncodingType.letter in
    let units = c.args.cursor.now.rest in
    let start = c.args.start in
    let profile = c.args.profile in
    let month = c.in-Some.month in
    let same : c.if-is_hyphen.cursor.rest ≡ units = elim c.if-is_hyphen.branch [
      | then-is_hyphen+in_default-fixed_day w ↦ cc (w.cursor-is, w.fixed_day.ensures.rest, c.byte_at.ensures.rest, c.fixed_number.ensures.rest)
      | else-is_hyphen+in_default-fixed_day-2 w ↦ cc (w.cursor-is, w.fixed_day-else-is_hyphen.ensures.rest, c.byte_at.ensures.rest, c.fixed_number.ensures.rest)
    ] in
    let left : map letter c.advance_by-2.new.self.rest ≡ drop (start + 2) (map letter units) =
    rw (c.advance_by-2.ensures.rest, same, drop-map letter (start + 2) units) refl in
    yields_on letter c.advance_by-2.new.self c.parse_day_of_month.new.cursor c.parse_day_of_month.result (lone_day_at error_of profile month) _
    (rw left (month_goes_on c.args.first profile (map letter units) start month (sym c.in-Some.ensures.there) c.in_default-check_month.ensures.1)) c.parse_day_of_month.ensures.date
