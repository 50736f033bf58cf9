use Rattle.ixdtf_times.proofs.date_times.take_fixed_date_time.Goals as goal
use Rattle.std.proofs.{Common.{◌≡◌, map, None, sym}, lemmas.List.drop-map}
use Rattle.ixdtf_reading.specs.reading.FixedPlaces.{date_time_place}
use Rattle.ixdtf_reading.proofs.code.FixedPlaces.{date_time_at_place, date_time_stands}

pub returns-in_err-found-clause-none : goal.returns-in_err-found-clause-none
returns-in_err-found-clause-none g c = λ none date time rest fits.
    let text = map g.T.EncodingType.letter c.args.cursor.now.rest in
    let nothing : date_time_place text ≡ None = sym c.in_err-found.ensures.there in
    let stands = date_time_stands text date time rest fits in
    absurd (cc (nothing, stands))

pub returns-clause-at_place : goal.returns-clause-at_place
returns-clause-at_place g c =
    let letter = g.T.EncodingType.letter in
    let units = c.args.cursor.now.rest in
    rw (c.advance_by.ensures.rest, c.fixed_date_time.ensures.rest, ← drop-map letter 19 units)
    (date_time_at_place (map letter units) _ (sym c.in_ok-found.ensures.there))
