use Rattle.ixdtf_times.proofs.months.parse_month_day_date.Goals as goal
use Rattle.std.proofs.{Common.{◌≡◌, map, length, ◌≤◌, true, false, arith}, lemmas.{Bool.and_from, List.length-map}}
use Rattle.ixdtf_grammar.specs.language.Letters.{hyphen}
use Rattle.ixdtf_reading.specs.reading.{Looks.error_of, Months.month_day_at, FixedPlaces.byte_place}
use Rattle.ixdtf_reading.proofs.code.FixedPlaces.{reads_tested}
use Rattle.ixdtf_times.proofs.code.FixedMonths.{marked_is_read, unmarked_is_read}

pub returns-then-not-is_hyphen-clause-date : goal.returns-then-not-is_hyphen-clause-date
returns-then-not-is_hyphen-clause-date g c =
    let letter = g.T.EncodingType.letter in
    let units = c.args.cursor.now.rest in
    let profile = c.args.profile in
    let first : hyphen (byte_place 0 (map letter units)) ≡ false = cc (c.byte_at.ensures.there, c.is_hyphen.ensures) in
    let some : 1 ≤ length (map letter units) = omega (arith, c.remaining.ensures, length-map units letter) in
    reads_tested letter (λ d. d) c.args.cursor.now c.parse_month_day_at.new.cursor c.parse_month_day_at.result (month_day_at error_of profile) _
    (unmarked_is_read profile (map letter units) first some) (rw c.byte_at.ensures.rest at c.parse_month_day_at.ensures.date)

pub returns-then-is_hyphen-clause-date : goal.returns-then-is_hyphen-clause-date
returns-then-is_hyphen-clause-date g c =
    let letter = g.T.EncodingType.letter in
    let text = map letter c.args.cursor.now.rest in
    let profile = c.args.profile in
    let first : hyphen (byte_place 0 text) ≡ true = cc (c.byte_at.ensures.there, c.if-not-is_hyphen.false) in
    let second : hyphen (byte_place 1 text) ≡ true = cc (c.byte_at-2.ensures.there, c.byte_at.ensures.rest, c.is_hyphen-2.ensures) in
    reads_tested letter (λ d. d) c.args.cursor.now c.parse_month_day_at-then-is_hyphen.new.cursor c.parse_month_day_at-then-is_hyphen.result
    (month_day_at error_of profile) _ (marked_is_read profile text (and_from _ _ first second))
    (rw (c.byte_at-2.ensures.rest, c.byte_at.ensures.rest) at c.parse_month_day_at-then-is_hyphen.ensures.date)
