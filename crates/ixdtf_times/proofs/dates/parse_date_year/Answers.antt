use Rattle.ixdtf_times.proofs.dates.parse_date_year.Goals as goal
use Rattle.std.proofs.Common.{rules, ◌≡◌, map, drop, length, Ok, Some, arith}
use Rattle.ixdtf_grammar.specs.declared.reason.Reason.TheVariants as reasons
use Rattle.ixdtf_reading.specs.reading.Looks.{seen}
use Rattle.ixdtf_reading.proofs.code.Units.{stepped}

-- The sign was read and consumed, so its access needs no addition to the limit.
pub returns-in-Some-2-clause-looks : goal.returns-in-Some-2-clause-looks
returns-in-Some-2-clause-looks g c =
    let old = c.args.cursor.now.rest in
    let seen : seen reasons.YearStart (map g.T.EncodingType.letter old) ≡ Ok (Some c.in-Some.byte) = search rules in
    let paid = stepped _ g.T.EncodingType.letter old c.in-Some.byte seen in
    let left : length c.advance-in-Some-2.new.self.rest ≡ length (drop 1 old) = search rules in
    omega (arith, paid, left, c.parse_extended_year.ensures.looks, c.advance-in-Some-2.ensures.looks, c.look.ensures.looks)
