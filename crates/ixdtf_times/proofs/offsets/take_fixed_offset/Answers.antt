use Rattle.ixdtf_times.proofs.offsets.take_fixed_offset.Goals as goal
use Rattle.std.proofs.{Common.{◌≡◌, List, ℕ, map, length, true, sym, ap, ◌∙◌, arith, refl}, lemmas.Bool.Decides.nat_tests}
use Rattle.std.proofs.lemmas.List.{drop-map}
use Rattle.ixdtf_reading.specs.reading.{FixedPlaces.byte_place}
use Rattle.ixdtf_reading.proofs.code.FixedPlaces.{byte_is_mark}
use Rattle.ixdtf_grammar.specs.{language.Letters.opening}
use Rattle.ixdtf_times.proofs.code.FixedOffsets.{ends, goes_into_a_bracket}
use Rattle.ixdtf_times.proofs.code.FixedOffsets.{nothing_left}

pub returns-then-remaining-eq5-clause-read : goal.returns-then-remaining-eq5-clause-read
returns-then-remaining-eq5-clause-read g c date time =
    let size : length c.args.cursor.now.rest ≡ 5 = ap (λ (t : List ℕ). length t) (sym (c.fixed_minute.ensures.rest ∙ c.fixed_hour.ensures.rest)) ∙ grind (arith, nat_tests) in
    let none = nothing_left g.T.EncodingType.letter _ size in
    rw (c.sign_from.ensures, c.advance_by.ensures.rest, c.fixed_minute.ensures.rest, c.fixed_hour.ensures.rest, none.0) (ends c.args.sign _ _ _ (sym c.in_ok-hour.ensures.there) (sym (rw c.fixed_hour.ensures.rest at c.in_ok-minute.ensures.there)) date time none.1)

pub returns-clause-read : goal.returns-clause-read
returns-clause-read g c date time =
    let letter = g.T.EncodingType.letter in
    let units = c.args.cursor.now.rest in
    let mark : opening (byte_place 5 (map letter units)) ≡ true = cc (c.byte_at-next.ensures.there, c.fixed_minute.ensures.rest, c.fixed_hour.ensures.rest, c.if-not-is_annotation_open.ensures) in
    rw (c.sign_from.ensures, c.advance_by-2.ensures.rest, c.byte_at-next.ensures.rest, c.fixed_minute.ensures.rest, c.fixed_hour.ensures.rest, ← drop-map letter 6 units)
    (goes_into_a_bracket c.args.sign _ _ _ (sym c.in_ok-hour.ensures.there) (sym (rw c.fixed_hour.ensures.rest at c.in_ok-minute.ensures.there)) date time _ (byte_is_mark 91 5 (map letter units) refl mark))
