use Rattle.ixdtf_times.proofs.offsets.take_last_offset.Goals as goal
use Rattle.std.proofs.{Common.{◌≡◌, List, ℕ, length, sym, ap, ◌∙◌, arith}, lemmas.Bool.Decides.nat_tests}
use Rattle.ixdtf_times.proofs.code.FixedOffsets.{ends_the_text, ends_a_zone, nothing_left}

pub returns-clause-offset : goal.returns-clause-offset
returns-clause-offset g c =
    let size : length c.args.cursor.now.rest ≡ 5 = ap (λ (t : List ℕ). length t) (sym (c.fixed_minute.ensures.rest ∙ c.fixed_hour.ensures.rest)) ∙ grind (arith, nat_tests) in
    let none = nothing_left g.T.EncodingType.letter _ size in
    rw (c.sign_from.ensures, c.advance_by.ensures.rest, c.fixed_minute.ensures.rest, c.fixed_hour.ensures.rest, none.0) (ends_the_text c.args.sign _ _ _ (sym c.in_ok-hour.ensures.there) (sym (rw c.fixed_hour.ensures.rest at c.in_ok-minute.ensures.there)) none.1)

pub returns-clause-zone : goal.returns-clause-zone
returns-clause-zone g c =
    let size : length c.args.cursor.now.rest ≡ 5 = ap (λ (t : List ℕ). length t) (sym (c.fixed_minute.ensures.rest ∙ c.fixed_hour.ensures.rest)) ∙ grind (arith, nat_tests) in
    let none = nothing_left g.T.EncodingType.letter _ size in
    rw (c.sign_from.ensures, c.advance_by.ensures.rest, c.fixed_minute.ensures.rest, c.fixed_hour.ensures.rest, none.0) (ends_a_zone c.args.sign _ _ _ (sym c.in_ok-hour.ensures.there) (sym (rw c.fixed_hour.ensures.rest at c.in_ok-minute.ensures.there)) none.1)
