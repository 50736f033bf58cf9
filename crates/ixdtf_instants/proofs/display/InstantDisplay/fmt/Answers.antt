use Rattle.std.proofs.{Common.{refl, rules, FitsSigned, w64, to_z-of_z}, Output.{has_written_styled_append}}
use Rattle.ixdtf_instants.specs.Texts.{text_of_count}
use Rattle.ixdtf_instants.proofs.WalkLemmas.{date_digits-of}
use Rattle.ixdtf_instants.proofs.display.InstantDisplay.fmt.Goals as goal

pub returns-clause-styled : goal.returns-clause-styled
unfolding text_of_count
returns-clause-styled g c = λ flush ok.
    let fits : FitsSigned w64 c.moment_of-moment.result.day = search rules in
    let number = simp to_z-of_z at c.date_of.ensures.number in
    let text = date_digits-of c.date_of.result.year c.date_of.result.month c.date_of.result.day c.moment_of-moment.result.day c.date_of.ensures.date number in
    let date = c.in_ok-write_date.ensures flush refl in
    let letter = c.in_ok-write_str.ensures.styled date.flush refl in
    let clock = c.in_ok-write_clock.ensures letter.flush refl in
    let fraction = c.in_ok-write_fraction.ensures clock.flush refl in
    let zulu = c.write_str-2.ensures.styled fraction.flush ok in
    rw (← c.moment_of-moment.ensures.day, ← c.moment_of-moment.ensures.second, ← c.moment_of-moment.ensures.nanoseconds, ← text)
    (has_written_styled_append _ _ _ _ _ _ date (has_written_styled_append _ _ _ _ _ _ letter (has_written_styled_append _ _ _ _ _ _ clock
    (has_written_styled_append _ _ _ _ _ _ fraction zulu))))

pub returns-clause-writes : goal.returns-clause-writes
returns-clause-writes g c = λ plain ok.
    let styled = returns-clause-styled g c plain.flush ok in
    record { wrote = styled.wrote; plain = record { bare = rw styled.spec plain.bare; flush = styled.flush } }
