use Rattle.std.proofs.Common.{refl}
use Rattle.ixdtf.specs.language.Languages.Found.{parsed}
use Rattle.ixdtf.specs.Views.{parsed_of}
use Rattle.ixdtf_callers.proofs.callers.calling.year_of.Goals as goal

-- The clause `ok` of `parse` gives a record that the text derives, and its annotations. It is used from the left to the right.
pub returns-in-Some : goal.returns-in-Some
returns-in-Some c =
    let (pairs, given) = (c.in-Ok.ensures.reads.ok (parsed_of (λ unit. unit) c.in-Ok.record)).0 refl in
    (parsed given.read, pairs, rw (← c.from_str.ensures.rest) given.whole)
