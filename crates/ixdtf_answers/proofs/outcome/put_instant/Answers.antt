-- Proves the case of a record with an instant, and the case of a record without one.
use Rattle.ixdtf_answers.proofs.outcome.put_instant.Goals as goal
use Rattle.ixdtf_answers.proofs.InstantLemmas.{with_instant, without_instant}

pub returns-in_default : goal.returns-in_default
returns-in_default g c = rw (without_instant c.args.parts.now c.requires c.in_default.ensures.none) c.put.ensures

pub returns : goal.returns
returns g c =
    let put = rw (c.add_byte-end.ensures.text.is, c.add_instant-front.ensures.text.is, c.add_array-field.ensures.text.is) at c.put-2.ensures in
    rw (with_instant c.args.parts.now c.in-Some.instant c.in-Some.ensures.some) put
