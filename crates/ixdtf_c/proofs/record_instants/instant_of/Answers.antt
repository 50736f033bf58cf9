use Rattle.ixdtf_c.proofs.record_instants.instant_of.Goals as goal
use Rattle.ixdtf_c.proofs.Timed.{instant_by}

pub returns-clause-some : goal.returns-clause-some
returns-clause-some c =
    instant_by _ c.args.date.now c.args.time.now c.args.offset.now c.date_of.ensures c.in-Some.ensures.found c.in-Some-offset_of.ensures.found
    c.in-Some.ensures.digits c.in-Some-offset_of.ensures.digits c.instant.result c.instant.ensures.some
