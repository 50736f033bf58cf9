use Rattle.ixdtf_print.proofs.put.put_first.Goals as goal
use Rattle.ixdtf_print.proofs.code.PutBytes.{none_so_far, first_put}

pub returns-in-None-clause-puts : goal.returns-in-None-clause-puts
returns-in-None-clause-puts g c = none_so_far _ _ _

pub returns-in-Some-clause-puts : goal.returns-in-Some-clause-puts
returns-in-Some-clause-puts g c =
    let pieces = c.in-Some.ensures.cases in
    first_put _ _ _ _ pieces.0 pieces.1 c.put.ensures
