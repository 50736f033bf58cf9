use Rattle.ixdtf.proofs.parsers.IxdtfParser.keep_first_calendar.Goals as goal
use Rattle.std.proofs.Common.{[], true, refl}
use Rattle.ixdtf_reading.proofs.theorems.StopFaults.{fault_of_refusal}

pub returns-in-Err-clause-err : goal.returns-in-Err-clause-err
returns-in-Err-clause-err g c =
    let (fault, refuses, refused) = c.in-Err.ensures.err in
    rw (c.error_of_stop.ensures.fault, c.code_of.ensures [] refl, fault_of_refusal true _ fault [] refuses) refused
