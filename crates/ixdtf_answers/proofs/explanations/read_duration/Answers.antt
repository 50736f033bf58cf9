-- Proves which value the reader returned, and which error.
use Rattle.ixdtf_answers.proofs.explanations.read_duration.Goals as goal
use Rattle.std.proofs.Common.{refl}
use Rattle.ixdtf_explanations.specs.LocatedFaults.{fault_of_located}

pub returns-in-Ok : goal.returns-in-Ok
returns-in-Ok c = record { ok = (_, rw (c.with_profile-reader.ensures.profile, c.with_profile-reader.ensures.rest, c.from_utf8.ensures.rest) at ((c.in-Ok.ensures.reads.ok _).0 refl)); err = tt }

pub returns-in-Err : goal.returns-in-Err
returns-in-Err c =
    let reads = rw (c.with_profile-reader.ensures.profile, c.with_profile-reader.ensures.rest, c.from_utf8.ensures.rest) at c.in-Err.ensures.reads in
    record { ok = tt; err = (fault_of_located c.in-Err.error, reads.err, reads.reason) }
