-- Proves which value the reader returned, and which error.
use Rattle.ixdtf_answers.proofs.explanations.read_offset.Goals as goal
use Rattle.std.proofs.Common.{refl}
use Rattle.ixdtf_explanations.specs.LocatedFaults.{fault_of_located}

pub returns-in-Ok : goal.returns-in-Ok
returns-in-Ok c = record { ok = (_, rw c.from_utf8.ensures.rest at ((c.in-Ok.ensures.reads.ok _).0 refl)); err = tt }

pub returns-in-Err : goal.returns-in-Err
returns-in-Err c = record {
  ok = tt;
  err = rw (← c.from_utf8.ensures.rest) (fault_of_located c.in-Err.error, c.in-Err.ensures.reads.err, c.in-Err.ensures.reads.reason);
}
