use Rattle.ixdtf_c.proofs.readers.rfc3339_into.Goals as goal
use Rattle.std.proofs.Common.{refl}
use Rattle.ixdtf_c.proofs.Crossed.{part_ok, part_err}

pub returns-in-Ok-clause-read : goal.returns-in-Ok-clause-read
returns-in-Ok-clause-read g c = part_ok _ _ c.parse_rfc3339_located.ensures.reads c.new.ensures.rest (λ found. found) (g.R.RecordOf.contents c.args.out.now) c.in-Ok.is refl c.write.ensures

pub returns-in-Err-clause-read : goal.returns-in-Err-clause-read
returns-in-Err-clause-read g c = part_err _ _ c.parse_rfc3339_located.ensures.reads c.new.ensures.rest (λ found. found) (g.R.RecordOf.contents c.args.out.now) c.in-Err.is c.refuse.ensures.number c.refuse.ensures.error
