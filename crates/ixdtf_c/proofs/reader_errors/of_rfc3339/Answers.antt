use Rattle.ixdtf_c.proofs.reader_errors.of_rfc3339.Goals as goal
use Rattle.ixdtf_c.proofs.Refused.{of_units, itself, part_ok, part_err}

pub returns-in-Ok : goal.returns-in-Ok
returns-in-Ok g c = of_units _ _ _ c.new.ensures.rest (part_ok c.parse_rfc3339_located.ensures.reads itself (λ fault at reason. itself) c.in-Ok.is)

pub returns-in-Err : goal.returns-in-Err
returns-in-Err g c = of_units _ _ _ c.new.ensures.rest (part_err c.parse_rfc3339_located.ensures.reads itself (λ fault at reason. itself) c.in-Err.is)
