use Rattle.ixdtf.proofs.parsers.IxdtfParser.parse_month_day.Goals as goal
use Rattle.ixdtf.proofs.code.Promised.{reads_ok, reads_err}

pub returns-in-Err : goal.returns-in-Err
returns-in-Err g c = record { reads = reads_err _ _ _ _ _ _ _ _ _ c.error.ensures c.in-Err.ensures.reads }

pub returns-in-Ok : goal.returns-in-Ok
returns-in-Ok g c = record { reads = reads_ok _ _ _ _ _ _ _ _ c.lacks_date.ensures.same c.in-Ok.ensures.reads }

pub returns : goal.returns
returns g c = record { reads = reads_ok _ _ _ _ _ _ _ _ c.lacks_date.ensures.same c.in-Ok.ensures.reads }
