-- The first field of a record ends.
use Rattle.ixdtf_checks.proofs.csv.first_field.Goals as goal
use Rattle.std.proofs.Common.{◌+◌, refl}
use Rattle.ixdtf_checks.proofs.CsvLemmas.{bad_after, bad_here, first_last, first_more, rest_of}

pub returns-in-Last-clause-ok : goal.returns-in-Last-clause-ok
returns-in-Last-clause-ok c = first_last c.args.separator c.args.bytes.now c.in-Last.ensures.ending

pub returns-in-Bad-clause-err : goal.returns-in-Bad-clause-err
returns-in-Bad-clause-err c = bad_here c.args.separator c.args.bytes.now c.in-Bad.broken c.in-Bad.ensures.ending

pub returns-in-Ok-clause-ok : goal.returns-in-Ok-clause-ok
returns-in-Ok-clause-ok c =
    first_more c.args.separator c.in-At.place c.args.bytes.now c.in-At.ensures.ending (rw (rest_of (c.in-At.place + 1) c.args.bytes.now) at c.in-Ok.ensures.ok)

pub returns-in-Err-clause-err : goal.returns-in-Err-clause-err
returns-in-Err-clause-err c =
    bad_after c.args.separator c.in-At.place c.args.bytes.now c.in-Err.broken _ c.in-At.ensures.ending
    (rw (rest_of (c.in-At.place + 1) c.args.bytes.now) at c.in-Err.ensures.err) refl refl
