-- Proves which value the reader returned, and which error.
use Rattle.ixdtf_checks.proofs.reading.read_rfc9557.Goals as goal
use Rattle.std.proofs.Common.{refl}
use Rattle.ixdtf_grammar.specs.language.Languages.Found.{parsed}

pub returns-in-Ok-clause-ok : goal.returns-in-Ok-clause-ok
returns-in-Ok-clause-ok c = (parsed _, rw c.from_utf8.ensures.rest at ((c.in-Ok.ensures.reads.ok _).0 refl))

pub returns-in-Err-clause-err : goal.returns-in-Err-clause-err
returns-in-Err-clause-err c = rw (← c.from_utf8.ensures.rest) (c.in-Err.ensures.reads.err, c.in-Err.ensures.reads.reason)
