-- Proves which value each reader returned, and which error.
use Rattle.ixdtf_checks.proofs.instant_reading.read_instant.Goals as goal
use Rattle.std.proofs.Common.{refl}
use Rattle.ixdtf_grammar.specs.language.Languages.Found.{parsed, dated}
use Rattle.ixdtf_checks.proofs.InstantLemmas.{named_by}

pub returns-in-Ok-clause-ok : goal.returns-in-Ok-clause-ok
returns-in-Ok-clause-ok c =
    let named = named_by c.in-Ok.record c.instant.result c.instant.ensures.some c.instant.ensures.none in
    rw c.in-DateTime.is (parsed _, rw c.from_utf8.ensures.rest at ((c.in-Ok.ensures.reads.ok _).0 refl), named)

pub returns-in-Err-clause-err : goal.returns-in-Err-clause-err
returns-in-Err-clause-err c = rw (c.in-DateTime.is, ← c.from_utf8.ensures.rest) (c.in-Err.ensures.reads.err, c.in-Err.ensures.reads.reason)

pub returns-in-Ok-parse_rfc3339_located-clause-ok : goal.returns-in-Ok-parse_rfc3339_located-clause-ok
returns-in-Ok-parse_rfc3339_located-clause-ok c =
    let instant = c.instant-in-Ok-parse_rfc3339_located in
    let named = named_by c.in-Ok-parse_rfc3339_located.record instant.result instant.ensures.some instant.ensures.none in
    rw c.in-Rfc3339.is (dated _, rw c.from_utf8-in-Rfc3339.ensures.rest at ((c.in-Ok-parse_rfc3339_located.ensures.reads.ok _).0 refl), named)

pub returns-in-Err-parse_rfc3339_located-clause-err : goal.returns-in-Err-parse_rfc3339_located-clause-err
returns-in-Err-parse_rfc3339_located-clause-err c =
    rw (c.in-Rfc3339.is, ← c.from_utf8-in-Rfc3339.ensures.rest) (c.in-Err-parse_rfc3339_located.ensures.reads.err, c.in-Err-parse_rfc3339_located.ensures.reads.reason)

pub returns-in-Ok-parse_rfc9557_located-clause-ok : goal.returns-in-Ok-parse_rfc9557_located-clause-ok
returns-in-Ok-parse_rfc9557_located-clause-ok c =
    let instant = c.instant-in-Ok-parse_rfc9557_located in
    let named = named_by c.in-Ok-parse_rfc9557_located.record instant.result instant.ensures.some instant.ensures.none in
    rw c.in-Rfc9557.is (parsed _, rw c.from_utf8-in-Rfc9557.ensures.rest at ((c.in-Ok-parse_rfc9557_located.ensures.reads.ok _).0 refl), named)

pub returns-in-Err-parse_rfc9557_located-clause-err : goal.returns-in-Err-parse_rfc9557_located-clause-err
returns-in-Err-parse_rfc9557_located-clause-err c =
    rw (c.in-Rfc9557.is, ← c.from_utf8-in-Rfc9557.ensures.rest) (c.in-Err-parse_rfc9557_located.ensures.reads.err, c.in-Err-parse_rfc9557_located.ensures.reads.reason)
