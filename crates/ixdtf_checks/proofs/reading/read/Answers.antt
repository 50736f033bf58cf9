-- Proves which value each reader returned, and which error.
use Rattle.ixdtf_checks.proofs.reading.read.Goals as goal
use Rattle.std.proofs.Common.{refl}
use Rattle.ixdtf_grammar.specs.language.Languages.Found.{parsed}

pub returns-in-Ok-clause-ok : goal.returns-in-Ok-clause-ok
returns-in-Ok-clause-ok c =
    rw c.in-YearMonth.is (parsed _, rw c.from_utf8.ensures.rest at ((c.in-Ok.ensures.reads.ok _).0 refl))

pub returns-in-Err-clause-err : goal.returns-in-Err-clause-err
returns-in-Err-clause-err c =
    rw (c.in-YearMonth.is, ← c.from_utf8.ensures.rest) (c.in-Err.ensures.reads.err, c.in-Err.ensures.reads.reason)

pub returns-in-Ok-parse_month_day_located-clause-ok : goal.returns-in-Ok-parse_month_day_located-clause-ok
returns-in-Ok-parse_month_day_located-clause-ok c =
    rw c.in-MonthDay.is (parsed _, rw (c.parser.ensures.profile, c.parser.ensures.rest) at ((c.in-Ok-parse_month_day_located.ensures.reads.ok _).0 refl))

pub returns-in-Err-parse_month_day_located-clause-err : goal.returns-in-Err-parse_month_day_located-clause-err
returns-in-Err-parse_month_day_located-clause-err c =
    rw (c.in-MonthDay.is, ← c.parser.ensures.profile, ← c.parser.ensures.rest) (c.in-Err-parse_month_day_located.ensures.reads.err, c.in-Err-parse_month_day_located.ensures.reads.reason)

pub returns-in-Ok-parse_time_located-clause-ok : goal.returns-in-Ok-parse_time_located-clause-ok
returns-in-Ok-parse_time_located-clause-ok c =
    rw c.in-Time.is (parsed _, rw (c.parser-in-Time.ensures.profile, c.parser-in-Time.ensures.rest) at ((c.in-Ok-parse_time_located.ensures.reads.ok _).0 refl))

pub returns-in-Err-parse_time_located-clause-err : goal.returns-in-Err-parse_time_located-clause-err
returns-in-Err-parse_time_located-clause-err c =
    rw (c.in-Time.is, ← c.parser-in-Time.ensures.profile, ← c.parser-in-Time.ensures.rest) (c.in-Err-parse_time_located.ensures.reads.err, c.in-Err-parse_time_located.ensures.reads.reason)

pub returns-in-Ok-parse_offset_located-clause-ok : goal.returns-in-Ok-parse_offset_located-clause-ok
returns-in-Ok-parse_offset_located-clause-ok c =
    rw c.in-Offset.is (_, rw c.from_utf8-in-Offset.ensures.rest at ((c.in-Ok-parse_offset_located.ensures.reads.ok _).0 refl))

pub returns-in-Err-parse_offset_located-clause-err : goal.returns-in-Err-parse_offset_located-clause-err
returns-in-Err-parse_offset_located-clause-err c =
    rw (c.in-Offset.is, ← c.from_utf8-in-Offset.ensures.rest) (c.in-Err-parse_offset_located.ensures.reads.err, c.in-Err-parse_offset_located.ensures.reads.reason)

pub returns-in-Ok-parse_identifier_located-clause-ok : goal.returns-in-Ok-parse_identifier_located-clause-ok
returns-in-Ok-parse_identifier_located-clause-ok c =
    rw c.in-Zone.is (_, rw c.from_utf8-in-Zone.ensures.rest at ((c.in-Ok-parse_identifier_located.ensures.reads.ok _).0 refl))

pub returns-in-Err-parse_identifier_located-clause-err : goal.returns-in-Err-parse_identifier_located-clause-err
returns-in-Err-parse_identifier_located-clause-err c =
    rw (c.in-Zone.is, ← c.from_utf8-in-Zone.ensures.rest) (c.in-Err-parse_identifier_located.ensures.reads.err, c.in-Err-parse_identifier_located.ensures.reads.reason)

pub returns-in-Ok-parse_located-clause-ok : goal.returns-in-Ok-parse_located-clause-ok
returns-in-Ok-parse_located-clause-ok c =
    rw c.in-Duration.is (_, rw (c.duration_parser.ensures.profile, c.duration_parser.ensures.rest) at ((c.in-Ok-parse_located.ensures.reads.ok _).0 refl))

pub returns-in-Err-parse_located-clause-err : goal.returns-in-Err-parse_located-clause-err
returns-in-Err-parse_located-clause-err c =
    rw (c.in-Duration.is, ← c.duration_parser.ensures.profile, ← c.duration_parser.ensures.rest) (c.in-Err-parse_located.ensures.reads.err, c.in-Err-parse_located.ensures.reads.reason)
