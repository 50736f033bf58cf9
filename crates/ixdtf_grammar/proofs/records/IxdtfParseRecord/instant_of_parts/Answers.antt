use Rattle.std.proofs.Common.{rules, arith}
use Rattle.ixdtf_grammar.specs.Instants.{instant_count}
use Rattle.ixdtf_instants.proofs.SignedLemmas.{signed_arith}
use Rattle.ixdtf_grammar.proofs.records.IxdtfParseRecord.instant_of_parts.Goals as goal

pub returns-in-Z-clause-some : goal.returns-in-Z-clause-some
unfolding instant_count
returns-in-Z-clause-some g c = record {
  has = record {
    date = c.in_ok-date.date.now;
    time = c.in_ok-time.time.now;
    offset = c.in_ok-offset.offset.now;
    has_date = search rules;
    has_time = search rules;
    has_offset = search rules;
    month = c.in_ok-clock.ensures.some;
  };
  counts = rw c.in-Z.is (omega (arith, signed_arith, c.in_ok-clock.ensures.value));
  fits = c.in_ok-clock.ensures.fits;
}

pub returns-in-Offset-clause-some : goal.returns-in-Offset-clause-some
unfolding instant_count
returns-in-Offset-clause-some g c = record {
  has = record {
    date = c.in_ok-date.date.now;
    time = c.in_ok-time.time.now;
    offset = c.in_ok-offset.offset.now;
    has_date = search rules;
    has_time = search rules;
    has_offset = search rules;
    month = c.in_ok-clock.ensures.some;
  };
  counts = rw c.in-Offset.is (omega (arith, signed_arith, c.in_ok-clock.ensures.value, c.in_utc.ensures.value));
  fits = c.in_utc.ensures.fits;
}
