use Rattle.std.proofs.Common.{rules, arith, ◌≡◌, None, FitsSigned, w32, to_z-of_z}
use Rattle.ixdtf_grammar.specs.declared.records.UtcOffsetRecordOrZ.TheVariants.{Z}
use Rattle.ixdtf_grammar.specs.Instants.{instant_count}
use Rattle.ixdtf_instants.proofs.SignedLemmas.{signed_casts}
use Rattle.ixdtf_grammar.proofs.records.IxdtfParseRecord.instant.Goals as goal

pub returns-then-time-lt60-clause-some : goal.returns-then-time-lt60-clause-some
unfolding instant_count
returns-then-time-lt60-clause-some g c = record {
  has = record {
    date = c.in-Some-Some-Some-Z.date;
    time = c.in-Some-Some-Some-Z.time;
    offset = Z;
    has_date = search rules;
    has_time = search rules;
    has_offset = search rules;
    month = c.in_ok-days.ensures.some;
  };
  counts =
      let fits : FitsSigned w32 c.in-Some-Some-Some-Z.date.year = search rules in
      let days = simp to_z-of_z at c.in_ok-days.ensures.value in
      let none : c.in-Some-Some-Some-Z.time.fraction ≡ None = search rules in
      rw none (omega (arith, signed_casts, days, c.in_ok-days.ensures.low, c.in_ok-days.ensures.high, c.from.ensures, c.seconds_in-seconds.ensures));
  fits = omega arith;
}
