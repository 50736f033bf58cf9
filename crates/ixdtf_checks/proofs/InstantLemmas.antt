-- Proves that the instant of a read text is that of the record in the code.
use Rattle.std.proofs.Common.{ℕ, Option, Some, None, IfSome, IfNone, MatchOption}
use Rattle.ixdtf_instants.specs.declared.instant.Instant.{Instant}
use Rattle.ixdtf_grammar.specs.declared.records.IxdtfParseRecord.{IxdtfParseRecord}
use Rattle.ixdtf_grammar.specs.{Instants.{HasInstant, IsInstantOf}, Views.parsed_of}
use Rattle.ixdtf_checks.specs.Order.{NamesInstant}

module _ {T : Type 0} (r : IxdtfParseRecord T ℕ) where
  names : (instant : Instant) → IsInstantOf r instant → NamesInstant (parsed_of (λ byte. byte) r) instant
  names instant h = record {
    date = h.has.date;
    time = h.has.time;
    offset = h.has.offset;
    has_date = h.has.has_date;
    has_time = h.has.has_time;
    has_offset = h.has.has_offset;
    month = h.has.month;
    counts = h.counts;
    fits = h.fits;
  }

  has : (instant : Instant) → NamesInstant (parsed_of (λ byte. byte) r) instant → HasInstant r
  has instant h = record {
    date = h.date;
    time = h.time;
    offset = h.offset;
    has_date = h.has_date;
    has_time = h.has_time;
    has_offset = h.has_offset;
    month = h.month;
  }

  pub named_by : (result : Option Instant) → IfSome result (λ instant. IsInstantOf r instant) → IfNone result (¬ (HasInstant r))
      → MatchOption result ((other : Instant) → ¬ (NamesInstant (parsed_of (λ byte. byte) r) other)) (λ named. NamesInstant (parsed_of (λ byte. byte) r) named)
  named_by None some none = λ other h. none (has other h)
  named_by (Some instant) some none = names instant some
