-- The instant of a record of the library is the instant of the struct of C.
use Rattle.std.proofs.Common.{◌≡◌, ◌∙◌, sym, Option, Some, None, IfSome, IsSomeAnd}
use Rattle.ixdtf_grammar.specs.declared.records.IxdtfParseRecord.{IxdtfParseRecord}
use Rattle.ixdtf_instants.specs.declared.instant.Instant.{Instant}
use Rattle.ixdtf.specs.Instants.{IsInstantOf}
use Rattle.ixdtf_c.specs.declared.part_structs.{Date.Date, Time.Time, Offset.Offset}
use Rattle.ixdtf_c.specs.{Standing.{date_by, time_by, offset_by}, Instants.{AreInstant, offset_fraction}}
use Rattle.ixdtf_print.specs.Spelled.{HasDigits}

-- The structs of a date, a time and an offset stand for the parts of the record, and their fractions are valid (`HasDigits`).
module _ {T U : Type 0} (r : IxdtfParseRecord T U) (d : Date) (t : Time) (o : Offset)
    (date : r.date ≡ date_by d) (time : r.time ≡ time_by t) (offset : offset_by o ≡ Some r.offset)
    (digits : IfSome (time_by t) (λ it. HasDigits it.fraction))
    (offset_digits : IsSomeAnd (offset_by o) (λ it. IfSome it (λ shift. HasDigits (offset_fraction shift)))) where
  one_instant : (instant : Instant) → IsInstantOf r instant → AreInstant d t o instant.seconds instant.nanoseconds
  one_instant instant is =
      let has_time : time_by t ≡ Some is.has.time = sym time ∙ is.has.has_time in
      let has_offset : offset_by o ≡ Some (Some is.has.offset) = offset ∙ λ i. Some (is.has.has_offset i) in
      record {
        has = record {
          date = is.has.date;
          time = is.has.time;
          offset = is.has.offset;
          has_date = sym date ∙ is.has.has_date;
          has_time = has_time;
          has_offset = has_offset;
          month = is.has.month;
          digits = rw has_time at digits;
          offset_digits = rw has_offset at offset_digits;
        };
        counts = is.counts;
        fits = is.fits;
      }

  pub instant_by : (found : Option Instant) → IfSome found (λ instant. IsInstantOf r instant)
      → IfSome found (λ instant. AreInstant d t o instant.seconds instant.nanoseconds)
  instant_by None is = tt
  instant_by (Some instant) is = one_instant instant is
