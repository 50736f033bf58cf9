-- Proves the answer that has the instant of a record.
use Rattle.std.proofs.Common.{◌≡◌, ℕ, ◌<◌, ◌≤◌, ◌^◌, List, [], ◌∷◌, ◌++◌, Option, Some, None, codes, refl, arith, ℤ, pos, ◌+ℤ◌, ◌*ℤ◌, nat_abs}
use Rattle.std.specs.Int.{int_rem_euclid}
use Rattle.ixdtf_instants.specs.{declared.instant.Instant.{Instant}, Counts.count_of, Texts.seconds_of}
use Rattle.ixdtf_instants.proofs.SignedLemmas.{signed_arith, billions}
use Rattle.ixdtf_grammar.specs.declared.records.{DateRecord.DateRecord, TimeRecord.TimeRecord, IxdtfParseRecord.IxdtfParseRecord, UtcOffsetRecordOrZ.UtcOffsetRecordOrZ}
use Rattle.ixdtf_grammar.specs.Instants.{HasInstant, IsInstantOf}
use Rattle.ixdtf_print.specs.{Printable.{IsPrintable, record_of}, Spelled.HasDay}
use Rattle.ixdtf_print.proofs.theorems.PrintableRecords.{printable_iff}
use Rattle.ixdtf_answers.specs.{Answer.{no_instant, instant_answer_of}, Fields.{seconds_text_of, instant_text_of}}

-- A count of nanoseconds gives back its seconds and its nanoseconds, if the nanoseconds are less than a second.
seconds_are : (seconds : ℤ) (nanoseconds : ℕ) → nanoseconds < 10 ^ 9 → (seconds_of (seconds *ℤ pos (10 ^ 9) +ℤ pos nanoseconds) ≡ seconds)
    × (nat_abs (int_rem_euclid (seconds *ℤ pos (10 ^ 9) +ℤ pos nanoseconds) (pos (10 ^ 9))) ≡ nanoseconds)
seconds_are seconds nanoseconds small =
    let count = seconds *ℤ pos (10 ^ 9) +ℤ pos nanoseconds in
    (omega (arith, signed_arith, billions count), omega (arith, signed_arith, billions count))

-- A record that has an instant has this answer.
pub with_instant : {T : Type 0} (record_read : IxdtfParseRecord T ℕ) (instant : Instant) → IsInstantOf record_read instant
    → instant_answer_of record_read.date record_read.time record_read.offset ≡ codes "ok" ++ seconds_text_of instant.seconds instant.nanoseconds
with_instant record_read instant is =
    let (seconds, nanoseconds) = seconds_are instant.seconds instant.nanoseconds is.fits in
    rw (is.has.has_date, is.has.has_time, is.has.has_offset, ← is.counts, seconds, nanoseconds) refl

-- A record without an instant lacks a date, a time or an offset.
pub without_instant : {T : Type 0} (record_read : IxdtfParseRecord T ℕ) → IsPrintable (record_of record_read) → ¬ (HasInstant record_read)
    → instant_answer_of record_read.date record_read.time record_read.offset ≡ no_instant
without_instant record_read printable none =
    go record_read.date record_read.time record_read.offset ((printable_iff (record_of record_read)).0 printable).date
    (λ date time offset is_date is_time is_offset month. none record {
      date = date;
      time = time;
      offset = offset;
      has_date = is_date;
      has_time = is_time;
      has_offset = is_offset;
      month = month;
    })
  where
    go : (date : Option DateRecord) (time : Option TimeRecord) (offset : Option UtcOffsetRecordOrZ) → HasDay date
        → ((d : DateRecord) (t : TimeRecord) (o : UtcOffsetRecordOrZ) → date ≡ Some d → time ≡ Some t → offset ≡ Some o → (1 ≤ d.month) × (d.month ≤ 12) → ⊥)
        → instant_answer_of date time offset ≡ no_instant
    go (Some date) (Some time) (Some offset) day none = absurd (none date time offset refl refl refl (day.month_from, day.month_to))
    go (Some date) (Some time) None day none = refl
    go (Some date) None offset day none = refl
    go None time offset day none = refl
