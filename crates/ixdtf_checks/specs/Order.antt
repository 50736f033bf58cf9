-- Defines the instants that texts name, and the order of lines by these instants.
use Rattle.std.specs.Prelude.{◌≡◌, ◌⊎◌, ℕ, ◌<◌, ◌^◌, List, Option, Some, None, MatchOption, ◌<ℤ◌}
use Rattle.ixdtf_instants.specs.{declared.instant.Instant.{Instant}, Calendar.IsMonth, Counts.count_of}
use Rattle.ixdtf_grammar.specs.declared.records.{DateRecord.DateRecord, TimeRecord.TimeRecord, UtcOffsetRecordOrZ.UtcOffsetRecordOrZ}
use Rattle.ixdtf_grammar.specs.{Instants.instant_count, Widths.{HasUnhandledOutcome, byte_text, UnhandledOutcome.read_as}}
use Rattle.ixdtf_grammar.specs.language.{Languages.{Parsed, Found, Found.{parsed, dated, shifted, identified, named, lasting}}, Readers.Reader}

-- The record has a date, a time, and an offset or `Z`. Its month is from 1 to 12, and this is the instant that it names.
pub record NamesInstant (found : Parsed) (instant : Instant) : Type 0 where
  pub date : DateRecord
  pub time : TimeRecord
  pub offset : UtcOffsetRecordOrZ
  pub has_date : found.date ≡ Some date
  pub has_time : found.time ≡ Some time
  pub has_offset : found.offset ≡ Some offset
  pub month : IsMonth date.month
  pub counts : count_of instant ≡ instant_count date time offset
  pub fits : instant.nanoseconds < 10 ^ 9

-- The value that a reader returned names this instant. Only records of date-times can name one.
abbrev pub IsInstantOf : Found → Instant → Type 0
IsInstantOf (parsed found) instant = NamesInstant found instant
IsInstantOf (dated found) instant = NamesInstant found instant
IsInstantOf (shifted offset) instant = ⊥
IsInstantOf (identified zone) instant = ⊥
IsInstantOf (named units) instant = ⊥
IsInstantOf (lasting duration) instant = ⊥

-- The reader accepts the text. This is the instant that the text names, or the text names no instant.
abbrev pub HasInstant : Reader → List ℕ → Option Instant → Type 0
HasInstant reader bytes instant = (found : Found) × HasUnhandledOutcome reader (byte_text bytes) (read_as found)
    × MatchOption instant ((other : Instant) → ¬ (IsInstantOf found other)) (λ named. IsInstantOf found named)

abbrev pub IsTimed : Reader → List ℕ → Instant → Type 0
IsTimed reader bytes instant = HasInstant reader bytes (Some instant)

abbrev pub IsUntimed : Reader → List ℕ → Type 0
IsUntimed reader bytes = HasInstant reader bytes None

-- Instants are compared by their seconds, and then by their nanoseconds.
abbrev pub IsBefore : Instant → Instant → Type 0
IsBefore instant other =
    (instant.seconds <ℤ other.seconds) ⊎ ((instant.seconds ≡ other.seconds) × (instant.nanoseconds < other.nanoseconds))

-- The instant is before the instant of the last earlier line that has one, if there is such a line.
abbrev pub IsTooEarly : Instant → Option Instant → Type 0
IsTooEarly instant None = ⊥
IsTooEarly instant (Some last) = IsBefore instant last

-- This is the instant of a line, if it has one, and otherwise the instant of the last earlier line that has one.
abbrev pub latest : Option Instant → Option Instant → Option Instant
latest None before = before
latest (Some instant) before = Some instant
