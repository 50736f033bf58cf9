-- Which durations have a text, stated for their fields. Only private clauses use these definitions. Public contracts use
-- `IsPrintableDuration` of `Durations.antt`.
use Rattle.std.specs.Prelude.{◌<◌, ◌^◌, Option, Some, None}
use Rattle.ixdtf_grammar.specs.declared.records.DateDurationRecord.{DateDurationRecord}
use Rattle.ixdtf_grammar.specs.declared.records.TimeDurationRecord.{TimeDurationRecord, TheVariants.{Hours, Minutes, Seconds}}
use Rattle.ixdtf_print.specs.Spelled.{HasDigits}

-- The numbers are in the ranges of their duration units.
pub record AreDateUnits (date : DateDurationRecord) : Type 0 where
  pub years : date.years < 2 ^ 32
  pub months : date.months < 2 ^ 32
  pub weeks : date.weeks < 2 ^ 32
  pub days : date.days < 2 ^ 64

abbrev pub HasDateUnits : Option DateDurationRecord → Type 0
HasDateUnits None = Unit {0}
HasDateUnits (Some date) = AreDateUnits date

abbrev pub AreTimeUnits : TimeDurationRecord → Type 0
AreTimeUnits (Hours hours fraction) = (hours < 2 ^ 64) × HasDigits fraction
AreTimeUnits (Minutes hours minutes fraction) = (hours < 2 ^ 64) × (minutes < 2 ^ 64) × HasDigits fraction
AreTimeUnits (Seconds hours minutes seconds fraction) = (hours < 2 ^ 64) × (minutes < 2 ^ 64) × (seconds < 2 ^ 64) × HasDigits fraction

abbrev pub HasTimeUnits : Option TimeDurationRecord → Type 0
HasTimeUnits None = Unit {0}
HasTimeUnits (Some time) = AreTimeUnits time

-- There is a date or a time.
abbrev pub HasPart : Option DateDurationRecord → Option TimeDurationRecord → Type 0
HasPart (Some date) time = Unit {0}
HasPart None (Some time) = Unit {0}
HasPart None None = ⊥

-- A duration with this date and this time has a text, whatever its sign is.
pub record AreParts (of_date : Option DateDurationRecord) (of_time : Option TimeDurationRecord) : Type 0 where
  pub date : HasDateUnits of_date
  pub time : HasTimeUnits of_time
  pub part : HasPart of_date of_time
