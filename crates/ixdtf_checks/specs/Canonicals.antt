-- Defines the canonical texts of each kind.
use Rattle.std.specs.Prelude.{◌≡◌, ℕ, List, [], map, Result, OnOk, IfErr}
use Rattle.ixdtf_grammar.specs.{declared.profile.Profile.Profile, Handlers.UnhandledRecord, Widths.byte_text}
use Rattle.ixdtf_explanations.specs.declared.located.LocatedError.{LocatedError}
use Rattle.ixdtf_grammar.specs.language.{Letters.{Text, byte_letter}, Languages.{Parsed, Derives, Found.{dated, named}}, ZoneNames.Zone.Name}
use Rattle.ixdtf_grammar.specs.language.Readers.{Reader, parse, parse_rfc9557, Reader.{parse_rfc3339, parse_iana_identifier}}
use Rattle.ixdtf_checks.specs.Errors.{HasError}
use Rattle.ixdtf_print.specs.{Canonical.{canonical_text, zone_text}, Durations.{IsDurationText, duration_text}, MonthDays.{IsMonthDayText, month_day_text}}
use Rattle.ixdtf_print.specs.{Offsets.{IsOffsetText, utc_offset_text}, Times.{IsTimeText, lone_time_text}, YearMonths.{IsYearMonthText, year_month_text}, Zones.IsIdentifier}
use Rattle.ixdtf_checks.specs.declared.kind.Kind.{Kind, TheVariants.{DateTime, YearMonth, MonthDay, Time, Offset, Zone, ZoneName, Duration, Rfc3339, Iana, Rfc9557}}

-- `parse_rfc3339` accepts the text, and returns this record.
abbrev pub IsDatedText : Text → Parsed → Type 0
IsDatedText text found = Derives parse_rfc3339 text (dated found) []

-- `parse_iana_identifier` accepts the text, and returns this name.
abbrev pub IsNameText : Text → List ℕ → Type 0
IsNameText text name = Derives parse_iana_identifier text (named name) []

-- The canonical text of a name is that of the zone with this name.
abbrev pub name_text : List ℕ → Text
name_text name = zone_text (Name name)

-- The first bytes stand for a value, and the second bytes are the canonical text of this value.
abbrev pub HasCanonical : {R : Type 0} → (Text → R → Type 0) → (R → Text) → List ℕ → List ℕ → Type 0
HasCanonical {R} stands text_of bytes canonical = (found : R) × stands (byte_text bytes) found × (map byte_letter canonical ≡ text_of found)

-- The reader of the kind accepts the first bytes. The second bytes are the canonical text of the value that it returns.
abbrev pub IsCanonical : Kind → Profile → List ℕ → List ℕ → Type 0
IsCanonical DateTime profile bytes canonical = HasCanonical (UnhandledRecord parse) canonical_text bytes canonical
IsCanonical YearMonth profile bytes canonical = HasCanonical IsYearMonthText year_month_text bytes canonical
IsCanonical MonthDay profile bytes canonical = HasCanonical (IsMonthDayText profile) month_day_text bytes canonical
IsCanonical Time profile bytes canonical = HasCanonical (IsTimeText profile) lone_time_text bytes canonical
IsCanonical Offset profile bytes canonical = HasCanonical IsOffsetText utc_offset_text bytes canonical
IsCanonical Zone profile bytes canonical = HasCanonical IsIdentifier zone_text bytes canonical
IsCanonical ZoneName profile bytes canonical = HasCanonical IsNameText name_text bytes canonical
IsCanonical Duration profile bytes canonical = HasCanonical (IsDurationText profile) duration_text bytes canonical
IsCanonical Rfc3339 profile bytes canonical = HasCanonical IsDatedText canonical_text bytes canonical
IsCanonical Iana profile bytes canonical = HasCanonical IsNameText name_text bytes canonical
IsCanonical Rfc9557 profile bytes canonical = HasCanonical (UnhandledRecord parse_rfc9557) canonical_text bytes canonical

-- This is the contract of a function that reads a text and prints its canonical text. No clause of `check` cites it.
pub record PrintsCanonical {R : Type 0} (reader : Reader) (stands : Text → R → Type 0) (text_of : R → Text) (bytes : List ℕ)
    (result : Result (Unit {0}) LocatedError) (canonical : List ℕ) : Type 0 where
  pub ok : OnOk result (HasCanonical stands text_of bytes canonical)
  pub err : IfErr result (λ error. HasError reader (byte_text bytes) error)
