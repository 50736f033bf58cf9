-- The canonical text of a time zone: of the texts for which `parse_identifier` returns it, the one that is printed. It is
-- `zone_text`, as in a bracket.
use Rattle.std.specs.Prelude.{ℕ, []}
use Rattle.ixdtf_grammar.specs.declared.records.TimeZoneRecord.{TimeZoneRecord}
use Rattle.ixdtf.specs.{Views.zone_of, language.{Letters.Text, ZoneNames.Zone, Languages.{Derives, Found.identified}, Readers.Reader.parse_identifier}}
use Rattle.ixdtf_print.specs.{Canonical.zone_text, Printing.{HasText, HasOneText, EachIsReadBack, FitsWithin}}

-- The zone of a text of bytes. Its name is the list of the numbers of the bytes.
abbrev pub zone_in : {T : Type 0} → TimeZoneRecord T ℕ → Zone
zone_in zone = zone_of (λ byte. byte) zone

-- `parse_identifier` returns the zone for the text.
abbrev pub IsIdentifier : Text → Zone → Type 0
IsIdentifier text zone = Derives parse_identifier text (identified zone) []

-- `parse_identifier` returns the zone for some text.
abbrev pub IsPrintableZone : Zone → Type 0
IsPrintableZone zone = HasText IsIdentifier zone

-- `parse_identifier` returns the zone for its canonical text, which is that of no other zone.
abbrev pub IsZoneReadBack : Zone → Type 0
IsZoneReadBack zone = HasOneText IsIdentifier zone_text zone

-- The canonical text of a zone has at most 3 code units more than each text for which `parse_identifier` returns the zone.
abbrev pub ZoneFits : Type 0
ZoneFits = FitsWithin 3 IsIdentifier zone_text

abbrev pub ZoneIsReadBack : Type 0
ZoneIsReadBack = EachIsReadBack IsIdentifier zone_text
