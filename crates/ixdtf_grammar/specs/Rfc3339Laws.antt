-- Laws that compare `parse_rfc3339` with the productions of RFC 3339 section 5.6, and with `parse`.
use Rattle.std.specs.Prelude.{◌↔◌, []}
use Rattle.ixdtf_grammar.specs.language.{Letters.Text, Rfc3339.IsRfcDateTime, Readers.{parse, Reader.parse_rfc3339}, Languages.{Parsed, Derives, Found.dated}}
use Rattle.ixdtf_grammar.specs.Handlers.{UnhandledRecord}

-- A text is a date-time of RFC 3339 section 5.6 exactly if `parse_rfc3339` derives a record from it.
abbrev pub DerivesDateTimesAlone : Type 0
DerivesDateTimesAlone = (text : Text) → IsRfcDateTime text ↔ ((found : Parsed) × Derives parse_rfc3339 text (dated found) [])

-- If `parse_rfc3339` derives a record from a text, then `parse` without a handler gives the same record for this text.
abbrev pub ParseReadsTheSame : Type 0
ParseReadsTheSame = (text : Text) (found : Parsed) → Derives parse_rfc3339 text (dated found) [] → UnhandledRecord parse text found
