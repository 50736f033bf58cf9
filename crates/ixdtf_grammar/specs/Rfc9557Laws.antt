-- Laws that compare `parse_rfc9557`, the reader of the texts of RFC 9557 section 4.1, with `parse_rfc3339` and with `parse`.
use Rattle.std.specs.Prelude.{List, []}
use Rattle.ixdtf_grammar.specs.language.{Letters.Text, Brackets.Pair, Readers.{parse, parse_rfc9557, Reader.parse_rfc3339}}
use Rattle.ixdtf_grammar.specs.{language.Languages.{Parsed, Derives, Found.dated}, Handlers.{Reply, GivesRecord, UnhandledRecord}}

-- If `parse_rfc3339` derives a record from a text, then `parse_rfc9557` without a handler gives the same record for this text.
abbrev pub Rfc9557ReadsTheSame : Type 0
Rfc9557ReadsTheSame = (text : Text) (found : Parsed) → Derives parse_rfc3339 text (dated found) [] → UnhandledRecord parse_rfc9557 text found

-- If `parse_rfc9557` gives a record for a text and replies, then `parse` gives the same record for them.
abbrev pub ParseGivesTheSame : Type 0
ParseGivesTheSame = (text : Text) (pairs : List Pair) (replies : List Reply) (found : Parsed)
    → GivesRecord parse_rfc9557 text pairs replies found → GivesRecord parse text pairs replies found
