-- Laws about canonical texts.
use Rattle.std.specs.Prelude.{◌≤◌, ◌+◌, length}
use Rattle.ixdtf.specs.{Handlers.UnhandledRecord, language.{Letters.Text, Languages.Parsed, Readers.{parse, parse_rfc9557}}}
use Rattle.ixdtf_print.specs.{Canonical.canonical_text, Printable.{IsPrintable, IsReadBack}, Printing.EachIsReadBack}

-- If `parse` returns a record for a text, with each annotation as its own reply, the canonical text of the record has at most
-- 14 code units more than the text.
abbrev pub CanonicalFits : Type 0
CanonicalFits = (text : Text) (found : Parsed) → UnhandledRecord parse text found → length (canonical_text found) ≤ length text + 14

-- Each printable record is read back from its canonical text, which is that of no other printable record.
abbrev pub CanonicalIsReadBack : Type 0
CanonicalIsReadBack = (found : Parsed) → IsPrintable found → IsReadBack found

-- If `parse_rfc9557` returns a record for some text, with each annotation as its own reply, it also returns the record for the
-- canonical text of the record.
abbrev pub Rfc9557IsReadBack : Type 0
Rfc9557IsReadBack = EachIsReadBack (UnhandledRecord parse_rfc9557) canonical_text
