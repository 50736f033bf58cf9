-- Which records have a canonical text, and that they are read back from it.
use Rattle.std.specs.Prelude.{◌≡◌, ℕ}
use Rattle.ixdtf_grammar.specs.declared.records.IxdtfParseRecord.{IxdtfParseRecord}
use Rattle.ixdtf.specs.{Handlers.UnhandledRecord, Views.parsed_of, language.{Letters.Text, Languages.Parsed, Readers.parse}}
use Rattle.ixdtf_print.specs.Canonical.{canonical_text}

-- The record of a text of bytes. Its names are lists of the numbers of the bytes.
abbrev pub record_of : {T : Type 0} → IxdtfParseRecord T ℕ → Parsed
record_of parsed = parsed_of (λ byte. byte) parsed

-- `parse` returns the record for some text, with each annotation as its own reply.
abbrev pub IsPrintable : Parsed → Type 0
IsPrintable found = (text : Text) × UnhandledRecord parse text found

-- `parse` returns the record for its canonical text, and no other printable record has this canonical text.
pub record IsReadBack (found : Parsed) : Type 0 where
  pub same : UnhandledRecord parse (canonical_text found) found
  pub no_other_record : (other : Parsed) → IsPrintable other → canonical_text other ≡ canonical_text found → other ≡ found
