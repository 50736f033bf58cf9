-- The canonical text of an offset: of the texts for which `parse_offset` returns it, the one that is printed.
use Rattle.ixdtf_grammar.specs.declared.records.UtcOffsetRecordOrZ.TheVariants as stands
use Rattle.std.specs.Prelude.{[], Some}
use Rattle.ixdtf_grammar.specs.declared.records.UtcOffsetRecord.{UtcOffsetRecord}
use Rattle.ixdtf.specs.language.{Letters.Text, Languages.{Derives, Found.shifted}, Readers.Reader.parse_offset}
use Rattle.ixdtf_print.specs.{Canonical.offset_text, Printing.{HasText, HasOneText, EachIsReadBack, FitsWithin}}

-- `parse_offset` returns the offset for the text.
abbrev pub IsOffsetText : Text → UtcOffsetRecord → Type 0
IsOffsetText text offset = Derives parse_offset text (shifted offset) []

-- The text is a sign and the numbers, with the seconds if the offset was read with seconds. After a time, an offset has the same
-- text.
abbrev pub utc_offset_text : UtcOffsetRecord → Text
utc_offset_text offset = offset_text (Some (stands.Offset offset))

-- `parse_offset` returns the offset for some text.
abbrev pub IsPrintableOffset : UtcOffsetRecord → Type 0
IsPrintableOffset offset = HasText IsOffsetText offset

-- `parse_offset` returns the offset for its canonical text, which is that of no other offset.
abbrev pub IsOffsetReadBack : UtcOffsetRecord → Type 0
IsOffsetReadBack offset = HasOneText IsOffsetText utc_offset_text offset

-- The canonical text of an offset has at most 3 code units more than each text for which `parse_offset` returns the offset.
abbrev pub OffsetFits : Type 0
OffsetFits = FitsWithin 3 IsOffsetText utc_offset_text

abbrev pub OffsetIsReadBack : Type 0
OffsetIsReadBack = EachIsReadBack IsOffsetText utc_offset_text
