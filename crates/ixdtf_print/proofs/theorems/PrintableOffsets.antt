-- The offsets that have a text are those whose numbers are in their ranges, and the canonical text is one of these texts.
use Rattle.ixdtf_grammar.specs.declared.records.UtcOffsetRecordOrZ.TheVariants as stands
use Rattle.std.proofs.Common.{◌≡◌, ◌↔◌, Bool, IsTrue, map, inl, refl}
use Rattle.ixdtf_grammar.specs.declared.records.UtcOffsetRecord.{UtcOffsetRecord}
use Rattle.ixdtf.specs.language.{Letters.{Text, Letter.Plain}, Offsets.IsOffset, Readers.Reader.parse_offset, Languages.{Derives.as_shifted, Found.shifted}}
use Rattle.ixdtf_grammar.proofs.{parts.Classes.all_within, theorems.CoreEnds.in_signed, widths.PlainTexts.core_ascii}
use Rattle.ixdtf_print.specs.{Printing.{HasText, TestsText}, Shown.bytes_of, Spelled.IsShift}
use Rattle.ixdtf_print.specs.Offsets.{IsOffsetText, utc_offset_text, IsPrintableOffset, IsOffsetReadBack, OffsetFits, OffsetIsReadBack}
use Rattle.ixdtf_print.proofs.{parts.DerivedTimes.of_offset, theorems.ReadBack.is_utc_offset, theorems.DisplayedText.shown_as_it_is}
use Rattle.ixdtf_print.proofs.theorems.OneTexts.{StandsForOne, one_found, has_one_text, tests_text}

derived : (text : Text) (offset : UtcOffsetRecord) → IsOffsetText text offset → IsOffset text offset
derived text offset (as_shifted h) = h

one_offset : StandsForOne IsOffsetText
one_offset text a b p q = let same = one_found parse_offset text (shifted a) (shifted b) p q in cc

spelled : (offset : UtcOffsetRecord) → HasText IsOffsetText offset → IsShift (stands.Offset offset)
spelled offset h = (of_offset h.0 (stands.Offset offset) (inl (offset, derived h.0 offset h.1, refl))).0

is_text : (offset : UtcOffsetRecord) → IsShift (stands.Offset offset) → IsOffsetText (utc_offset_text offset) offset
is_text offset s = as_shifted (is_utc_offset offset s)

pub printable_offset : (offset : UtcOffsetRecord) → IsPrintableOffset offset ↔ IsShift (stands.Offset offset)
printable_offset offset = (spelled offset, λ s. (utc_offset_text offset, is_text offset s))

pub offset_is_read_back : OffsetIsReadBack
offset_is_read_back = has_one_text one_offset (λ found h. is_text found (spelled found h))

pub offset_fits : OffsetFits
offset_fits text offset h = (of_offset text (stands.Offset offset) (inl (offset, derived text offset h, refl))).1

offset_is_shown : (offset : UtcOffsetRecord) → IsPrintableOffset offset → map Plain (bytes_of (utc_offset_text offset)) ≡ utc_offset_text offset
offset_is_shown offset h =
    let is = is_utc_offset offset (spelled offset h) in
    shown_as_it_is (utc_offset_text offset) (all_within core_ascii (utc_offset_text offset) (in_signed _ _ (utc_offset_text offset) offset is))

-- A test of the numbers tells which offsets are printable.
pub tests_offset : {test : Bool} (offset : UtcOffsetRecord) → IsTrue test ↔ IsShift (stands.Offset offset)
    → TestsText test (IsPrintableOffset offset) (IsOffsetReadBack offset) (utc_offset_text offset)
tests_offset offset = tests_text (printable_offset offset) (offset_is_shown offset) (offset_is_read_back offset)
