-- The zones that have a text are the names and the offsets whose numbers are in their ranges, and the canonical text is one of
-- these texts.
use Rattle.std.proofs.Common.{◌≡◌, ◌↔◌, Bool, IsTrue, false, [], ◌∷◌, ◌++◌, map, Some, refl, sym, append-nil}
use Rattle.ixdtf.specs.language.{Letters.{Text, Class, Letter.Plain}, ZoneNames.{Zone, IsZone}, Brackets.ZoneNote, Readers.Reader.parse_identifier}
use Rattle.ixdtf.specs.language.Languages.{Derives.as_identified, Found.identified}
use Rattle.ixdtf_grammar.proofs.{parts.Classes.{ascii, AllOf}, widths.PlainTexts.tail_ascii}
use Rattle.ixdtf_print.specs.{Canonical.{zone_text, bracket_text}, Printing.{HasText, TestsText}, Shown.bytes_of, Spelled.IsZoneText}
use Rattle.ixdtf_print.specs.Zones.{IsIdentifier, IsPrintableZone, IsZoneReadBack, ZoneFits, ZoneIsReadBack}
use Rattle.ixdtf_print.proofs.{parts.DerivedTimes.of_zone, theorems.ReadBack.{is_zone, is_bracket}, theorems.DisplayedText.shown_as_it_is}
use Rattle.ixdtf_print.proofs.theorems.OneTexts.{StandsForOne, one_found, has_one_text, tests_text}

derived : (text : Text) (zone : Zone) → IsIdentifier text zone → IsZone text zone
derived text zone (as_identified h) = h

one_zone : StandsForOne IsIdentifier
one_zone text a b p q = let same = one_found parse_identifier text (identified a) (identified b) p q in cc

spelled : (zone : Zone) → HasText IsIdentifier zone → IsZoneText zone
spelled zone h = (of_zone h.0 zone (derived h.0 zone h.1)).0

is_text : (zone : Zone) → IsZoneText zone → IsIdentifier (zone_text zone) zone
is_text zone s = as_identified (is_zone zone s)

pub printable_zone : (zone : Zone) → IsPrintableZone zone ↔ IsZoneText zone
printable_zone zone = (spelled zone, λ s. (zone_text zone, is_text zone s))

pub zone_is_read_back : ZoneIsReadBack
zone_is_read_back = has_one_text one_zone (λ found h. is_text found (spelled found h))

pub zone_fits : ZoneFits
zone_fits text zone h = (of_zone text zone (derived text zone h)).1

-- ---- display

all_front : (class : Class) (a b : Text) → AllOf class (a ++ b) → AllOf class a
all_front class [] b h = tt
all_front class (c ∷ a) b h = (h.0, all_front class a b h.1)

-- A zone has the same text as in its bracket, so it is ASCII.
zone_ascii : (zone : Zone) → IsZoneText zone → AllOf ascii (zone_text zone)
zone_ascii zone h =
    let note : ZoneNote = record { critical = false; zone = zone } in
    let whole = tail_ascii false (bracket_text (Some note)) (Some note) [] (bracket_text (Some note), [], sym (append-nil (bracket_text (Some note))), is_bracket (Some note) h, refl) in
    all_front ascii (zone_text zone) (Plain 93 ∷ []) whole.1

zone_is_shown : (zone : Zone) → IsPrintableZone zone → map Plain (bytes_of (zone_text zone)) ≡ zone_text zone
zone_is_shown zone h = shown_as_it_is (zone_text zone) (zone_ascii zone (spelled zone h))

-- A test of the name or of the numbers tells which zones are printable.
pub tests_zone : {test : Bool} (zone : Zone) → IsTrue test ↔ IsZoneText zone
    → TestsText test (IsPrintableZone zone) (IsZoneReadBack zone) (zone_text zone)
tests_zone zone = tests_text (printable_zone zone) (zone_is_shown zone) (zone_is_read_back zone)
