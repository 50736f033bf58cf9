-- Computes the outcomes of names of time zones, and the rows of their table lines.
use Rattle.std.proofs.Common.{ℕ, true, false, List, [], ◌∷◌, ◌++◌, map, codes, None, refl}
use Rattle.ixdtf.specs.language.ZoneNames.Zone.{Name}
use Rattle.ixdtf.specs.language.Readers.{parse}
use Rattle.ixdtf.specs.language.Readers.Reader.{parse_identifier, parse_iana_identifier}
use Rattle.ixdtf.specs.language.Languages.Found.{identified, named}
use Rattle.ixdtf.specs.table.Faults.{Fault}
use Rattle.ixdtf.specs.table.Faults.Fault.{InvalidEnd, TzLeadingChar, IanaChar, IanaCharPostSeparator, AnnotationClose}
use Rattle.ixdtf.specs.table.LineNames.{LineName, ZoneLine}
use Rattle.ixdtf.specs.table.LineNames.LineName.{of_zone}
use Rattle.ixdtf.specs.table.LineNames.ZoneLine.{identifier_start, zone_name_start, in_zone_name, after_zone_slash}
use Rattle.ixdtf.specs.table.Lines.{abrupt_zone}
use Rattle.ixdtf.specs.table.Outcomes.Outcome.{derived}
use Rattle.ixdtf_tests.proofs.Helpers.{all_readings, new_years_day, with, zone_named, Example, Compute, gives, ends, goes_off, two, three, cut_off}
use Rattle.ixdtf_tests.proofs.Helpers.{ShowEachRow}

-- ---- each row in `parse_identifier` and in `parse_iana_identifier`

-- These are the rows of a name: at its beginning, in it, and after a slash. The error at its beginning, for the end of the text and
-- for another code unit, is given.
abbrev name_rows : ZoneLine → Fault → List ℕ → List ℕ → List Example
name_rows start at_end letter slash =
    three (of_zone start) [] at_end letter TzLeadingChar
    ++ two (of_zone in_zone_name) (codes "UTC") (codes "!") IanaChar
    ++ three (of_zone after_zone_slash) slash IanaCharPostSeparator (codes "/") IanaCharPostSeparator

abbrev name_lines : ZoneLine → List LineName
name_lines start = map of_zone (start ∷ in_zone_name ∷ after_zone_slash ∷ [])

each_row_of_identifiers : ShowEachRow parse_identifier (name_lines identifier_start) (name_rows identifier_start abrupt_zone (codes "1") (codes "UTC/"))
unfolding all_readings
each_row_of_identifiers = (refl, refl)

each_row_of_names : ShowEachRow parse_iana_identifier (name_lines zone_name_start) (name_rows zone_name_start TzLeadingChar (codes "+") (codes "America/"))
unfolding all_readings
each_row_of_names = (refl, refl)

-- ---- each row in a bracket, for a name that cannot begin a key

each_row_in_brackets : ShowEachRow parse (of_zone in_zone_name ∷ of_zone after_zone_slash ∷ []) (
    three (of_zone in_zone_name) (codes "2020-04-08[Amer") AnnotationClose (codes "!") IanaChar
    ++ three (of_zone after_zone_slash) (codes "2020-04-08[America/") IanaCharPostSeparator (codes "]") IanaCharPostSeparator)
unfolding all_readings
each_row_in_brackets = (refl, refl)

-- ---- names

names : Compute parse_iana_identifier (
    gives (codes "Europe/Berlin") (derived (named (codes "Europe/Berlin")) [])
    ∷ gives (codes "UTC") (derived (named (codes "UTC")) [])
    ∷ gives (codes "_x") (derived (named (codes "_x")) [])
    ∷ gives (codes ".") (derived (named (codes ".")) [])
    ∷ gives (codes "Etc/GMT+5") (derived (named (codes "Etc/GMT+5")) [])
    ∷ gives (codes "a/-1") (derived (named (codes "a/-1")) [])
    -- These texts are not names.
    ∷ map (goes_off (of_zone zone_name_start) TzLeadingChar) (codes "|+05:00" ∷ codes "|1UTC" ∷ [])
    -- This text has `é` in UTF-8.
    ++ (goes_off (of_zone zone_name_start) TzLeadingChar (codes "|" ++ 195 ∷ 169 ∷ []) ∷ [])
    ++ (goes_off (of_zone in_zone_name) InvalidEnd (codes "UTC|]") ∷ [])
    ++ (goes_off (of_zone in_zone_name) IanaChar (codes "UTC|=x") ∷ [])
    ++ goes_off (of_zone after_zone_slash) IanaCharPostSeparator (codes "America/|/Chicago") ∷ [])
unfolding all_readings
names = refl

identifiers : Compute parse_identifier (
    gives (codes "u") (derived (identified (Name (codes "u"))) [])
    ∷ gives (codes "America/Argentina/Buenos_Aires") (derived (identified (Name (codes "America/Argentina/Buenos_Aires"))) [])
    -- These texts are not names.
    ∷ (goes_off (of_zone identifier_start) TzLeadingChar (codes "|1UTC") ∷ [])
    ++ map (goes_off (of_zone in_zone_name) InvalidEnd) (codes "UTC|]" ∷ codes "a/b|]" ∷ [])
    ++ (goes_off (of_zone in_zone_name) IanaChar (codes "UTC|=x") ∷ [])
    ++ ends (of_zone after_zone_slash) IanaCharPostSeparator (codes "America/") ∷ [])
unfolding all_readings
identifiers = refl

names_in_brackets : Compute parse (
    gives (codes "2020-01-01[America/Chicago]") (with new_years_day None None (zone_named false (codes "America/Chicago")))
    ∷ gives (codes "2020-01-01[!America/Chicago]") (with new_years_day None None (zone_named true (codes "America/Chicago")))
    ∷ gives (codes "2020-01-01[asia/kolkata]") (with new_years_day None None (zone_named false (codes "asia/kolkata")))
    ∷ gives (codes "2020-01-01[!cet]") (with new_years_day None None (zone_named true (codes "cet")))
    ∷ gives (codes "2020-01-01[.x]") (with new_years_day None None (zone_named false (codes ".x")))
    -- These texts are not names.
    ∷ map (goes_off (of_zone in_zone_name) IanaChar) (codes "2020-04-08[America/Chicago|)" ∷ codes "2020-01-01[UTC|=x]" ∷ codes "2020-01-01[A|=b]" ∷ [])
    ++ (goes_off (of_zone in_zone_name) IanaChar (codes "2020-01-01[A|!" ++ 128 ∷ []) ∷ [])
    ++ map (goes_off (of_zone after_zone_slash) IanaCharPostSeparator) (codes "2020-04-08[America/| Chicago)" ∷ codes "2020-01-01[America/|/Chicago]" ∷ [])
    ++ cut_off (of_zone in_zone_name) AnnotationClose (codes "2020-01-01[!UTC" ∷ [])
    -- This name begins like a key. A `]` comes before any `=`, the end, and any bad code unit. So the rows for the last two fit no
    -- text.
    ++ (goes_off (of_zone in_zone_name) IanaChar (codes "2020-01-01[cet|!]") ∷ [])
    ++ map (goes_off (of_zone after_zone_slash) IanaCharPostSeparator) (codes "2020-01-01[_x/|]" ∷ codes "2020-01-01[a/|/b]" ∷ [])
    -- This text has 128, which is not ASCII. The definition `mask` replaces a bad code unit by 128.
    ++ goes_off (of_zone in_zone_name) IanaChar (codes "2020-01-01[cet|!" ++ (128 ∷ []) ++ codes "]") ∷ [])
unfolding all_readings
names_in_brackets = refl
