-- Computes the outcomes of texts with annotations, and the rows of the table lines of annotations.
use Rattle.std.proofs.Common.{true, false, List, [], ◌∷◌, ◌++◌, map, codes, None, refl}
use Rattle.ixdtf.specs.language.Brackets.{Pair}
use Rattle.ixdtf.specs.language.Readers.{parse}
use Rattle.ixdtf.specs.table.Faults.Fault.{AnnotationClose, AnnotationKeyLeadingChar, AnnotationKeyChar, AnnotationKeyValueSeparator, AnnotationValueChar}
use Rattle.ixdtf.specs.table.Faults.Fault.{AnnotationValueCharPostHyphen}
use Rattle.ixdtf.specs.table.LineNames.{LineName}
use Rattle.ixdtf.specs.table.LineNames.LineName.{of_pair}
use Rattle.ixdtf.specs.table.LineNames.PairLine.{key_start, critical_key_start, in_key, value_start, in_value, after_value_hyphen}
use Rattle.ixdtf_tests.proofs.Helpers.{all_readings, zone_named, tagged, annotated, Example, Compute, gives, ends, goes_off, three, three_after, cut_off}
use Rattle.ixdtf_tests.proofs.Helpers.{ShowEachRow}

abbrev pair_lines : List LineName
pair_lines = map of_pair (key_start ∷ critical_key_start ∷ in_key ∷ value_start ∷ in_value ∷ after_value_hyphen ∷ [])

-- ---- each row in a bracket after a zone

abbrev rows_after_a_zone : List Example
rows_after_a_zone =
    three (of_pair key_start) (codes "2020-01-01[UTC][") AnnotationKeyLeadingChar (codes "E") AnnotationKeyLeadingChar
    ++ three (of_pair critical_key_start) (codes "2020-01-01[UTC][!") AnnotationKeyLeadingChar (codes "!") AnnotationKeyLeadingChar
    ++ three (of_pair in_key) (codes "2020-01-01[UTC][u-ca") AnnotationKeyValueSeparator (codes "]") AnnotationKeyChar
    ++ three (of_pair value_start) (codes "2020-01-01[UTC][u-ca=") AnnotationValueChar (codes "]") AnnotationValueChar
    ++ three (of_pair in_value) (codes "2020-01-01[UTC][u-ca=a") AnnotationClose (codes ")") AnnotationValueChar
    ++ three (of_pair after_value_hyphen) (codes "2020-01-01[UTC][u-ca=a-") AnnotationValueCharPostHyphen (codes "]") AnnotationValueCharPostHyphen

each_row_after_a_zone : ShowEachRow parse pair_lines rows_after_a_zone
unfolding all_readings
each_row_after_a_zone = (refl, refl)

-- ---- each row in a bracket after an annotation, which is complete before it

abbrev one_pair : List Pair
one_pair = tagged false (codes "a") (codes "b") ∷ []

abbrev rows_after_a_pair : List Example
rows_after_a_pair =
    three_after one_pair (of_pair key_start) (codes "2020-01-01[a=b][") AnnotationKeyLeadingChar (codes "E") AnnotationKeyLeadingChar
    ++ three_after one_pair (of_pair critical_key_start) (codes "2020-01-01[a=b][!") AnnotationKeyLeadingChar (codes "!") AnnotationKeyLeadingChar
    ++ three_after one_pair (of_pair in_key) (codes "2020-01-01[a=b][u") AnnotationKeyValueSeparator (codes "]") AnnotationKeyChar
    ++ three_after one_pair (of_pair value_start) (codes "2020-01-01[a=b][u=") AnnotationValueChar (codes "-") AnnotationValueChar
    ++ three_after one_pair (of_pair in_value) (codes "2020-01-01[a=b][u=a") AnnotationClose (codes "_") AnnotationValueChar
    ++ three_after one_pair (of_pair after_value_hyphen) (codes "2020-01-01[a=b][u=a-") AnnotationValueCharPostHyphen (codes "-") AnnotationValueCharPostHyphen

each_row_after_a_pair : ShowEachRow parse pair_lines rows_after_a_pair
unfolding all_readings
each_row_after_a_pair = (refl, refl)

-- ---- each row in a first bracket

-- The first bracket begins with the lines of brackets. If it begins like a key, it is a key only if a `=` comes before any `]`, the
-- end, and any bad code unit. So the rows of `in_key` for the end and for a bad code unit fit no text.
abbrev rows_in_a_first_bracket : List Example
rows_in_a_first_bracket =
    three (of_pair value_start) (codes "2020-01-01[a=") AnnotationValueChar (codes "]") AnnotationValueChar
    ++ three (of_pair in_value) (codes "2020-01-01[a=b") AnnotationClose (codes ")") AnnotationValueChar
    ++ three (of_pair after_value_hyphen) (codes "2020-01-01[a=b-") AnnotationValueCharPostHyphen (codes "]") AnnotationValueCharPostHyphen

each_row_in_a_first_bracket : ShowEachRow parse (map of_pair (value_start ∷ in_value ∷ after_value_hyphen ∷ [])) rows_in_a_first_bracket
unfolding all_readings
each_row_in_a_first_bracket = (refl, refl)

-- ---- annotations

pairs : Compute parse (
    gives (codes "2020-01-01[a=b][!u-ca=a-1]") (annotated None (tagged false (codes "a") (codes "b") ∷ tagged true (codes "u-ca") (codes "a-1") ∷ []))
    ∷ gives (codes "2020-01-01[!_=Z]") (annotated None (tagged true (codes "_") (codes "Z") ∷ []))
    ∷ gives (codes "2020-01-01[u][u=u]") (annotated (zone_named false (codes "u")) (tagged false (codes "u") (codes "u") ∷ []))
    ∷ gives (codes "2020-01-01[!u-ca=iso8601][f-1a2b=a0sa-2l4s]")
    (annotated None (tagged true (codes "u-ca") (codes "iso8601") ∷ tagged false (codes "f-1a2b") (codes "a0sa-2l4s") ∷ []))
    ∷ gives (codes "2020-01-01[u-ca=a-bc-d]") (annotated None (tagged false (codes "u-ca") (codes "a-bc-d") ∷ []))
    ∷ [])
unfolding all_readings
pairs = refl

-- ---- texts in which an annotation has an error

no_pair : Compute parse (
    (goes_off (of_pair in_value) AnnotationValueChar (codes "2020-01-01[u-ca=iso8601|)") ∷ [])
    ++ (goes_off (of_pair value_start) AnnotationValueChar (codes "2020-01-01[u-ca=|-iso]") ∷ [])
    ++ map (goes_off (of_pair after_value_hyphen) AnnotationValueCharPostHyphen) (codes "2020-01-01[u-ca=iso-|]" ∷ codes "2020-01-01[u-ca=iso-|-8601]" ∷ [])
    ++ map (goes_off (of_pair key_start) AnnotationKeyLeadingChar) (codes "2020-01-01[u][|Europe/London]" ∷ codes "2020-01-01[u][|]" ∷ [])
    ++ (goes_off (of_pair critical_key_start) AnnotationKeyLeadingChar (codes "2020-01-01[u][!|]") ∷ [])
    ++ (ends (of_pair in_key) AnnotationKeyValueSeparator (codes "2020-01-01[u][a-1") ∷ [])
    ++ cut_off (of_pair in_value) AnnotationClose (codes "2020-01-01[a=b-c" ∷ [])
    -- The error is in a first bracket.
    ++ map (goes_off (of_pair in_key) AnnotationKeyChar) (codes "2020-01-01[u-c|A=iso8601]" ∷ codes "2020-01-01[_|!=]" ∷ codes "2020-01-01[!a|/b=c]" ∷ []))
unfolding all_readings
no_pair = refl
