-- Computes the outcomes of texts with a first bracket, and the rows of the table lines of brackets.
use Rattle.ixdtf.specs.language.Letters.Letter.{Bad}
use Rattle.ixdtf.specs.table.Rows.{other}
use Rattle.std.proofs.Common.{true, false, List, [], ◌∷◌, ◌++◌, map, codes, Some, None, refl}
use Rattle.ixdtf_grammar.specs.declared.records.Sign.TheVariants.{Negative}
use Rattle.ixdtf_grammar.specs.declared.records.UtcOffsetRecord.TheVariants.{MinutePrecision}
use Rattle.ixdtf_grammar.specs.declared.records.UtcOffsetRecordOrZ.TheVariants.{Offset, Z}
use Rattle.ixdtf.specs.language.Times.Clock.{MinuteOffset}
use Rattle.ixdtf.specs.language.Readers.{parse}
use Rattle.ixdtf.specs.table.Faults.Fault.{NonAsciiCodePoint, InvalidEnd, TzLeadingChar, TimeHour, IanaChar, AnnotationValueChar, AnnotationKeyChar}
use Rattle.ixdtf.specs.table.LineNames.LineName.{of_bracket, of_clock, of_zone, of_pair}
use Rattle.ixdtf.specs.table.LineNames.ClockLine.{hour_start}
use Rattle.ixdtf.specs.table.LineNames.ZoneLine.{in_zone_name}
use Rattle.ixdtf.specs.table.LineNames.PairLine.{in_key, value_start}
use Rattle.ixdtf.specs.table.LineNames.BracketLine.{first_bracket_start, first_critical_start, first_bracket_scan, after_bracket}
use Rattle.ixdtf.specs.table.Lines.{abrupt_bracket}
use Rattle.ixdtf.specs.table.Rows.Place.{bad}
use Rattle.ixdtf_tests.proofs.Helpers.{all_readings, text_of, and_bad, morning, zone_named, tagged, annotated, Example, Compute, gives, ends, goes_off, goes_off_before_bad}
use Rattle.ixdtf_tests.proofs.Helpers.{meets_bad, stops, stops_after, two, three, ShowEachRow}

-- ---- each row of the lines of brackets

-- After the prefix of `first_bracket_scan`, every code unit may follow. So this line has no row for another code unit.
abbrev bracket_rows : List Example
bracket_rows =
    three (of_bracket first_bracket_start) (codes "2020-01-01[") abrupt_bracket (codes "]") TzLeadingChar
    ++ three (of_bracket first_critical_start) (codes "2020-01-01[!") abrupt_bracket (codes "!") TzLeadingChar
    ++ ends (of_bracket first_bracket_scan) abrupt_bracket (codes "2020-01-01[cet")
    ∷ meets_bad (of_bracket first_bracket_scan) (codes "2020-01-01[cet")
    ∷ two (of_bracket after_bracket) (codes "2020-01-01[UTC]") (codes "x") InvalidEnd

each_row_of_brackets : ShowEachRow parse
    (of_bracket first_bracket_start ∷ of_bracket first_critical_start ∷ of_bracket first_bracket_scan ∷ of_bracket after_bracket ∷ [])
    bracket_rows
unfolding all_readings
each_row_of_brackets = (refl, refl)

-- ---- a time, an offset and a first bracket

brackets : Compute parse (
    gives (codes "2020-01-01[cet]") (annotated (zone_named false (codes "cet")) [])
    ∷ gives (codes "2024-03-02T08:48:00-05:00[America/New_York]")
    (morning (Some (Offset (MinutePrecision (record { sign = Negative; hour = 5; minute = 0 })))) (zone_named false (codes "America/New_York")))
    ∷ gives (codes "2024-03-02T08:48:00Z[!America/New_York]") (morning (Some Z) (zone_named true (codes "America/New_York")))
    ∷ gives (codes "2020-01-01[u=u]") (annotated None (tagged false (codes "u") (codes "u") ∷ []))
    ∷ [])
unfolding all_readings
brackets = refl

-- ---- texts in which a bracket has an error, and whether a first bracket is a zone or an annotation

no_bracket : Compute parse (
    map (goes_off (of_bracket first_critical_start) TzLeadingChar) (codes "2020-01-01[!|]" ∷ codes "2020-01-01[!|!UTC]" ∷ [])
    ++ map (goes_off (of_bracket first_bracket_start) TzLeadingChar) (codes "2020-01-01[|1]" ∷ codes "2020-01-01[|=a]" ∷ [])
    ++ (goes_off (of_clock MinuteOffset hour_start) TimeHour (codes "2020-01-01[+|]") ∷ [])
    ++ goes_off (of_bracket after_bracket) InvalidEnd (codes "2020-01-01T00:00:00+00:00[UTC]|junk") ∷ []
    -- These brackets begin like a key. No `=` and no `]` comes before the end, or before a bad code unit.
    ++ map (ends (of_bracket first_bracket_scan) abrupt_bracket) (codes "2020-01-01[!cet" ∷ codes "2020-01-01[a!" ∷ [])
    ++ map (meets_bad (of_bracket first_bracket_scan)) (codes "2020-01-01[a!" ∷ codes "2020-01-01[!a" ∷ [])
    ++ (and_bad (codes "2020-01-01[cet!") ++ text_of (codes "]"), stops (of_bracket first_bracket_scan) (bad ((Bad ∷ []) ++ text_of (codes "]"))) NonAsciiCodePoint)
    ∷ (and_bad (codes "2020-01-01[a") ++ text_of (codes "=b]"), stops (of_bracket first_bracket_scan) (bad ((Bad ∷ []) ++ text_of (codes "=b]"))) NonAsciiCodePoint) ∷ []
    -- If a `]` comes first, the bracket is a name. If a `=` comes first, it is a key.
    ++ (goes_off (of_zone in_zone_name) IanaChar (codes "2020-01-01[a|!]=") ∷ [])
    ++ (goes_off (of_pair in_key) AnnotationKeyChar (codes "2020-01-01[a|!=]") ∷ [])
    ++ map (goes_off_before_bad (of_zone in_zone_name) IanaChar) (codes "2020-01-01[a|!]" ∷ codes "2020-01-01[A|!" ∷ [])
    ++ goes_off_before_bad (of_pair value_start) AnnotationValueChar (codes "2020-01-01[a=|!") ∷ [])
unfolding all_readings
no_bracket = refl

-- The error is after a bracket with an annotation.
after_a_pair : Compute parse (
    (text_of (codes "2020-01-01[a=b]junk"), stops_after (tagged false (codes "a") (codes "b") ∷ []) (of_bracket after_bracket) (other (text_of (codes "junk"))) InvalidEnd)
    ∷ (and_bad (codes "2020-01-01[a=b]"), stops_after (tagged false (codes "a") (codes "b") ∷ []) (of_bracket after_bracket) (bad (Bad ∷ [])) NonAsciiCodePoint)
    ∷ [])
unfolding all_readings
after_a_pair = refl
