-- Computes for 16-bit and 8-bit texts which characters their code units stand for, and the outcomes of these texts.
use Rattle.std.proofs.Common.{◌≡◌, ℕ, List, [], ◌∷◌, ◌++◌, map, codes, false, None, pos, refl}
use Rattle.ixdtf_grammar.specs.declared.profile.Profile.{Profile}
use Rattle.ixdtf_grammar.specs.declared.profile.Profile.TheVariants.{Crate, Strict}
use Rattle.ixdtf.specs.language.Letters.{Text, byte_letter, wide_letter}
use Rattle.ixdtf.specs.language.Letters.Letter.{Plain, Bad}
use Rattle.ixdtf.specs.language.Readers.{parse}
use Rattle.ixdtf.specs.language.Durations.Half.{time}
use Rattle.ixdtf.specs.language.Readers.Reader.{parse_iana_identifier, parse_duration}
use Rattle.ixdtf.specs.table.Faults.Fault.{NonAsciiCodePoint, InvalidEnd, InvalidMonthRange, IanaChar, AnnotationValueChar, DurationValueExceededRange}
use Rattle.ixdtf.specs.table.LineNames.LineName.{of_zone, of_pair, of_bracket, of_duration}
use Rattle.ixdtf.specs.table.LineNames.{of_date}
use Rattle.ixdtf.specs.table.LineNames.DateLine.{year_start, month_range, after_date}
use Rattle.ixdtf.specs.table.LineNames.ZoneLine.{in_zone_name}
use Rattle.ixdtf.specs.table.LineNames.PairLine.{value_start}
use Rattle.ixdtf.specs.table.LineNames.BracketLine.{first_bracket_scan}
use Rattle.ixdtf.specs.table.LineNames.DurationLine.{after_date_groups, group_value_range, after_fraction_group}
use Rattle.ixdtf.specs.table.Rows.Place.{other, bad, anywhere}
use Rattle.ixdtf_reading.specs.reading.Dates.{date_of}
use Rattle.ixdtf_tests.proofs.Helpers.{text_of, all_readings, zone_named, with, Compute, stops}

abbrev wide : List ℕ → Text
wide units = map wide_letter units

abbrev narrow : List ℕ → Text
narrow units = map byte_letter units

-- A 16-bit code unit is `Plain` only if it is from 1 to 126.
wide_units : wide (0 ∷ 1 ∷ 50 ∷ 126 ∷ 127 ∷ 128 ∷ 306 ∷ 65535 ∷ []) ≡ Bad ∷ Plain 1 ∷ Plain 50 ∷ Plain 126 ∷ Bad ∷ Bad ∷ Bad ∷ Bad ∷ []
wide_units = refl

wide_texts : Compute parse (
    (wide (codes "2020-04-08[America/Chicago]"), with (date_of (pos 2020) 4 8) None None (zone_named false (codes "America/Chicago")))
    ∷ (wide (codes "2020-01-01[cet!" ++ 233 ∷ codes "]"), stops (of_bracket first_bracket_scan) (bad ((Bad ∷ []) ++ text_of (codes "]"))) NonAsciiCodePoint)
    ∷ (wide (codes "2020-01-01[A!" ++ 233 ∷ codes "]"), stops (of_zone in_zone_name) (other (text_of (codes "!") ++ (Bad ∷ []) ++ text_of (codes "]"))) IanaChar)
    ∷ (wide (codes "2020-01-01[a=!" ++ 233 ∷ codes "]"), stops (of_pair value_start) (other (text_of (codes "!") ++ (Bad ∷ []) ++ text_of (codes "]"))) AnnotationValueChar)
    ∷ (wide (codes "2020-13-01" ++ 233 ∷ []), stops (of_date month_range) (anywhere (text_of (codes "-01") ++ (Bad ∷ []))) InvalidMonthRange)
    ∷ (wide (codes "2020-01-01" ++ 233 ∷ []), stops (of_date after_date) (bad (Bad ∷ [])) NonAsciiCodePoint)
    ∷ (wide (codes "2020-01-01" ++ 127 ∷ []), stops (of_date after_date) (bad (Bad ∷ [])) NonAsciiCodePoint)
    ∷ (wide (306 ∷ codes "020-01-01"), stops (of_date year_start) (bad ((Bad ∷ []) ++ text_of (codes "020-01-01"))) NonAsciiCodePoint)
    ∷ [])
unfolding all_readings
wide_texts = refl

-- An 8-bit code unit that is not ASCII is in no character class.
narrow_texts : Compute parse (
    (narrow (codes "2020-01-01[cet!" ++ 128 ∷ codes "]"), stops (of_zone in_zone_name) (other (text_of (codes "!" ++ (128 ∷ []) ++ codes "]"))) IanaChar)
    ∷ (narrow (codes "2020-01-01" ++ 195 ∷ 169 ∷ []), stops (of_date after_date) (other (text_of (195 ∷ 169 ∷ []))) InvalidEnd)
    ∷ [])
unfolding all_readings
narrow_texts = refl

wide_names : Compute parse_iana_identifier ((wide (codes "UTC" ++ 233 ∷ []), stops (of_zone in_zone_name) (bad (Bad ∷ [])) NonAsciiCodePoint) ∷ [])
unfolding all_readings
wide_names = refl

wide_durations : (profile : Profile) → Compute (parse_duration profile) (
    (wide (codes "P1Y" ++ 128 ∷ []), stops (of_duration profile after_date_groups) (bad (Bad ∷ [])) NonAsciiCodePoint)
    ∷ (wide (codes "PT1.5H" ++ 128 ∷ []), stops (of_duration profile after_fraction_group) (bad (Bad ∷ [])) NonAsciiCodePoint)
    ∷ (wide (codes "PT99999999999999999999" ++ 128 ∷ []), stops (of_duration profile (group_value_range time)) (anywhere (Bad ∷ [])) DurationValueExceededRange)
    ∷ [])
unfolding all_readings
wide_durations Crate = refl
wide_durations Strict = refl
