-- Computes the outcomes of durations, and the rows of their table lines.
use Rattle.std.proofs.Common.{ℕ, List, [], ◌∷◌, ◌++◌, map, codes, Option, Some, None, refl}
use Rattle.ixdtf_grammar.specs.declared.profile.Profile.{Profile}
use Rattle.ixdtf_grammar.specs.declared.profile.Profile.TheVariants.{Crate, Strict}
use Rattle.ixdtf_grammar.specs.declared.records.DateDurationRecord.{DateDurationRecord}
use Rattle.ixdtf_grammar.specs.declared.records.Sign.{Sign}
use Rattle.ixdtf_grammar.specs.declared.records.Sign.TheVariants.{Positive, Negative}
use Rattle.ixdtf_grammar.specs.declared.records.TimeDurationRecord.{TimeDurationRecord}
use Rattle.ixdtf_grammar.specs.declared.records.TimeDurationRecord.TheVariants.{Hours, Minutes, Seconds}
use Rattle.ixdtf.specs.language.Durations.Half.{date, time}
use Rattle.ixdtf.specs.language.Fractions.{FractionParts}
use Rattle.ixdtf.specs.language.Languages.Found.{lasting}
use Rattle.ixdtf.specs.language.Readers.Reader.{parse_duration}
use Rattle.ixdtf.specs.table.Faults.Fault.{InvalidEnd, FractionPart, DurationDisgnator, DurationValueExceededRange, DateDurationPartOrder}
use Rattle.ixdtf.specs.table.Faults.Fault.{TimeDurationPartOrder, TimeDurationDesignator}
use Rattle.ixdtf.specs.table.LineNames.{LineName}
use Rattle.ixdtf.specs.table.LineNames.LineName.{of_duration}
use Rattle.ixdtf.specs.table.LineNames.DurationLine.{duration_start, after_duration_sign, after_duration_designator, after_date_groups, after_time_designator}
use Rattle.ixdtf.specs.table.LineNames.DurationLine.{group_digits, group_value_range, unit_order, date_unit_range, group_fraction_start, group_fraction_digits}
use Rattle.ixdtf.specs.table.LineNames.DurationLine.{after_time_groups, after_fraction_group}
use Rattle.ixdtf.specs.table.Lines.{abrupt_duration_start, abrupt_duration_designator, abrupt_duration, abrupt_date_designator, abrupt_time_designator}
use Rattle.ixdtf.specs.table.Outcomes.{Outcome}
use Rattle.ixdtf.specs.table.Outcomes.Outcome.{derived}
use Rattle.ixdtf_tests.proofs.Helpers.{all_readings, Example, Compute, gives, ends, goes_off, meets_bad, stands, one, two, three, ShowEachRow, stands_before_bad}

-- ---- each row

abbrev lines : Profile → List LineName
lines profile =
    map (of_duration profile) (duration_start ∷ after_duration_sign ∷ after_duration_designator ∷ after_date_groups ∷ after_time_designator
    ∷ group_digits date ∷ group_digits time ∷ group_value_range date ∷ group_value_range time ∷ unit_order date ∷ unit_order time
    ∷ date_unit_range ∷ group_fraction_start ∷ group_fraction_digits ∷ after_time_groups ∷ after_fraction_group ∷ [])

abbrev rows : Profile → List Example
rows profile =
    three (of_duration profile duration_start) [] abrupt_duration_start (codes "1") DurationDisgnator
    ++ three (of_duration profile after_duration_sign) (codes "-") abrupt_duration_designator (codes "T") DurationDisgnator
    ++ three (of_duration profile after_duration_designator) (codes "P") abrupt_duration (codes "X") InvalidEnd
    ++ two (of_duration profile after_date_groups) (codes "P1Y") (codes "X") InvalidEnd
    ++ three (of_duration profile after_time_designator) (codes "P1YT") TimeDurationDesignator (codes "H") TimeDurationDesignator
    ++ three (of_duration profile (group_digits date)) (codes "P1") abrupt_date_designator (codes ".") abrupt_date_designator
    ++ three (of_duration profile (group_digits time)) (codes "PT1") abrupt_time_designator (codes "Y") abrupt_time_designator
    ++ one (of_duration profile (group_value_range date)) (codes "P18446744073709551616") DurationValueExceededRange
    ++ one (of_duration profile (group_value_range time)) (codes "PT18446744073709551616") DurationValueExceededRange
    ++ one (of_duration profile (unit_order date)) (codes "P1D1Y") DateDurationPartOrder
    ++ one (of_duration profile (unit_order time)) (codes "PT1M1.5H") TimeDurationPartOrder
    ++ one (of_duration profile date_unit_range) (codes "P4294967296Y") DurationValueExceededRange
    ++ three (of_duration profile group_fraction_start) (codes "PT1.") FractionPart (codes "H") FractionPart
    ++ three (of_duration profile group_fraction_digits) (codes "PT1.5") abrupt_time_designator (codes "X") abrupt_time_designator
    ++ two (of_duration profile after_time_groups) (codes "PT1H") (codes "T") InvalidEnd
    ++ two (of_duration profile after_fraction_group) (codes "PT0.5H") (codes "1") InvalidEnd

each_row : (profile : Profile) → ShowEachRow (parse_duration profile) (lines profile) (rows profile)
unfolding all_readings
each_row Crate = (refl, refl)
each_row Strict = (refl, refl)

-- ---- durations

abbrev lasts : Sign → Option DateDurationRecord → Option TimeDurationRecord → Outcome
lasts sign dates times = derived (lasting (record { sign = sign; date = dates; time = times })) []

abbrev dated : ℕ → ℕ → ℕ → ℕ → Option DateDurationRecord
dated years months weeks days = Some (record { years = years; months = months; weeks = weeks; days = days })

abbrev fraction : ℕ → ℕ → Option FractionParts
fraction count value = Some (record { count = count; value = value })

durations : (profile : Profile) → Compute (parse_duration profile) (
    gives (codes "P1Y") (lasts Positive (dated 1 0 0 0) None)
    ∷ gives (codes "+P1m2w") (lasts Positive (dated 0 1 2 0) None)
    ∷ gives (codes "P0D") (lasts Positive (dated 0 0 0 0) None)
    ∷ gives (codes "P0000000000000000000000000001D") (lasts Positive (dated 0 0 0 1) None)
    ∷ gives (codes "P4294967295W") (lasts Positive (dated 0 0 4294967295 0) None)
    ∷ gives (codes "P18446744073709551615D") (lasts Positive (dated 0 0 0 18446744073709551615) None)
    ∷ gives (codes "PT5M") (lasts Positive None (Some (Minutes 0 5 None)))
    ∷ gives (codes "PT90071992547409910S") (lasts Positive None (Some (Seconds 0 0 90071992547409910 None)))
    ∷ gives (codes "PT1H1.123456789123M") (lasts Positive None (Some (Minutes 1 1 (fraction 12 123456789123))))
    ∷ gives (codes "-P1Y3wT0,5H") (lasts Negative (dated 1 0 3 0) (Some (Hours 0 (fraction 1 5))))
    ∷ gives (codes "P1Y1DT1.999999999H") (lasts Positive (dated 1 0 0 1) (Some (Hours 1 (fraction 9 999999999))))
    ∷ gives (codes "p1y1m1dt1h1m1s") (lasts Positive (dated 1 1 0 1) (Some (Seconds 1 1 1 None)))
    ∷ gives (codes "-P1Y1M1W1DT1H1M1.123456789S") (lasts Negative (dated 1 1 1 1) (Some (Seconds 1 1 1 (fraction 9 123456789))))
    ∷ [])
unfolding all_readings
durations Crate = refl
durations Strict = refl

-- If a duration unit is repeated, its last number counts.
repeated_units : Compute (parse_duration Crate) (
    (gives (codes "P1Y2Y") (lasts Positive (dated 2 0 0 0) None)
    ∷ gives (codes "P1M2M0m3W") (lasts Positive (dated 0 0 3 0) None)
    ∷ gives (codes "PT1H2H") (lasts Positive None (Some (Hours 2 None)))
    ∷ gives (codes "PT1M2M0.50M") (lasts Positive None (Some (Minutes 0 0 (fraction 2 50)))) ∷ [])
    ++ stands (of_duration Crate date_unit_range) DurationValueExceededRange (codes "P1Y4294967296Y|") ∷ [])
unfolding all_readings
repeated_units = refl

-- Under the strict profile, no duration unit may be repeated. The error of the order comes before the error of the range.
no_repeated_unit : Compute (parse_duration Strict) (
    map (stands (of_duration Strict (unit_order date)) DateDurationPartOrder) (codes "P1Y2Y|" ∷ codes "P1M2M|0m3W" ∷ codes "P1Y4294967296Y|" ∷ [])
    ++ map (stands (of_duration Strict (unit_order time)) TimeDurationPartOrder) (codes "PT1S2S|" ∷ codes "PT1H2H|" ∷ codes "PT1M0.50M|" ∷ []))
unfolding all_readings
no_repeated_unit = refl

-- ---- texts that are not durations

no_duration : (profile : Profile) → Compute (parse_duration profile) (
    (goes_off (of_duration profile after_duration_sign) DurationDisgnator (codes "-|-P1Y") ∷ [])
    ++ (ends (of_duration profile after_duration_designator) abrupt_duration (codes "-p") ∷ [])
    ++ (goes_off (of_duration profile after_date_groups) InvalidEnd (codes "P1Y|[u-ca=iso8601]") ∷ [])
    ++ map (ends (of_duration profile after_time_designator) TimeDurationDesignator) (codes "+PT" ∷ codes "-PT" ∷ [])
    ++ (goes_off (of_duration profile after_time_groups) InvalidEnd (codes "PT1H|T1M") ∷ [])
    ++ map (goes_off (of_duration profile after_fraction_group) InvalidEnd) (codes "PT0.5H|1M" ∷ codes "PT0.5M|1H" ∷ codes "PT0.5H|1H" ∷ codes "P1Y1M1W1DT1H0.5M|0.5S" ∷ [])
    ++ (meets_bad (of_duration profile (group_digits date)) (codes "P1Y1") ∷ [])
    ++ meets_bad (of_duration profile (group_digits time)) (codes "PT1H1") ∷ []
    -- The error is in a number, or at the code unit after it.
    ++ map (goes_off (of_duration profile (group_digits date)) abrupt_date_designator) (codes "P1Y1M1W0|,5D" ∷ codes "P4294967296|X" ∷ codes "P1|H" ∷ [])
    ++ map (stands (of_duration profile (group_value_range date)) DurationValueExceededRange) (codes "P18446744073709551616|D" ∷ codes "P99999999999999999999|X" ∷ [])
    ++ map (stands (of_duration profile (group_value_range time)) DurationValueExceededRange) (codes "PT18446744073709551616|S" ∷ codes "P1YT100000000000000000000|0000000000000000000H" ∷ [])
    ++ (stands_before_bad (of_duration profile (group_value_range date)) DurationValueExceededRange (codes "P18446744073709551616|") ∷ [])
    ++ (stands (of_duration profile date_unit_range) DurationValueExceededRange (codes "P4294967296W|") ∷ [])
    ++ stands_before_bad (of_duration profile date_unit_range) DurationValueExceededRange (codes "P4294967296m|") ∷ []
    -- A group comes after a group with a shorter duration unit.
    ++ map (stands (of_duration profile (unit_order date)) DateDurationPartOrder) (codes "P1Y1M1Y|" ∷ codes "P1D1Y|1" ∷ [])
    -- The error of the order comes before the error of the range.
    ++ (stands (of_duration profile (unit_order date)) DateDurationPartOrder (codes "P1D4294967296Y|") ∷ [])
    ++ (stands_before_bad (of_duration profile (unit_order date)) DateDurationPartOrder (codes "P1W1M|") ∷ [])
    ++ map (stands (of_duration profile (unit_order time)) TimeDurationPartOrder) (codes "PT1S1M|" ∷ codes "PT1M1H|" ∷ []))
unfolding all_readings
no_duration Crate = refl
no_duration Strict = refl
