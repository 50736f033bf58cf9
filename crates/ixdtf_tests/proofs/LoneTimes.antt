-- Computes the outcomes of times without a date, and the rows of their table lines.
use Rattle.std.proofs.Common.{ℕ, List, [], ◌∷◌, ◌++◌, map, codes, Option, Some, None, false, refl}
use Rattle.ixdtf_grammar.specs.declared.profile.Profile.{Profile}
use Rattle.ixdtf_grammar.specs.declared.profile.Profile.TheVariants.{Crate, Strict}
use Rattle.ixdtf_grammar.specs.declared.records.Sign.{Sign}
use Rattle.ixdtf_grammar.specs.declared.records.Sign.TheVariants.{Negative}
use Rattle.ixdtf_grammar.specs.declared.records.UtcOffsetRecord.TheVariants.{MinutePrecision}
use Rattle.ixdtf_grammar.specs.declared.records.UtcOffsetRecordOrZ.{UtcOffsetRecordOrZ}
use Rattle.ixdtf_grammar.specs.declared.records.UtcOffsetRecordOrZ.TheVariants.{Offset, Z}
use Rattle.ixdtf.specs.language.Letters.Letter.{Bad}
use Rattle.ixdtf.specs.language.Brackets.{ZoneNote}
use Rattle.ixdtf.specs.language.Cores.{core_of}
use Rattle.ixdtf.specs.language.Fractions.{FractionParts}
use Rattle.ixdtf.specs.language.Readers.{parse_time}
use Rattle.ixdtf.specs.language.Languages.{parsed_with}
use Rattle.ixdtf.specs.language.Languages.Found.{parsed}
use Rattle.ixdtf.specs.language.Times.Clock.{Offset as OffsetClock}
use Rattle.ixdtf.specs.table.Faults.Fault.{NonAsciiCodePoint, InvalidEnd, TimeHour, TimeSeparator, AmbiguousTimeMonthDay, AmbiguousTimeYearMonth}
use Rattle.ixdtf.specs.table.LineNames.{LineName, of_time}
use Rattle.ixdtf.specs.table.LineNames.LineName.{of_clock, of_offset, of_bracket}
use Rattle.ixdtf.specs.table.LineNames.TimeLine.{time_start, time_reads_as_month_day, time_reads_as_year_month}
use Rattle.ixdtf.specs.table.LineNames.ClockLine.{hour_start, hour_digit, hour_range, after_hour, minute_digits, after_basic_minute, after_colon_minute}
use Rattle.ixdtf.specs.table.LineNames.ClockLine.{after_second}
use Rattle.ixdtf.specs.table.LineNames.OffsetLine.{after_zulu}
use Rattle.ixdtf.specs.table.LineNames.BracketLine.{first_bracket_start}
use Rattle.ixdtf.specs.table.Lines.{abrupt_digit, abrupt_bracket}
use Rattle.ixdtf.specs.table.Rows.Place.{bad}
use Rattle.ixdtf.specs.table.Outcomes.{Outcome}
use Rattle.ixdtf.specs.table.Outcomes.Outcome.{derived}
use Rattle.ixdtf_reading.specs.reading.Times.{time_of}
use Rattle.ixdtf_tests.proofs.Helpers.{all_readings, zone_named, Example, Compute, gives, ends, goes_off, meets_bad, stands, stops, one, three, ShowEachRow}
use Rattle.ixdtf_tests.proofs.Times.{of_clock_time, time_lines, time_rows}
use Rattle.ixdtf_tests.proofs.Offsets.{full_lines, full_rows}

-- ---- each row in `parse_time`

-- These are the rows of the lines that only `parse_time` has.
abbrev alone_rows : Profile → List Example
alone_rows profile =
    three (of_time time_start) [] abrupt_digit (codes "x") TimeHour
    ++ one (of_time (time_reads_as_month_day profile)) (codes "1214") AmbiguousTimeMonthDay
    ++ one (of_time time_reads_as_year_month) (codes "2021-12") AmbiguousTimeYearMonth

abbrev alone_lines : Profile → List LineName
alone_lines profile = map of_time (time_start ∷ time_reads_as_month_day profile ∷ time_reads_as_year_month ∷ [])

each_row_of_its_own : (profile : Profile) → ShowEachRow (parse_time profile) (alone_lines profile) (alone_rows profile)
unfolding all_readings
each_row_of_its_own Crate = (refl, refl)
each_row_of_its_own Strict = (refl, refl)

each_row_after_a_letter : (profile : Profile) → ShowEachRow (parse_time profile) time_lines (time_rows (codes "T"))
unfolding all_readings
each_row_after_a_letter Crate = (refl, refl)
each_row_after_a_letter Strict = (refl, refl)

each_row_after_a_time : (profile : Profile) → ShowEachRow (parse_time profile) (full_lines ++ (of_offset after_zulu ∷ [])) (full_rows (codes "t00:00"))
unfolding all_readings
each_row_after_a_time Crate = (refl, refl)
each_row_after_a_time Strict = (refl, refl)

-- ---- times

abbrev alone : ℕ → ℕ → ℕ → Option FractionParts → Option UtcOffsetRecordOrZ → Option ZoneNote → Outcome
alone hour minute second fraction offset zone =
    derived (parsed (parsed_with (core_of None (Some (time_of hour minute second fraction)) offset) zone)) []

abbrev time : ℕ → ℕ → ℕ → Outcome
time hour minute second = alone hour minute second None None None

abbrev shifted_by : Sign → ℕ → ℕ → Option UtcOffsetRecordOrZ
shifted_by sign hour minute = Some (Offset (MinutePrecision (record { sign = sign; hour = hour; minute = minute })))

times_alone : (profile : Profile) → Compute (parse_time profile) (
    gives (codes "12") (time 12 0 0)
    ∷ gives (codes "T1200") (time 12 0 0)
    ∷ gives (codes "t121430") (time 12 14 30)
    ∷ gives (codes "0230") (time 2 30 0)
    ∷ gives (codes "0631") (time 6 31 0)
    ∷ gives (codes "1232") (time 12 32 0)
    ∷ gives (codes "13-14") (alone 13 0 0 None (shifted_by Negative 14 0) None)
    ∷ gives (codes "2021-13") (alone 20 21 0 None (shifted_by Negative 13 0) None)
    ∷ gives (codes "0000-00") (alone 0 0 0 None (shifted_by Negative 0 0) None)
    ∷ gives (codes "T1214Z") (alone 12 14 0 None (Some Z) None)
    ∷ gives (codes "T1200[UTC]") (alone 12 0 0 None None (zone_named false (codes "UTC")))
    ∷ gives (codes "15:23:30.1234567890") (alone 15 23 30 (Some (record { count = 10; value = 1234567890 })) None None)
    -- The fraction has 37 digits. The value has the first 18 of them.
    ∷ gives (codes "15:23:30.1234567898765432101234567890987654321")
    (alone 15 23 30 (Some (record { count = 37; value = 123456789876543210 })) None None)
    ∷ [])
unfolding all_readings
times_alone Crate = refl
times_alone Strict = refl

-- ---- texts that are not times, or that begin like a date

no_time_alone : (profile : Profile) → Compute (parse_time profile) (
    -- These texts begin like a month-day or a year-month.
    map (stands (of_time (time_reads_as_month_day profile)) AmbiguousTimeMonthDay) (codes "0229|" ∷ codes "1208|-10" ∷ codes "1214|30" ∷ codes "1214|Z" ∷ codes "12-14|[-14:00]" ∷ [])
    ++ (stands (of_time time_reads_as_year_month) AmbiguousTimeYearMonth (codes "202112|[UTC]") ∷ [])
    -- No code unit inside a bracket is read.
    ++ (stands (of_time (time_reads_as_month_day profile)) AmbiguousTimeMonthDay (codes "1214|[") ∷ [])
    ++ ends (of_bracket first_bracket_start) abrupt_bracket (codes "T1214[") ∷ []
    -- These texts are not times.
    ++ (stands (of_clock_time hour_range) TimeHour (codes "24|-12-08") ∷ [])
    ++ (goes_off (of_clock_time after_second) InvalidEnd (codes "202408|01") ∷ [])
    ++ (goes_off (of_clock_time after_colon_minute) TimeSeparator (codes "T19:12|0-08") ∷ [])
    ++ (goes_off (of_clock OffsetClock after_hour) InvalidEnd (codes "T19-12|-08") ∷ [])
    ++ (ends (of_clock OffsetClock minute_digits) abrupt_digit (codes "T19:12-089") ∷ [])
    ++ (goes_off (of_time time_start) TimeHour (codes "|:12") ∷ [])
    ++ (goes_off (of_clock_time hour_start) TimeHour (codes "T|T12") ∷ [])
    ++ (goes_off (of_clock_time hour_digit) TimeHour (codes "1|:00") ∷ [])
    -- The error of a bad code unit comes before the test whether the text begins like a date.
    ++ (meets_bad (of_clock_time after_basic_minute) (codes "1200") ∷ [])
    ++ (Bad ∷ [], stops (of_time time_start) (bad (Bad ∷ [])) NonAsciiCodePoint) ∷ [])
unfolding all_readings
no_time_alone Crate = refl
no_time_alone Strict = refl

-- ---- what the profile changes

-- With day 00, a text begins like a month-day.
fronts_with_day_zero : Compute (parse_time Crate) (
    map (stands (of_time (time_reads_as_month_day Crate)) AmbiguousTimeMonthDay) (codes "1200|" ∷ codes "11-00|" ∷ codes "1100|10" ∷ codes "1100|13" ∷ codes "1200|[a=b]" ∷ []))
unfolding all_readings
fronts_with_day_zero = refl

-- Under the strict profile, a text with day 00 does not begin like a month-day.
times_with_minute_zero : Compute (parse_time Strict) (
    (gives (codes "1200") (time 12 0 0)
    ∷ gives (codes "11-00") (alone 11 0 0 None (shifted_by Negative 0 0) None) ∷ [])
    ++ (stands (of_time time_reads_as_year_month) AmbiguousTimeYearMonth (codes "110010|") ∷ [])
    ++ gives (codes "110013") (time 11 0 13)
    ∷ gives (codes "1200[UTC]") (alone 12 0 0 None None (zone_named false (codes "UTC"))) ∷ [])
unfolding all_readings
times_with_minute_zero = refl
