-- Computes the outcomes of times after a date and a separator, and the rows of the table lines of times.
use Rattle.std.proofs.Common.{ℕ, List, [], ◌∷◌, ◌++◌, map, codes, Some, None, pos, refl}
use Rattle.ixdtf.specs.language.Times.Clock.{Time}
use Rattle.ixdtf.specs.language.Readers.{parse}
use Rattle.ixdtf.specs.table.Faults.Fault.{InvalidEnd, TimeHour, TimeMinuteSecond, TimeSecond, TimeSeparator, FractionPart}
use Rattle.ixdtf.specs.table.LineNames.{ClockLine, LineName}
use Rattle.ixdtf.specs.table.LineNames.LineName.{of_clock}
use Rattle.ixdtf.specs.table.LineNames.ClockLine.{hour_start, hour_digit, hour_range, after_hour, minute_digits, minute_range, after_basic_minute}
use Rattle.ixdtf.specs.table.LineNames.ClockLine.{after_colon_minute, second_digits, second_range, after_second, fraction_start, after_fraction}
use Rattle.ixdtf.specs.table.Lines.{abrupt_digit}
use Rattle.ixdtf_reading.specs.reading.Dates.{date_of}
use Rattle.ixdtf_reading.specs.reading.Times.{time_of}
use Rattle.ixdtf_tests.proofs.Helpers.{all_readings, new_year, with, Example, Compute, gives, ends, goes_off, meets_bad, stands, one, two, stands_before_bad, cut_off}
use Rattle.ixdtf_tests.proofs.Helpers.{three, ShowEachRow}

abbrev pub of_clock_time : ClockLine → LineName
of_clock_time line = of_clock Time line

-- `minute_lines` are the table lines of hours and minutes, and `clock_lines` are all lines of a clock.
abbrev pub minute_lines : List ClockLine
minute_lines =
    hour_start ∷ hour_digit ∷ hour_range ∷ after_hour ∷ minute_digits ∷ minute_range ∷ after_basic_minute ∷ after_colon_minute ∷ []

abbrev pub clock_lines : List ClockLine
clock_lines = minute_lines ++ second_digits ∷ second_range ∷ after_second ∷ fraction_start ∷ after_fraction ∷ []

-- This text is 1 January 2020, a `T`, and then these code units.
abbrev at : List ℕ → List ℕ
at units = codes "2020-01-01T" ++ units

-- ---- each row of the lines of times, in `parse`

abbrev pub time_lines : List LineName
time_lines = map of_clock_time clock_lines

-- These are the rows of a time after this text.
abbrev pub time_rows : List ℕ → List Example
time_rows before =
    three (of_clock_time hour_start) before abrupt_digit (codes "x") TimeHour
    ++ three (of_clock_time hour_digit) (before ++ codes "1") abrupt_digit (codes ":") TimeHour
    ++ one (of_clock_time hour_range) (before ++ codes "24") TimeHour
    ++ two (of_clock_time after_hour) (before ++ codes "12") (codes "x") InvalidEnd
    ++ three (of_clock_time minute_digits) (before ++ codes "12:") abrupt_digit (codes "x") TimeMinuteSecond
    ++ one (of_clock_time minute_range) (before ++ codes "12:60") TimeMinuteSecond
    ++ two (of_clock_time after_basic_minute) (before ++ codes "1230") (codes "x") InvalidEnd
    ++ two (of_clock_time after_colon_minute) (before ++ codes "12:30") (codes "x") InvalidEnd
    ++ three (of_clock_time second_digits) (before ++ codes "12:30:") abrupt_digit (codes "x") TimeSecond
    ++ one (of_clock_time second_range) (before ++ codes "00:00:61") TimeSecond
    ++ two (of_clock_time after_second) (before ++ codes "00:00:00") (codes "x") InvalidEnd
    ++ three (of_clock_time fraction_start) (before ++ codes "00:00:00.") FractionPart (codes "x") FractionPart
    ++ two (of_clock_time after_fraction) (before ++ codes "00:00:00.5") (codes "x") InvalidEnd

each_row_of_times : ShowEachRow parse time_lines (time_rows (at []))
unfolding all_readings
each_row_of_times = (refl, refl)

-- ---- times

times : Compute parse (
    gives (at (codes "05")) (new_year 5 0 0 None)
    ∷ gives (codes "2020-01-01t0506") (new_year 5 6 0 None)
    ∷ gives (codes "20200101 05:06") (new_year 5 6 0 None)
    ∷ gives (at (codes "050607")) (new_year 5 6 7 None)
    ∷ gives (at (codes "23:59:60")) (new_year 23 59 60 None)
    ∷ [])
unfolding all_readings
times = refl

fractions : Compute parse (
    gives (at (codes "00:00:00.5")) (new_year 0 0 0 (Some (record { count = 1; value = 5 })))
    ∷ gives (codes "2022-06-05 043422.000") (with (date_of (pos 2022) 6 5) (Some (time_of 4 34 22 (Some (record { count = 3; value = 0 })))) None None)
    ∷ gives (codes "2024-03-02T08:48:00.25") (with (date_of (pos 2024) 3 2) (Some (time_of 8 48 0 (Some (record { count = 2; value = 25 })))) None None)
    ∷ gives (codes "2024-03-02T08:48:00,25") (with (date_of (pos 2024) 3 2) (Some (time_of 8 48 0 (Some (record { count = 2; value = 25 })))) None None)
    -- The fraction has 37 digits. The value has the first 18 of them.
    ∷ gives (at (codes "15:23:30.1234567898765432101234567890987654321")) (new_year 15 23 30 (Some (record { count = 37; value = 123456789876543210 })))
    ∷ [])
unfolding all_readings
fractions = refl

-- ---- texts that are not times

no_time : Compute parse (
    -- The error is in the hour or in the minute.
    (ends (of_clock_time hour_digit) abrupt_digit (at (codes "1")) ∷ [])
    ++ (goes_off (of_clock_time hour_digit) TimeHour (at (codes "1|x")) ∷ [])
    ++ (stands (of_clock_time hour_range) TimeHour (at (codes "24|:00")) ∷ [])
    ++ map (ends (of_clock_time minute_digits) abrupt_digit) (at (codes "001") ∷ at (codes "12:3") ∷ [])
    ++ map (goes_off (of_clock_time minute_digits) TimeMinuteSecond) (at (codes "12:3|x") ∷ at (codes "123|x") ∷ [])
    ++ map (meets_bad (of_clock_time minute_digits)) (at (codes "12:3") ∷ at (codes "123") ∷ [])
    ++ map (stands (of_clock_time minute_range) TimeMinuteSecond) (at (codes "01:60|:61") ∷ at (codes "0160|") ∷ [])
    -- The error is at a colon or a digit that cannot follow here.
    ++ (goes_off (of_clock_time after_basic_minute) TimeSeparator (codes "2022-06-05 0434|:22.000") ∷ [])
    ++ map (goes_off (of_clock_time after_colon_minute) TimeSeparator) (at (codes "01:00|1") ∷ at (codes "01:00|00") ∷ [])
    -- The error is in the second, or after it.
    ++ map (goes_off (of_clock_time second_digits) TimeSecond) (codes "2022-06-05 03422|.000" ∷ at (codes "12:30:0|x") ∷ [])
    ++ cut_off (of_clock_time second_digits) abrupt_digit (at (codes "12300") ∷ at (codes "12:30:0") ∷ [])
    ++ (stands (of_clock_time second_range) TimeSecond (at (codes "000061|")) ∷ [])
    ++ (goes_off (of_clock_time after_second) InvalidEnd (at (codes "01:01:00|1")) ∷ [])
    ++ (ends (of_clock_time fraction_start) FractionPart (at (codes "00:00:00,")) ∷ [])
    ++ (goes_off (of_clock_time fraction_start) FractionPart (at (codes "00:00:00.|.5")) ∷ [])
    ++ (goes_off (of_clock_time after_hour) InvalidEnd (at (codes "12|.5")) ∷ [])
    ++ (goes_off (of_clock_time after_colon_minute) InvalidEnd (at (codes "12:30|.5")) ∷ [])
    ++ goes_off (of_clock_time after_fraction) InvalidEnd (at (codes "00:00:00.5|.5")) ∷ []
    -- A bad code unit comes after a prefix that is refused, whatever follows.
    ++ (stands_before_bad (of_clock_time hour_range) TimeHour (at (codes "24|")) ∷ [])
    ++ (stands_before_bad (of_clock_time minute_range) TimeMinuteSecond (at (codes "12:60|")) ∷ [])
    ++ stands_before_bad (of_clock_time second_range) TimeSecond (at (codes "00:00:61|")) ∷ [])
unfolding all_readings
no_time = refl
