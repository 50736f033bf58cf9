-- Computes the outcomes of dates, and the rows of the table lines of dates.
use Rattle.std.proofs.Common.{List, [], ◌∷◌, ◌++◌, map, codes, pos, neg_ℤ, refl}
use Rattle.ixdtf.specs.language.Readers.{parse}
use Rattle.ixdtf.specs.table.Faults.Fault.{NonAsciiCodePoint, InvalidEnd, InvalidMonthRange, InvalidDayRange, DateYear, DateExtendedYear, DateMonth, DateDay}
use Rattle.ixdtf.specs.table.Faults.Fault.{DateSeparator}
use Rattle.ixdtf.specs.table.LineNames.{LineName, of_date}
use Rattle.ixdtf.specs.table.LineNames.DateLine.{year_start, year_digits, extended_year_digits, minus_zero_year, after_year, month_digits, month_range}
use Rattle.ixdtf.specs.table.LineNames.DateLine.{after_hyphened_month, after_basic_month, day_digits, day_range, after_date}
use Rattle.ixdtf.specs.table.Lines.{abrupt_digit, abrupt_date}
use Rattle.ixdtf.specs.language.Letters.Letter.{Bad}
use Rattle.ixdtf.specs.table.Rows.Place.{bad}
use Rattle.ixdtf_tests.proofs.Helpers.{all_readings, date, Example, Compute, ends, goes_off, stands, one, two, three, ShowEachRow, gives, stops, stands_before_bad, cut_off}
use Rattle.ixdtf_tests.proofs.Helpers.{text_of}

-- ---- each row of the lines of dates, in `parse`

-- These are the table lines of years.
abbrev pub year_lines : List LineName
year_lines = map of_date (year_start ∷ year_digits ∷ extended_year_digits ∷ minus_zero_year ∷ [])

abbrev pub year_rows : List Example
year_rows =
    three (of_date year_start) [] abrupt_digit (codes "x") DateYear
    ++ three (of_date year_digits) (codes "202") abrupt_digit (codes "x") DateYear
    ++ three (of_date extended_year_digits) (codes "+00202") abrupt_digit (codes "x") DateExtendedYear
    ++ one (of_date minus_zero_year) (codes "-000000") DateExtendedYear

-- These are the rows of months.
abbrev pub month_rows : List Example
month_rows =
    three (of_date month_digits) (codes "2020-") abrupt_digit (codes "x") DateMonth
    ++ one (of_date month_range) (codes "2020-13") InvalidMonthRange

abbrev date_lines : List LineName
date_lines =
    year_lines ++ map of_date (after_year ∷ month_digits ∷ month_range ∷ after_hyphened_month ∷ after_basic_month ∷ day_digits ∷ day_range ∷ after_date ∷ [])

abbrev date_rows : List Example
date_rows =
    year_rows
    ++ three (of_date after_year) (codes "2020") abrupt_date (codes "x") DateMonth
    ++ month_rows
    ++ three (of_date after_hyphened_month) (codes "2020-01") DateSeparator (codes "x") DateSeparator
    ++ three (of_date after_basic_month) (codes "202001") abrupt_digit (codes "x") DateDay
    ++ three (of_date day_digits) (codes "2020-01-") abrupt_digit (codes "x") DateDay
    ++ one (of_date day_range) (codes "2020-02-30") InvalidDayRange
    ++ two (of_date after_date) (codes "2020-01-01") (codes "x") InvalidEnd

each_row_of_dates : ShowEachRow parse date_lines date_rows
unfolding all_readings
each_row_of_dates = (refl, refl)

-- ---- dates

dates : Compute parse (
    gives (codes "20201108") (date (pos 2020) 11 8)
    ∷ gives (codes "2020-11-08") (date (pos 2020) 11 8)
    ∷ gives (codes "2024-03-02") (date (pos 2024) 3 2)
    ∷ gives (codes "20240302") (date (pos 2024) 3 2)
    ∷ gives (codes "+002024-03-02") (date (pos 2024) 3 2)
    ∷ gives (codes "+0020240302") (date (pos 2024) 3 2)
    ∷ gives (codes "-002020-11-08") (date (neg_ℤ (pos 2020)) 11 8)
    ∷ gives (codes "+000000-02-29") (date (pos 0) 2 29)
    ∷ gives (codes "-000400-02-29") (date (neg_ℤ (pos 400)) 2 29)
    ∷ gives (codes "+999999-12-31") (date (pos 999999) 12 31)
    ∷ gives (codes "-999999-01-01") (date (neg_ℤ (pos 999999)) 1 1)
    -- These texts are not dates. The error is in the year.
    ∷ map (ends (of_date year_digits) abrupt_digit) (codes "2" ∷ codes "20" ∷ [])
    ++ (goes_off (of_date year_digits) DateYear (codes "20|-06-05") ∷ [])
    ++ map (ends (of_date extended_year_digits) abrupt_digit) (codes "+" ∷ codes "-00000" ∷ [])
    ++ (goes_off (of_date extended_year_digits) DateExtendedYear (codes "-|P12Y") ∷ [])
    ++ stands (of_date minus_zero_year) DateExtendedYear (codes "-000000|-11-08") ∷ []
    -- The error is in the month.
    ++ map (goes_off (of_date month_digits) DateMonth) (codes "02020|-01-01" ∷ codes "2020-|W01-1" ∷ codes "-1000000|-11-08" ∷ [])
    ++ cut_off (of_date month_digits) abrupt_digit (codes "2020-0" ∷ codes "20200" ∷ [])
    ++ map (stands (of_date month_range) InvalidMonthRange) (codes "2020-00|1" ∷ codes "202000|" ∷ codes "2020-13|-01" ∷ codes "2020-13|x" ∷ [])
    -- The error is in the hyphens around the month, in the day, or after the date.
    ++ (goes_off (of_date after_hyphened_month) DateSeparator (codes "2020-01|01") ∷ [])
    ++ (goes_off (of_date after_basic_month) DateSeparator (codes "202206|-05") ∷ [])
    ++ cut_off (of_date day_digits) abrupt_digit (codes "2020010" ∷ codes "2020-01-0" ∷ [])
    ++ map (goes_off (of_date day_digits) DateDay) (codes "2020010|x" ∷ codes "2020-01-0|x" ∷ [])
    ++ map (stands (of_date day_range) InvalidDayRange) (codes "2020-01-00|1" ∷ codes "20200132|" ∷ codes "2020-04-31|" ∷ codes "2021-02-29|" ∷ codes "-000100-02-29|" ∷ [])
    ++ map (goes_off (of_date after_date) InvalidEnd) (codes "+1000000110|8" ∷ codes "2020-01-01|+05:00" ∷ codes "2020-01-01|Z" ∷ [])
    -- These texts have a bad code unit.
    ++ ((Bad ∷ text_of (codes "020-01-01"), stops (of_date year_start) (bad ((Bad ∷ []) ++ text_of (codes "020-01-01"))) NonAsciiCodePoint) ∷ [])
    ++ (stands_before_bad (of_date month_range) InvalidMonthRange (codes "2020-13|-01") ∷ [])
    ++ (stands_before_bad (of_date day_range) InvalidDayRange (codes "2020-02-30|") ∷ [])
    ++ stands_before_bad (of_date minus_zero_year) DateExtendedYear (codes "-000000|") ∷ []
    -- These texts have 128, which is not ASCII. The definition `mask` replaces a bad code unit by 128.
    ++ (goes_off (of_date year_start) DateYear (codes "|" ++ (128 ∷ []) ++ codes "020-01-01") ∷ [])
    ++ (stands (of_date month_range) InvalidMonthRange (codes "2020-13|-01" ++ (128 ∷ [])) ∷ [])
    ++ (goes_off (of_date after_date) InvalidEnd (codes "2020-01-01|" ++ 128 ∷ []) ∷ [])
    -- This text has `é` in UTF-8.
    ++ goes_off (of_date after_date) InvalidEnd (codes "2020-01-01|" ++ 195 ∷ 169 ∷ []) ∷ [])
unfolding all_readings
dates = refl
