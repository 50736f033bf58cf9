-- Computes the outcomes of year-months and month-days, and the rows of their table lines.
use Rattle.std.proofs.Common.{ℕ, List, [], ◌∷◌, ◌++◌, map, codes, ℤ, pos, neg_ℤ, Some, None, false, refl}
use Rattle.ixdtf_grammar.specs.declared.profile.Profile.{Profile}
use Rattle.ixdtf_grammar.specs.declared.profile.Profile.TheVariants.{Crate, Strict}
use Rattle.ixdtf_grammar.specs.declared.records.Sign.TheVariants.{Positive}
use Rattle.ixdtf.specs.language.ZoneNames.Zone.{Offset}
use Rattle.ixdtf.specs.language.Readers.{parse_year_month, parse_month_day}
use Rattle.ixdtf.specs.table.Faults.Fault.{InvalidEnd, InvalidMonthRange, InvalidMonthDay, DateMonth, DateDay, MonthDayHyphen}
use Rattle.ixdtf.specs.table.LineNames.{LineName, of_date, of_year_month, of_month_day}
use Rattle.ixdtf.specs.table.LineNames.DateLine.{month_digits, month_range}
use Rattle.ixdtf.specs.table.LineNames.YearMonthLine.{after_year_in_year_month, after_year_month}
use Rattle.ixdtf.specs.table.LineNames.MonthDayLine.{month_day_start, month_day_hyphen, month_day_month_digits, month_day_month_range}
use Rattle.ixdtf.specs.table.LineNames.MonthDayLine.{after_month_day_month, month_day_day_digits, month_day_range, after_month_day}
use Rattle.ixdtf.specs.table.Lines.{abrupt_digit, abrupt_month_day}
use Rattle.ixdtf.specs.table.Outcomes.{Outcome}
use Rattle.ixdtf_reading.specs.reading.Dates.{date_of}
use Rattle.ixdtf_tests.proofs.Dates.{year_lines, year_rows, month_rows}
use Rattle.ixdtf_tests.proofs.Helpers.{all_readings, date, with, Example, Compute, gives, ends, goes_off, meets_bad, stands, stands_before_bad}
use Rattle.ixdtf_tests.proofs.Helpers.{one, two, three, ShowEachRow}

-- ---- each row of the lines of year-months

abbrev year_month_lines : List LineName
year_month_lines =
    year_lines ++ map of_date (month_digits ∷ month_range ∷ []) ++ map of_year_month (after_year_in_year_month ∷ after_year_month ∷ [])

abbrev year_month_rows : List Example
year_month_rows =
    year_rows
    ++ month_rows
    ++ three (of_year_month after_year_in_year_month) (codes "2020") abrupt_digit (codes "x") DateMonth
    ++ two (of_year_month after_year_month) (codes "2020-01") (codes "x") InvalidEnd

each_row_of_year_months : ShowEachRow parse_year_month year_month_lines year_month_rows
unfolding all_readings
each_row_of_year_months = (refl, refl)

-- ---- year-months

abbrev year_month : ℤ → ℕ → Outcome
year_month year month = date year month 1

year_months : Compute parse_year_month (
    gives (codes "2020-01") (year_month (pos 2020) 1)
    ∷ gives (codes "+002020-11") (year_month (pos 2020) 11)
    ∷ gives (codes "+00202011") (year_month (pos 2020) 11)
    ∷ gives (codes "-002020-11") (year_month (neg_ℤ (pos 2020)) 11)
    ∷ gives (codes "202112") (year_month (pos 2021) 12)
    ∷ [])
unfolding all_readings
year_months = refl

no_year_month : Compute parse_year_month (
    (goes_off (of_year_month after_year_in_year_month) DateMonth (codes "-202011|[!u-ca=iso8601]") ∷ [])
    ++ map (goes_off (of_year_month after_year_month) InvalidEnd) (codes "-00202011|Z[Europe/Berlin]" ∷ codes "2020-01|-01" ∷ [])
    ++ map (ends (of_date month_digits) abrupt_digit) (codes "2020-0" ∷ codes "20200" ∷ [])
    ++ (goes_off (of_date month_digits) DateMonth (codes "20200|x") ∷ [])
    ++ (meets_bad (of_date month_digits) (codes "20200") ∷ [])
    ++ (stands (of_date month_range) InvalidMonthRange (codes "202000|") ∷ [])
    ++ stands_before_bad (of_date month_range) InvalidMonthRange (codes "2020-13|") ∷ [])
unfolding all_readings
no_year_month = refl

-- ---- each row of the lines of month-days

abbrev month_day_lines : Profile → List LineName
month_day_lines profile =
    map of_month_day (month_day_start ∷ month_day_hyphen ∷ month_day_month_digits ∷ month_day_month_range
    ∷ after_month_day_month ∷ month_day_day_digits ∷ month_day_range profile ∷ after_month_day profile ∷ [])

abbrev month_day_rows : Profile → List Example
month_day_rows profile =
    three (of_month_day month_day_start) [] abrupt_month_day (codes "x") DateMonth
    ++ three (of_month_day month_day_hyphen) (codes "-") abrupt_month_day (codes "1") MonthDayHyphen
    ++ three (of_month_day month_day_month_digits) (codes "--") abrupt_digit (codes "x") DateMonth
    ++ one (of_month_day month_day_month_range) (codes "13") InvalidMonthRange
    ++ three (of_month_day after_month_day_month) (codes "11") abrupt_digit (codes "x") DateDay
    ++ three (of_month_day month_day_day_digits) (codes "11-") abrupt_digit (codes "x") DateDay
    ++ one (of_month_day (month_day_range profile)) (codes "02-30") InvalidMonthDay
    ++ two (of_month_day (after_month_day profile)) (codes "11-07") (codes "x") InvalidEnd

each_row_of_month_days : (profile : Profile) → ShowEachRow (parse_month_day profile) (month_day_lines profile) (month_day_rows profile)
unfolding all_readings
each_row_of_month_days Crate = (refl, refl)
each_row_of_month_days Strict = (refl, refl)

-- ---- month-days

abbrev month_day : ℕ → ℕ → Outcome
month_day month day = date (pos 0) month day

month_days : (profile : Profile) → Compute (parse_month_day profile) (
    gives (codes "11-07") (month_day 11 7)
    ∷ gives (codes "1107") (month_day 11 7)
    ∷ gives (codes "--11-07") (month_day 11 7)
    ∷ gives (codes "02-29") (month_day 2 29)
    ∷ gives (codes "0430") (month_day 4 30)
    ∷ gives (codes "1231") (month_day 12 31)
    ∷ gives (codes "--1107[+04:00]") (with (date_of (pos 0) 11 7) None None
    (Some (record { critical = false; zone = Offset (record { sign = Positive; hour = 4; minute = 0 }) })))
    ∷ [])
unfolding all_readings
month_days Crate = refl
month_days Strict = refl

no_month_day : (profile : Profile) → Compute (parse_month_day profile) (
    (goes_off (of_month_day month_day_hyphen) MonthDayHyphen (codes "-|11-07") ∷ [])
    ++ map (ends (of_month_day month_day_month_digits) abrupt_digit) (codes "1" ∷ codes "--1" ∷ [])
    ++ map (goes_off (of_month_day month_day_month_digits) DateMonth) (codes "1|-07" ∷ codes "--|-07" ∷ [])
    ++ (meets_bad (of_month_day month_day_month_digits) (codes "--1") ∷ [])
    ++ map (stands (of_month_day month_day_month_range) InvalidMonthRange) (codes "00|-07" ∷ codes "--13|" ∷ codes "20|20-01" ∷ [])
    ++ (goes_off (of_month_day after_month_day_month) DateDay (codes "11|/07") ∷ [])
    ++ map (ends (of_month_day month_day_day_digits) abrupt_digit) (codes "110" ∷ codes "11-0" ∷ [])
    ++ map (goes_off (of_month_day month_day_day_digits) DateDay) (codes "11-0|x" ∷ codes "11-|-7" ∷ [])
    ++ (meets_bad (of_month_day month_day_day_digits) (codes "110") ∷ [])
    ++ map (stands (of_month_day (month_day_range profile)) InvalidMonthDay) (codes "0230|" ∷ codes "04-31|" ∷ codes "12-32|x" ∷ [])
    ++ goes_off (of_month_day (after_month_day profile)) InvalidEnd (codes "11-07|1") ∷ [])
unfolding all_readings
no_month_day Crate = refl
no_month_day Strict = refl

-- ---- what the profile changes

day_zero : Compute (parse_month_day Crate) (
    (gives (codes "11-00") (month_day 11 0)
    ∷ gives (codes "--11-00") (month_day 11 0)
    ∷ gives (codes "0200") (month_day 2 0) ∷ [])
    ++ goes_off (of_month_day (after_month_day Crate)) InvalidEnd (codes "11-00|1") ∷ [])
unfolding all_readings
day_zero = refl

no_day_zero : Compute (parse_month_day Strict) (
    map (stands (of_month_day (month_day_range Strict)) InvalidMonthDay) (codes "11-00|" ∷ codes "--11-00|" ∷ codes "0200|" ∷ codes "11-00|1" ∷ [])
    ++ (stands_before_bad (of_month_day (month_day_range Strict)) InvalidMonthDay (codes "1100|") ∷ [])
    ++ gives (codes "11-01") (month_day 11 1) ∷ [])
unfolding all_readings
no_day_zero = refl
