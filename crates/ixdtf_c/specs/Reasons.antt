-- The numbers and the names of the reasons why a reader refuses a text.
use Rattle.ixdtf_grammar.specs.declared.reason.Reason.TheVariants as variants
use Rattle.std.specs.Prelude.{ℕ, ◌+◌, ◌-◌, List, [], ◌∷◌, map, get_or, nat_eq, if◌then◌else◌}
use Rattle.ixdtf_grammar.specs.contracts.reason.Reason as contracts
use denote.Enum.Declared.{tag_of}
use Rattle.ixdtf_grammar.specs.declared.reason.Reason.{Reason}
use Rattle.ixdtf_grammar.specs.ReasonNames.{reason_name}

-- The number of a reason. The numbers begin at 1 and follow the order in which `Reason` declares the reasons.
abbrev pub reason_number : Reason → ℕ
reason_number reason = tag_of contracts.the_type reason + 1

-- The reasons with the numbers 1 to 126, in order.
abbrev pub reasons_in_order : List Reason
reasons_in_order =
    variants.YearStart ∷ variants.YearDigits ∷ variants.ExtendedYearDigits ∷ variants.MinusZeroYear ∷ variants.AfterYear
    ∷ variants.MonthDigits ∷ variants.MonthRange ∷ variants.AfterHyphenedMonth ∷ variants.AfterBasicMonth ∷ variants.DayDigits
    ∷ variants.DayRange ∷ variants.AfterDate ∷ variants.AfterYearInYearMonth ∷ variants.AfterYearMonth ∷ variants.MonthDayStart
    ∷ variants.MonthDayHyphen ∷ variants.MonthDayMonthDigits ∷ variants.MonthDayMonthRange ∷ variants.AfterMonthDayMonth ∷ variants.MonthDayDayDigits
    ∷ variants.MonthDayRange ∷ variants.AfterMonthDay ∷ variants.TimeStart ∷ variants.TimeReadsAsMonthDay ∷ variants.TimeReadsAsYearMonth
    ∷ variants.HourStart ∷ variants.HourDigit ∷ variants.HourRange ∷ variants.AfterHour ∷ variants.MinuteDigits
    ∷ variants.MinuteRange ∷ variants.AfterBasicMinute ∷ variants.AfterColonMinute ∷ variants.SecondDigits ∷ variants.SecondRange
    ∷ variants.AfterSecond ∷ variants.FractionStart ∷ variants.AfterFraction ∷ variants.OffsetHourStart ∷ variants.OffsetHourDigit
    ∷ variants.OffsetHourRange ∷ variants.OffsetAfterHour ∷ variants.OffsetMinuteDigits ∷ variants.OffsetMinuteRange ∷ variants.OffsetAfterBasicMinute
    ∷ variants.OffsetAfterColonMinute ∷ variants.OffsetSecondDigits ∷ variants.OffsetSecondRange ∷ variants.OffsetAfterSecond ∷ variants.OffsetFractionStart
    ∷ variants.OffsetAfterFraction ∷ variants.ZoneOffsetHourStart ∷ variants.ZoneOffsetHourDigit ∷ variants.ZoneOffsetHourRange ∷ variants.ZoneOffsetAfterHour
    ∷ variants.ZoneOffsetMinuteDigits ∷ variants.ZoneOffsetMinuteRange ∷ variants.ZoneOffsetAfterBasicMinute ∷ variants.ZoneOffsetAfterColonMinute ∷ variants.ZoneOffsetSecondDigits
    ∷ variants.ZoneOffsetSecondRange ∷ variants.ZoneOffsetAfterSecond ∷ variants.ZoneOffsetFractionStart ∷ variants.ZoneOffsetAfterFraction ∷ variants.OffsetStart
    ∷ variants.AfterZulu ∷ variants.FourDigits ∷ variants.AfterFourDigits ∷ variants.MonthFieldDigits ∷ variants.DayFieldDigits
    ∷ variants.HourFieldDigits ∷ variants.MinuteFieldDigits ∷ variants.SecondFieldDigits ∷ variants.OffsetHourFieldDigits ∷ variants.OffsetMinuteFieldDigits
    ∷ variants.MonthFieldRange ∷ variants.DayFieldRange ∷ variants.HourFieldRange ∷ variants.MinuteFieldRange ∷ variants.SecondFieldRange
    ∷ variants.OffsetHourFieldRange ∷ variants.OffsetMinuteFieldRange ∷ variants.AfterMonthField ∷ variants.AfterDayField ∷ variants.AfterHourField
    ∷ variants.AfterMinuteField ∷ variants.AfterSecondField ∷ variants.AfterOffsetHourField ∷ variants.AfterOffsetMinuteField ∷ variants.AfterPoint
    ∷ variants.AfterSecfrac ∷ variants.AfterUtc ∷ variants.IdentifierStart ∷ variants.ZoneNameStart ∷ variants.InZoneName
    ∷ variants.AfterZoneSlash ∷ variants.FirstBracketStart ∷ variants.FirstCriticalStart ∷ variants.FirstBracketScan ∷ variants.FirstNameForm
    ∷ variants.FirstOffsetForm ∷ variants.AfterBracket ∷ variants.KeyStart ∷ variants.CriticalKeyStart ∷ variants.InKey
    ∷ variants.ValueStart ∷ variants.InValue ∷ variants.AfterValueHyphen ∷ variants.DurationStart ∷ variants.AfterDurationSign
    ∷ variants.AfterDurationDesignator ∷ variants.AfterDateGroups ∷ variants.AfterTimeDesignator ∷ variants.AfterTimeGroups ∷ variants.AfterFractionGroup
    ∷ variants.DateGroupDigits ∷ variants.TimeGroupDigits ∷ variants.DateGroupRange ∷ variants.TimeGroupRange ∷ variants.DateUnitOrder
    ∷ variants.TimeUnitOrder ∷ variants.DateUnitRange ∷ variants.GroupFractionStart ∷ variants.GroupFractionDigits ∷ variants.UnrecognizedCritical
    ∷ variants.CriticalDuplicateCalendar ∷ []

-- The name of the reason with this number. For every other number, the name is empty.
abbrev pub line_of : ℕ → List ℕ
line_of number = if nat_eq number 0 then [] else get_or (map reason_name reasons_in_order) (number - 1) []
