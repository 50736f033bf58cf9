-- The part of a text that is wrong, by the reason and the position of the error.
use Rattle.ixdtf_grammar.specs.declared.reason.Reason.TheVariants as reasons
use Rattle.ixdtf_explanations.specs.declared.part.Extent.TheVariants as extents
use Rattle.std.specs.Prelude.{◌≡◌, ◌⊎◌, ℕ, Bool, true, false, ◌+◌, ◌-◌, ◌<◌, ◌≤◌, min, IsTrue, IsFalse, List, length, slice_index_or}
use Rattle.ixdtf_grammar.specs.language.Letters.{Class, ◌or◌, digit, decimal_mark, opening}
use Rattle.ixdtf_grammar.specs.declared.reason.Reason.{Reason}
use Rattle.ixdtf_explanations.specs.declared.part.{Extent.Extent, WrongPart.WrongPart}

-- The byte is a digit, `.` or `,`.
abbrev pub of_number : Class
of_number = digit or decimal_mark

-- All bytes from `begin` up to `end` are in the class. The byte before `begin` is not, or there is none.
pub record RunsBack (class : Class) (text : List ℕ) (begin end : ℕ) : Type 0 where
  pub within : begin ≤ end
  pub inside : (i : ℕ) → begin ≤ i → i < end → IsTrue (class (slice_index_or text i 0))
  pub longest : 0 < begin → IsFalse (class (slice_index_or text (begin - 1) 0))

-- All bytes from `begin` up to `end` are in the class. The byte at `end` is not, or there is none.
pub record RunsOn (class : Class) (text : List ℕ) (begin end : ℕ) : Type 0 where
  pub within : (begin ≤ end) × (end ≤ length text)
  pub inside : (i : ℕ) → begin ≤ i → i < end → IsTrue (class (slice_index_or text i 0))
  pub longest : end < length text → IsFalse (class (slice_index_or text end 0))

-- There is no `[` from `begin` up to `end`.
abbrev pub HasNoOpening : List ℕ → ℕ → ℕ → Type 0
HasNoOpening text begin end = (i : ℕ) → begin ≤ i → i < end → IsFalse (opening (slice_index_or text i 0))

-- The last `[` before `end` is at `begin`, or there is none and `begin` is 0.
abbrev pub IsLastOpening : List ℕ → ℕ → ℕ → Type 0
IsLastOpening text begin end =
    ((begin < end) × IsTrue (opening (slice_index_or text begin 0)) × HasNoOpening text (begin + 1) end)
    ⊎ ((begin ≡ 0) × HasNoOpening text 0 end)

-- Where the part is for a reason.
abbrev pub extent_of : Reason → Extent
extent_of reasons.YearStart = extents.Byte
extent_of reasons.YearDigits = extents.Byte
extent_of reasons.ExtendedYearDigits = extents.Byte
extent_of reasons.MinusZeroYear = extents.Front
extent_of reasons.AfterYear = extents.Byte
extent_of reasons.MonthDigits = extents.Byte
extent_of reasons.MonthRange = extents.TwoDigits
extent_of reasons.AfterHyphenedMonth = extents.Byte
extent_of reasons.AfterBasicMonth = extents.Byte
extent_of reasons.DayDigits = extents.Byte
extent_of reasons.DayRange = extents.TwoDigits
extent_of reasons.AfterDate = extents.Byte
extent_of reasons.AfterYearInYearMonth = extents.Byte
extent_of reasons.AfterYearMonth = extents.Byte
extent_of reasons.MonthDayStart = extents.Byte
extent_of reasons.MonthDayHyphen = extents.Byte
extent_of reasons.MonthDayMonthDigits = extents.Byte
extent_of reasons.MonthDayMonthRange = extents.TwoDigits
extent_of reasons.AfterMonthDayMonth = extents.Byte
extent_of reasons.MonthDayDayDigits = extents.Byte
extent_of reasons.MonthDayRange = extents.TwoDigits
extent_of reasons.AfterMonthDay = extents.Byte
extent_of reasons.TimeStart = extents.Byte
extent_of reasons.TimeReadsAsMonthDay = extents.Front
extent_of reasons.TimeReadsAsYearMonth = extents.Front
extent_of reasons.HourStart = extents.Byte
extent_of reasons.HourDigit = extents.Byte
extent_of reasons.HourRange = extents.TwoDigits
extent_of reasons.AfterHour = extents.Byte
extent_of reasons.MinuteDigits = extents.Byte
extent_of reasons.MinuteRange = extents.TwoDigits
extent_of reasons.AfterBasicMinute = extents.Byte
extent_of reasons.AfterColonMinute = extents.Byte
extent_of reasons.SecondDigits = extents.Byte
extent_of reasons.SecondRange = extents.TwoDigits
extent_of reasons.AfterSecond = extents.Byte
extent_of reasons.FractionStart = extents.Byte
extent_of reasons.AfterFraction = extents.Byte
extent_of reasons.OffsetHourStart = extents.Byte
extent_of reasons.OffsetHourDigit = extents.Byte
extent_of reasons.OffsetHourRange = extents.TwoDigits
extent_of reasons.OffsetAfterHour = extents.Byte
extent_of reasons.OffsetMinuteDigits = extents.Byte
extent_of reasons.OffsetMinuteRange = extents.TwoDigits
extent_of reasons.OffsetAfterBasicMinute = extents.Byte
extent_of reasons.OffsetAfterColonMinute = extents.Byte
extent_of reasons.OffsetSecondDigits = extents.Byte
extent_of reasons.OffsetSecondRange = extents.TwoDigits
extent_of reasons.OffsetAfterSecond = extents.Byte
extent_of reasons.OffsetFractionStart = extents.Byte
extent_of reasons.OffsetAfterFraction = extents.Byte
extent_of reasons.ZoneOffsetHourStart = extents.Byte
extent_of reasons.ZoneOffsetHourDigit = extents.Byte
extent_of reasons.ZoneOffsetHourRange = extents.TwoDigits
extent_of reasons.ZoneOffsetAfterHour = extents.Byte
extent_of reasons.ZoneOffsetMinuteDigits = extents.Byte
extent_of reasons.ZoneOffsetMinuteRange = extents.TwoDigits
extent_of reasons.ZoneOffsetAfterBasicMinute = extents.Byte
extent_of reasons.ZoneOffsetAfterColonMinute = extents.Byte
extent_of reasons.ZoneOffsetSecondDigits = extents.Byte
extent_of reasons.ZoneOffsetSecondRange = extents.TwoDigits
extent_of reasons.ZoneOffsetAfterSecond = extents.Byte
extent_of reasons.ZoneOffsetFractionStart = extents.Byte
extent_of reasons.ZoneOffsetAfterFraction = extents.Byte
extent_of reasons.OffsetStart = extents.Byte
extent_of reasons.AfterZulu = extents.Byte
extent_of reasons.FourDigits = extents.Byte
extent_of reasons.AfterFourDigits = extents.Byte
extent_of reasons.MonthFieldDigits = extents.Byte
extent_of reasons.DayFieldDigits = extents.Byte
extent_of reasons.HourFieldDigits = extents.Byte
extent_of reasons.MinuteFieldDigits = extents.Byte
extent_of reasons.SecondFieldDigits = extents.Byte
extent_of reasons.OffsetHourFieldDigits = extents.Byte
extent_of reasons.OffsetMinuteFieldDigits = extents.Byte
extent_of reasons.MonthFieldRange = extents.TwoDigits
extent_of reasons.DayFieldRange = extents.TwoDigits
extent_of reasons.HourFieldRange = extents.TwoDigits
extent_of reasons.MinuteFieldRange = extents.TwoDigits
extent_of reasons.SecondFieldRange = extents.TwoDigits
extent_of reasons.OffsetHourFieldRange = extents.TwoDigits
extent_of reasons.OffsetMinuteFieldRange = extents.TwoDigits
extent_of reasons.AfterMonthField = extents.Byte
extent_of reasons.AfterDayField = extents.Byte
extent_of reasons.AfterHourField = extents.Byte
extent_of reasons.AfterMinuteField = extents.Byte
extent_of reasons.AfterSecondField = extents.Byte
extent_of reasons.AfterOffsetHourField = extents.Byte
extent_of reasons.AfterOffsetMinuteField = extents.Byte
extent_of reasons.AfterPoint = extents.Byte
extent_of reasons.AfterSecfrac = extents.Byte
extent_of reasons.AfterUtc = extents.Byte
extent_of reasons.IdentifierStart = extents.Byte
extent_of reasons.ZoneNameStart = extents.Byte
extent_of reasons.InZoneName = extents.Byte
extent_of reasons.AfterZoneSlash = extents.Byte
extent_of reasons.FirstBracketStart = extents.Byte
extent_of reasons.FirstCriticalStart = extents.Byte
extent_of reasons.FirstBracketScan = extents.Byte
extent_of reasons.FirstNameForm = extents.Bracket
extent_of reasons.FirstOffsetForm = extents.Bracket
extent_of reasons.AfterBracket = extents.Byte
extent_of reasons.KeyStart = extents.Byte
extent_of reasons.CriticalKeyStart = extents.Byte
extent_of reasons.InKey = extents.Byte
extent_of reasons.ValueStart = extents.Byte
extent_of reasons.InValue = extents.Byte
extent_of reasons.AfterValueHyphen = extents.Byte
extent_of reasons.DurationStart = extents.Byte
extent_of reasons.AfterDurationSign = extents.Byte
extent_of reasons.AfterDurationDesignator = extents.Byte
extent_of reasons.AfterDateGroups = extents.Byte
extent_of reasons.AfterTimeDesignator = extents.Byte
extent_of reasons.AfterTimeGroups = extents.Byte
extent_of reasons.AfterFractionGroup = extents.Byte
extent_of reasons.DateGroupDigits = extents.Byte
extent_of reasons.TimeGroupDigits = extents.Byte
extent_of reasons.DateGroupRange = extents.Number
extent_of reasons.TimeGroupRange = extents.Number
extent_of reasons.DateUnitOrder = extents.Group
extent_of reasons.TimeUnitOrder = extents.Group
extent_of reasons.DateUnitRange = extents.NumberBeforeUnit
extent_of reasons.GroupFractionStart = extents.Byte
extent_of reasons.GroupFractionDigits = extents.Byte
extent_of reasons.UnrecognizedCritical = extents.Bracket
extent_of reasons.CriticalDuplicateCalendar = extents.Bracket

abbrev pub is_range : Reason → Bool
is_range reasons.YearStart = false
is_range reasons.YearDigits = false
is_range reasons.ExtendedYearDigits = false
is_range reasons.MinusZeroYear = false
is_range reasons.AfterYear = false
is_range reasons.MonthDigits = false
is_range reasons.MonthRange = true
is_range reasons.AfterHyphenedMonth = false
is_range reasons.AfterBasicMonth = false
is_range reasons.DayDigits = false
is_range reasons.DayRange = true
is_range reasons.AfterDate = false
is_range reasons.AfterYearInYearMonth = false
is_range reasons.AfterYearMonth = false
is_range reasons.MonthDayStart = false
is_range reasons.MonthDayHyphen = false
is_range reasons.MonthDayMonthDigits = false
is_range reasons.MonthDayMonthRange = true
is_range reasons.AfterMonthDayMonth = false
is_range reasons.MonthDayDayDigits = false
is_range reasons.MonthDayRange = true
is_range reasons.AfterMonthDay = false
is_range reasons.TimeStart = false
is_range reasons.TimeReadsAsMonthDay = false
is_range reasons.TimeReadsAsYearMonth = false
is_range reasons.HourStart = false
is_range reasons.HourDigit = false
is_range reasons.HourRange = true
is_range reasons.AfterHour = false
is_range reasons.MinuteDigits = false
is_range reasons.MinuteRange = true
is_range reasons.AfterBasicMinute = false
is_range reasons.AfterColonMinute = false
is_range reasons.SecondDigits = false
is_range reasons.SecondRange = true
is_range reasons.AfterSecond = false
is_range reasons.FractionStart = false
is_range reasons.AfterFraction = false
is_range reasons.OffsetHourStart = false
is_range reasons.OffsetHourDigit = false
is_range reasons.OffsetHourRange = true
is_range reasons.OffsetAfterHour = false
is_range reasons.OffsetMinuteDigits = false
is_range reasons.OffsetMinuteRange = true
is_range reasons.OffsetAfterBasicMinute = false
is_range reasons.OffsetAfterColonMinute = false
is_range reasons.OffsetSecondDigits = false
is_range reasons.OffsetSecondRange = true
is_range reasons.OffsetAfterSecond = false
is_range reasons.OffsetFractionStart = false
is_range reasons.OffsetAfterFraction = false
is_range reasons.ZoneOffsetHourStart = false
is_range reasons.ZoneOffsetHourDigit = false
is_range reasons.ZoneOffsetHourRange = true
is_range reasons.ZoneOffsetAfterHour = false
is_range reasons.ZoneOffsetMinuteDigits = false
is_range reasons.ZoneOffsetMinuteRange = true
is_range reasons.ZoneOffsetAfterBasicMinute = false
is_range reasons.ZoneOffsetAfterColonMinute = false
is_range reasons.ZoneOffsetSecondDigits = false
is_range reasons.ZoneOffsetSecondRange = true
is_range reasons.ZoneOffsetAfterSecond = false
is_range reasons.ZoneOffsetFractionStart = false
is_range reasons.ZoneOffsetAfterFraction = false
is_range reasons.OffsetStart = false
is_range reasons.AfterZulu = false
is_range reasons.FourDigits = false
is_range reasons.AfterFourDigits = false
is_range reasons.MonthFieldDigits = false
is_range reasons.DayFieldDigits = false
is_range reasons.HourFieldDigits = false
is_range reasons.MinuteFieldDigits = false
is_range reasons.SecondFieldDigits = false
is_range reasons.OffsetHourFieldDigits = false
is_range reasons.OffsetMinuteFieldDigits = false
is_range reasons.MonthFieldRange = true
is_range reasons.DayFieldRange = true
is_range reasons.HourFieldRange = true
is_range reasons.MinuteFieldRange = true
is_range reasons.SecondFieldRange = true
is_range reasons.OffsetHourFieldRange = true
is_range reasons.OffsetMinuteFieldRange = true
is_range reasons.AfterMonthField = false
is_range reasons.AfterDayField = false
is_range reasons.AfterHourField = false
is_range reasons.AfterMinuteField = false
is_range reasons.AfterSecondField = false
is_range reasons.AfterOffsetHourField = false
is_range reasons.AfterOffsetMinuteField = false
is_range reasons.AfterPoint = false
is_range reasons.AfterSecfrac = false
is_range reasons.AfterUtc = false
is_range reasons.IdentifierStart = false
is_range reasons.ZoneNameStart = false
is_range reasons.InZoneName = false
is_range reasons.AfterZoneSlash = false
is_range reasons.FirstBracketStart = false
is_range reasons.FirstCriticalStart = false
is_range reasons.FirstBracketScan = false
is_range reasons.FirstNameForm = false
is_range reasons.FirstOffsetForm = false
is_range reasons.AfterBracket = false
is_range reasons.KeyStart = false
is_range reasons.CriticalKeyStart = false
is_range reasons.InKey = false
is_range reasons.ValueStart = false
is_range reasons.InValue = false
is_range reasons.AfterValueHyphen = false
is_range reasons.DurationStart = false
is_range reasons.AfterDurationSign = false
is_range reasons.AfterDurationDesignator = false
is_range reasons.AfterDateGroups = false
is_range reasons.AfterTimeDesignator = false
is_range reasons.AfterTimeGroups = false
is_range reasons.AfterFractionGroup = false
is_range reasons.DateGroupDigits = false
is_range reasons.TimeGroupDigits = false
is_range reasons.DateGroupRange = false
is_range reasons.TimeGroupRange = false
is_range reasons.DateUnitOrder = false
is_range reasons.TimeUnitOrder = false
is_range reasons.DateUnitRange = false
is_range reasons.GroupFractionStart = false
is_range reasons.GroupFractionDigits = false
is_range reasons.UnrecognizedCritical = false
is_range reasons.CriticalDuplicateCalendar = false

-- The part of the text, if the position of the error is `at`.
abbrev pub IsPart : Extent → List ℕ → ℕ → WrongPart → Type 0
IsPart extents.Byte text at part = (part.begin ≡ at) × (part.end ≡ min (at + 1) (length text))
IsPart extents.TwoDigits text at part = (part.begin ≡ at - 2) × (part.end ≡ at)
IsPart extents.Front text at part = (part.begin ≡ 0) × (part.end ≡ at)
IsPart extents.Number text at part = RunsBack of_number text part.begin at × RunsOn digit text at part.end
IsPart extents.Group text at part = RunsBack of_number text part.begin (at - 1) × (part.end ≡ at)
IsPart extents.NumberBeforeUnit text at part = RunsBack of_number text part.begin (at - 1) × (part.end ≡ at - 1)
IsPart extents.Bracket text at part = IsLastOpening text part.begin at × (part.end ≡ at)
