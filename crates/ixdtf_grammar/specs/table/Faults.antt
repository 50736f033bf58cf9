-- The errors as the definitions see them: an error has the bytes of its location, and not an address.
use Rattle.ixdtf_grammar.specs.declared.error.ParseError.TheVariants as errors
use Rattle.std.specs.Prelude.{◌≡◌, ℕ, List, Bool, true, false}
use Rattle.ixdtf_grammar.specs.declared.{error.ParseError.ParseError, reason.Reason.Reason}

-- A `Fault` is an error, with the bytes of its location.
pub data Fault : Type 0 where
  ImplAssert : Fault
  NonAsciiCodePoint : Fault
  ParseFloat : Fault
  AbruptEnd : List ℕ → Fault
  InvalidEnd : Fault
  InvalidMonthRange : Fault
  InvalidDayRange : Fault
  DateYear : Fault
  DateExtendedYear : Fault
  DateMonth : Fault
  DateDay : Fault
  DateUnexpectedEnd : Fault
  TimeRequired : Fault
  TimeHour : Fault
  TimeMinuteSecond : Fault
  TimeSecond : Fault
  FractionPart : Fault
  DateSeparator : Fault
  TimeSeparator : Fault
  DecimalSeparator : Fault
  InvalidAnnotation : Fault
  AnnotationOpen : Fault
  AnnotationClose : Fault
  AnnotationChar : Fault
  AnnotationKeyValueSeparator : Fault
  AnnotationKeyLeadingChar : Fault
  AnnotationKeyChar : Fault
  AnnotationValueCharPostHyphen : Fault
  AnnotationValueChar : Fault
  InvalidMinutePrecisionOffset : Fault
  CriticalDuplicateCalendar : Fault
  UnrecognizedCritical : Fault
  TzLeadingChar : Fault
  IanaCharPostSeparator : Fault
  IanaChar : Fault
  UtcTimeSeparator : Fault
  OffsetNeedsSign : Fault
  MonthDayHyphen : Fault
  DurationDisgnator : Fault
  DurationValueExceededRange : Fault
  DateDurationPartOrder : Fault
  TimeDurationPartOrder : Fault
  TimeDurationDesignator : Fault
  AmbiguousTimeMonthDay : Fault
  AmbiguousTimeYearMonth : Fault
  InvalidMonthDay : Fault

-- This is the `Fault` of an error.
abbrev pub fault_of : ParseError → Fault
fault_of errors.ImplAssert = ImplAssert
fault_of errors.NonAsciiCodePoint = NonAsciiCodePoint
fault_of errors.ParseFloat = ParseFloat
fault_of (errors.AbruptEnd location) = AbruptEnd location.now
fault_of errors.InvalidEnd = InvalidEnd
fault_of errors.InvalidMonthRange = InvalidMonthRange
fault_of errors.InvalidDayRange = InvalidDayRange
fault_of errors.DateYear = DateYear
fault_of errors.DateExtendedYear = DateExtendedYear
fault_of errors.DateMonth = DateMonth
fault_of errors.DateDay = DateDay
fault_of errors.DateUnexpectedEnd = DateUnexpectedEnd
fault_of errors.TimeRequired = TimeRequired
fault_of errors.TimeHour = TimeHour
fault_of errors.TimeMinuteSecond = TimeMinuteSecond
fault_of errors.TimeSecond = TimeSecond
fault_of errors.FractionPart = FractionPart
fault_of errors.DateSeparator = DateSeparator
fault_of errors.TimeSeparator = TimeSeparator
fault_of errors.DecimalSeparator = DecimalSeparator
fault_of errors.InvalidAnnotation = InvalidAnnotation
fault_of errors.AnnotationOpen = AnnotationOpen
fault_of errors.AnnotationClose = AnnotationClose
fault_of errors.AnnotationChar = AnnotationChar
fault_of errors.AnnotationKeyValueSeparator = AnnotationKeyValueSeparator
fault_of errors.AnnotationKeyLeadingChar = AnnotationKeyLeadingChar
fault_of errors.AnnotationKeyChar = AnnotationKeyChar
fault_of errors.AnnotationValueCharPostHyphen = AnnotationValueCharPostHyphen
fault_of errors.AnnotationValueChar = AnnotationValueChar
fault_of errors.InvalidMinutePrecisionOffset = InvalidMinutePrecisionOffset
fault_of errors.CriticalDuplicateCalendar = CriticalDuplicateCalendar
fault_of errors.UnrecognizedCritical = UnrecognizedCritical
fault_of errors.TzLeadingChar = TzLeadingChar
fault_of errors.IanaCharPostSeparator = IanaCharPostSeparator
fault_of errors.IanaChar = IanaChar
fault_of errors.UtcTimeSeparator = UtcTimeSeparator
fault_of errors.OffsetNeedsSign = OffsetNeedsSign
fault_of errors.MonthDayHyphen = MonthDayHyphen
fault_of errors.DurationDisgnator = DurationDisgnator
fault_of errors.DurationValueExceededRange = DurationValueExceededRange
fault_of errors.DateDurationPartOrder = DateDurationPartOrder
fault_of errors.TimeDurationPartOrder = TimeDurationPartOrder
fault_of errors.TimeDurationDesignator = TimeDurationDesignator
fault_of errors.AmbiguousTimeMonthDay = AmbiguousTimeMonthDay
fault_of errors.AmbiguousTimeYearMonth = AmbiguousTimeYearMonth
fault_of errors.InvalidMonthDay = InvalidMonthDay

-- An error without a position agrees with every reason and with every position.
abbrev pub stands_anywhere : Reason → ℕ → ParseError → Type 0
stands_anywhere reason at e = Unit {0}

-- No reader returns these errors.
abbrev pub never_comes : Fault → Bool
never_comes ImplAssert = true
never_comes ParseFloat = true
never_comes AnnotationOpen = true
never_comes DateUnexpectedEnd = true
never_comes TimeRequired = true
never_comes DecimalSeparator = true
never_comes InvalidAnnotation = true
never_comes AnnotationChar = true
never_comes fault = false

-- These are the errors of refused replies. No row of the fault table has them.
abbrev pub is_refusal : Fault → Bool
is_refusal UnrecognizedCritical = true
is_refusal CriticalDuplicateCalendar = true
is_refusal fault = false
