-- The texts of errors.
use Rattle.std.specs.Prelude.{ℕ, List, ◌++◌, codes}
use Rattle.ixdtf_grammar.specs.table.Faults.{Fault, Fault.{ImplAssert, NonAsciiCodePoint, ParseFloat, AbruptEnd, InvalidEnd, InvalidMonthRange}}
use Rattle.ixdtf_grammar.specs.table.Faults.Fault.{InvalidDayRange, DateYear, DateExtendedYear, DateMonth, DateDay, DateUnexpectedEnd, TimeRequired, TimeHour}
use Rattle.ixdtf_grammar.specs.table.Faults.Fault.{TimeMinuteSecond, TimeSecond, FractionPart, DateSeparator, TimeSeparator, DecimalSeparator}
use Rattle.ixdtf_grammar.specs.table.Faults.Fault.{InvalidAnnotation, AnnotationOpen, AnnotationClose, AnnotationChar, AnnotationKeyValueSeparator}
use Rattle.ixdtf_grammar.specs.table.Faults.Fault.{AnnotationKeyLeadingChar, AnnotationKeyChar, AnnotationValueCharPostHyphen, AnnotationValueChar}
use Rattle.ixdtf_grammar.specs.table.Faults.Fault.{InvalidMinutePrecisionOffset, CriticalDuplicateCalendar, UnrecognizedCritical, TzLeadingChar}
use Rattle.ixdtf_grammar.specs.table.Faults.Fault.{IanaCharPostSeparator, IanaChar, UtcTimeSeparator, OffsetNeedsSign, MonthDayHyphen, DurationDisgnator}
use Rattle.ixdtf_grammar.specs.table.Faults.Fault.{DurationValueExceededRange, DateDurationPartOrder, TimeDurationPartOrder, TimeDurationDesignator}
use Rattle.ixdtf_grammar.specs.table.Faults.Fault.{AmbiguousTimeMonthDay, AmbiguousTimeYearMonth, InvalidMonthDay}

-- This is the text that `to_static_string` returns for an error.
abbrev pub text_of : Fault → List ℕ
text_of ImplAssert = codes "Implementation error: this error must not throw."
text_of NonAsciiCodePoint = codes "Code point was not ASCII"
text_of ParseFloat = codes "Invalid float while parsing fraction part."
text_of (AbruptEnd location) = codes "Parsing ended abruptly."
text_of InvalidEnd = codes "Unexpected character found after parsing was completed."
text_of InvalidMonthRange = codes "Parsed month value not in a valid range."
text_of InvalidDayRange = codes "Parsed day value not in a valid range."
text_of DateYear = codes "Invalid chracter while parsing year value."
text_of DateExtendedYear = codes "Invalid character while parsing extended year value."
text_of DateMonth = codes "Invalid character while parsing month value."
text_of DateDay = codes "Invalid character while parsing day value."
text_of DateUnexpectedEnd = codes "Unexpected end while parsing a date value."
text_of TimeRequired = codes "Time is required."
text_of TimeHour = codes "Invalid character while parsing hour value."
text_of TimeMinuteSecond = codes "Invalid character while parsing minute/second value in (0, 59] range."
text_of TimeSecond = codes "Invalid character while parsing second value in (0, 60] range."
text_of FractionPart = codes "Invalid character while parsing fraction part value."
text_of DateSeparator = codes "Invalid character while parsing date separator."
text_of TimeSeparator = codes "Invalid character while parsing time separator."
text_of DecimalSeparator = codes "Invalid character while parsing decimal separator."
text_of InvalidAnnotation = codes "Invalid annotation."
text_of AnnotationOpen = codes "Invalid annotation open character."
text_of AnnotationClose = codes "Invalid annotation close character."
text_of AnnotationChar = codes "Invalid annotation character."
text_of AnnotationKeyValueSeparator = codes "Invalid annotation key-value separator character."
text_of AnnotationKeyLeadingChar = codes "Invalid annotation key leading character."
text_of AnnotationKeyChar = codes "Invalid annotation key character."
text_of AnnotationValueCharPostHyphen = codes "Expected annotation value character must exist after hyphen."
text_of AnnotationValueChar = codes "Invalid annotation value character."
text_of InvalidMinutePrecisionOffset = codes "Offset must be minute precision"
text_of CriticalDuplicateCalendar = codes "Duplicate calendars cannot be provided when one is critical."
text_of UnrecognizedCritical = codes "Unrecognized annoation is marked as critical."
text_of TzLeadingChar = codes "Invalid time zone leading character."
text_of IanaCharPostSeparator = codes "Expected time zone character after '/'."
text_of IanaChar = codes "Invalid IANA time zone character after '/'."
text_of UtcTimeSeparator = codes "Invalid time zone character after '/'."
text_of OffsetNeedsSign = codes "UTC offset needs a sign"
text_of MonthDayHyphen = codes "MonthDay must begin with a month or '--'"
text_of DurationDisgnator = codes "Invalid duration designator."
text_of DurationValueExceededRange = codes "Provided Duration field value exceeds supported range."
text_of DateDurationPartOrder = codes "Invalid date duration part order."
text_of TimeDurationPartOrder = codes "Invalid time duration part order."
text_of TimeDurationDesignator = codes "Invalid time duration designator."
text_of AmbiguousTimeMonthDay = codes "Time is ambiguous with MonthDay"
text_of AmbiguousTimeYearMonth = codes "Time is ambiguous with YearMonth"
text_of InvalidMonthDay = codes "MonthDay was not valid."

-- This is the text that `Display` writes for an error.
abbrev pub message_of : Fault → List ℕ
message_of (AbruptEnd location) = codes "Parsing ended abruptly while parsing " ++ location
message_of fault = text_of fault
