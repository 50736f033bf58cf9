-- Equality of errors: two errors are equal if they are the same variant, and their locations have equal bytes.
use Rattle.std.specs.{Prelude.{◌≡◌, ℕ, Bool, List, [], ◌∷◌, slice_index_or, refl}, Bool.Decides, Ordering.on, Str.bytes_eq}
use Rattle.std.specs.Cmp.{IsPartialEquivalence, partial_equiv_from_equiv, Lexicographic.on_texts_equal}
use Rattle.std.proofs.{Common.{sym, ap, ◌∙◌}, lemmas.Slice.Eq.bytes_eq-Decides}
use Rattle.ixdtf_grammar.specs.{declared.error.ParseError.ParseError, table.Faults.{Fault, fault_of, Fault.{ImplAssert, NonAsciiCodePoint, ParseFloat}}}
use Rattle.ixdtf_grammar.specs.table.Faults.Fault.{AbruptEnd, InvalidEnd, InvalidMonthRange, InvalidDayRange, DateYear, DateExtendedYear, DateMonth, DateDay}
use Rattle.ixdtf_grammar.specs.table.Faults.Fault.{DateUnexpectedEnd, TimeRequired, TimeHour, TimeMinuteSecond, TimeSecond, FractionPart, DateSeparator}
use Rattle.ixdtf_grammar.specs.table.Faults.Fault.{TimeSeparator, DecimalSeparator, InvalidAnnotation, AnnotationOpen, AnnotationClose, AnnotationChar}
use Rattle.ixdtf_grammar.specs.table.Faults.Fault.{AnnotationKeyValueSeparator, AnnotationKeyLeadingChar, AnnotationKeyChar, AnnotationValueCharPostHyphen}
use Rattle.ixdtf_grammar.specs.table.Faults.Fault.{AnnotationValueChar, InvalidMinutePrecisionOffset, CriticalDuplicateCalendar, UnrecognizedCritical}
use Rattle.ixdtf_grammar.specs.table.Faults.Fault.{TzLeadingChar, IanaCharPostSeparator, IanaChar, UtcTimeSeparator, OffsetNeedsSign, MonthDayHyphen}
use Rattle.ixdtf_grammar.specs.table.Faults.Fault.{DurationDisgnator, DurationValueExceededRange, DateDurationPartOrder, TimeDurationPartOrder}
use Rattle.ixdtf_grammar.specs.table.Faults.Fault.{TimeDurationDesignator, AmbiguousTimeMonthDay, AmbiguousTimeYearMonth, InvalidMonthDay}

-- This is the index of an error in the list of all errors.
abbrev pub variant_index_of : Fault → ℕ
variant_index_of ImplAssert = 0
variant_index_of NonAsciiCodePoint = 1
variant_index_of ParseFloat = 2
variant_index_of (AbruptEnd location) = 3
variant_index_of InvalidEnd = 4
variant_index_of InvalidMonthRange = 5
variant_index_of InvalidDayRange = 6
variant_index_of DateYear = 7
variant_index_of DateExtendedYear = 8
variant_index_of DateMonth = 9
variant_index_of DateDay = 10
variant_index_of DateUnexpectedEnd = 11
variant_index_of TimeRequired = 12
variant_index_of TimeHour = 13
variant_index_of TimeMinuteSecond = 14
variant_index_of TimeSecond = 15
variant_index_of FractionPart = 16
variant_index_of DateSeparator = 17
variant_index_of TimeSeparator = 18
variant_index_of DecimalSeparator = 19
variant_index_of InvalidAnnotation = 20
variant_index_of AnnotationOpen = 21
variant_index_of AnnotationClose = 22
variant_index_of AnnotationChar = 23
variant_index_of AnnotationKeyValueSeparator = 24
variant_index_of AnnotationKeyLeadingChar = 25
variant_index_of AnnotationKeyChar = 26
variant_index_of AnnotationValueCharPostHyphen = 27
variant_index_of AnnotationValueChar = 28
variant_index_of InvalidMinutePrecisionOffset = 29
variant_index_of CriticalDuplicateCalendar = 30
variant_index_of UnrecognizedCritical = 31
variant_index_of TzLeadingChar = 32
variant_index_of IanaCharPostSeparator = 33
variant_index_of IanaChar = 34
variant_index_of UtcTimeSeparator = 35
variant_index_of OffsetNeedsSign = 36
variant_index_of MonthDayHyphen = 37
variant_index_of DurationDisgnator = 38
variant_index_of DurationValueExceededRange = 39
variant_index_of DateDurationPartOrder = 40
variant_index_of TimeDurationPartOrder = 41
variant_index_of TimeDurationDesignator = 42
variant_index_of AmbiguousTimeMonthDay = 43
variant_index_of AmbiguousTimeYearMonth = 44
variant_index_of InvalidMonthDay = 45

-- This is the location of an error, or nothing if the error has no location.
abbrev pub location_of : Fault → List ℕ
location_of (AbruptEnd location) = location
location_of fault = []

-- This list has the index of the error, and then the bytes of its location.
abbrev pub spelled : Fault → List ℕ
spelled f = variant_index_of f ∷ location_of f

-- This says whether two errors are equal.
abbrev pub same_error : ParseError → ParseError → Bool
same_error = on (λ e. spelled (fault_of e)) bytes_eq

pub same_error-laws : IsPartialEquivalence same_error
same_error-laws = partial_equiv_from_equiv (on_texts_equal (λ e. spelled (fault_of e)))

-- These are all errors, in the order of their indices.
faults : List ℕ → List Fault
faults location =
    ImplAssert ∷ NonAsciiCodePoint ∷ ParseFloat ∷ AbruptEnd location ∷ InvalidEnd ∷ InvalidMonthRange ∷ InvalidDayRange ∷ DateYear ∷
    DateExtendedYear ∷ DateMonth ∷ DateDay ∷ DateUnexpectedEnd ∷ TimeRequired ∷ TimeHour ∷ TimeMinuteSecond ∷ TimeSecond ∷ FractionPart ∷
    DateSeparator ∷ TimeSeparator ∷ DecimalSeparator ∷ InvalidAnnotation ∷ AnnotationOpen ∷ AnnotationClose ∷ AnnotationChar ∷
    AnnotationKeyValueSeparator ∷ AnnotationKeyLeadingChar ∷ AnnotationKeyChar ∷ AnnotationValueCharPostHyphen ∷ AnnotationValueChar ∷
    InvalidMinutePrecisionOffset ∷ CriticalDuplicateCalendar ∷ UnrecognizedCritical ∷ TzLeadingChar ∷ IanaCharPostSeparator ∷ IanaChar ∷
    UtcTimeSeparator ∷ OffsetNeedsSign ∷ MonthDayHyphen ∷ DurationDisgnator ∷ DurationValueExceededRange ∷ DateDurationPartOrder ∷
    TimeDurationPartOrder ∷ TimeDurationDesignator ∷ AmbiguousTimeMonthDay ∷ AmbiguousTimeYearMonth ∷ InvalidMonthDay ∷ []

-- This is the error that has this index and this location.
fault_at : List ℕ → Fault
fault_at [] = ImplAssert
fault_at (place ∷ location) = slice_index_or (faults location) place ImplAssert

fault_at-spelled : (f : Fault) → fault_at (spelled f) ≡ f
unfolding fault_at faults
fault_at-spelled ImplAssert = refl
fault_at-spelled NonAsciiCodePoint = refl
fault_at-spelled ParseFloat = refl
fault_at-spelled (AbruptEnd location) = refl
fault_at-spelled InvalidEnd = refl
fault_at-spelled InvalidMonthRange = refl
fault_at-spelled InvalidDayRange = refl
fault_at-spelled DateYear = refl
fault_at-spelled DateExtendedYear = refl
fault_at-spelled DateMonth = refl
fault_at-spelled DateDay = refl
fault_at-spelled DateUnexpectedEnd = refl
fault_at-spelled TimeRequired = refl
fault_at-spelled TimeHour = refl
fault_at-spelled TimeMinuteSecond = refl
fault_at-spelled TimeSecond = refl
fault_at-spelled FractionPart = refl
fault_at-spelled DateSeparator = refl
fault_at-spelled TimeSeparator = refl
fault_at-spelled DecimalSeparator = refl
fault_at-spelled InvalidAnnotation = refl
fault_at-spelled AnnotationOpen = refl
fault_at-spelled AnnotationClose = refl
fault_at-spelled AnnotationChar = refl
fault_at-spelled AnnotationKeyValueSeparator = refl
fault_at-spelled AnnotationKeyLeadingChar = refl
fault_at-spelled AnnotationKeyChar = refl
fault_at-spelled AnnotationValueCharPostHyphen = refl
fault_at-spelled AnnotationValueChar = refl
fault_at-spelled InvalidMinutePrecisionOffset = refl
fault_at-spelled CriticalDuplicateCalendar = refl
fault_at-spelled UnrecognizedCritical = refl
fault_at-spelled TzLeadingChar = refl
fault_at-spelled IanaCharPostSeparator = refl
fault_at-spelled IanaChar = refl
fault_at-spelled UtcTimeSeparator = refl
fault_at-spelled OffsetNeedsSign = refl
fault_at-spelled MonthDayHyphen = refl
fault_at-spelled DurationDisgnator = refl
fault_at-spelled DurationValueExceededRange = refl
fault_at-spelled DateDurationPartOrder = refl
fault_at-spelled TimeDurationPartOrder = refl
fault_at-spelled TimeDurationDesignator = refl
fault_at-spelled AmbiguousTimeMonthDay = refl
fault_at-spelled AmbiguousTimeYearMonth = refl
fault_at-spelled InvalidMonthDay = refl

pub same_error-Decides : (a b : ParseError) → Decides (same_error a b) (fault_of a ≡ fault_of b)
same_error-Decides a b =
    let both = bytes_eq-Decides (spelled (fault_of a)) (spelled (fault_of b)) in
    (λ h. sym (fault_at-spelled (fault_of a)) ∙ ap fault_at (both.0 h) ∙ fault_at-spelled (fault_of b), λ e. both.1 (ap spelled e))
