-- The numbers of errors, and the items of a list whose numbers are in order.
use Rattle.std.proofs.Common.{◌≡◌, ◌≢◌, ℕ, ◌-◌, ◌≤◌, List, [], ◌∷◌, map, get_or, Option, refl, ◌∙◌, ap, inl, inr, arith}
use Rattle.std.proofs.{Math.ListN.get_or-map, lemmas.List.FromFn.get_or-range_with_len}
use Rattle.std.specs.List.{range_with_len}
use Rattle.ixdtf.specs.table.Faults.{Fault, Fault.{ImplAssert, NonAsciiCodePoint, ParseFloat, AbruptEnd, InvalidEnd, InvalidMonthRange, InvalidDayRange}}
use Rattle.ixdtf.specs.table.Faults.Fault.{DateYear, DateExtendedYear, DateMonth, DateDay, DateUnexpectedEnd, TimeRequired, TimeHour, TimeMinuteSecond}
use Rattle.ixdtf.specs.table.Faults.Fault.{TimeSecond, FractionPart, DateSeparator, TimeSeparator, DecimalSeparator, InvalidAnnotation, AnnotationOpen}
use Rattle.ixdtf.specs.table.Faults.Fault.{AnnotationClose, AnnotationChar, AnnotationKeyValueSeparator, AnnotationKeyLeadingChar, AnnotationKeyChar}
use Rattle.ixdtf.specs.table.Faults.Fault.{AnnotationValueCharPostHyphen, AnnotationValueChar, InvalidMinutePrecisionOffset, CriticalDuplicateCalendar}
use Rattle.ixdtf.specs.table.Faults.Fault.{UnrecognizedCritical, TzLeadingChar, IanaCharPostSeparator, IanaChar, UtcTimeSeparator, OffsetNeedsSign}
use Rattle.ixdtf.specs.table.Faults.Fault.{MonthDayHyphen, DurationDisgnator, DurationValueExceededRange, DateDurationPartOrder, TimeDurationPartOrder}
use Rattle.ixdtf.specs.{table.Faults.Fault.{TimeDurationDesignator, AmbiguousTimeMonthDay, AmbiguousTimeYearMonth, InvalidMonthDay}, language.Brackets.Pair}
use Rattle.ixdtf.specs.Handlers.{Reply, RefusedBeside}
use Rattle.ixdtf_reading.proofs.theorems.Replies.{refused_split}
use Rattle.ixdtf.specs.table.ErrorEquality.{location_of}
use Rattle.ixdtf_c.specs.Numbers.{number_for}

-- The errors with the numbers 1 to 46, in order.
abbrev faults_at : List ℕ → List Fault
faults_at location =
    ImplAssert ∷ NonAsciiCodePoint ∷ ParseFloat ∷ AbruptEnd location ∷ InvalidEnd
    ∷ InvalidMonthRange ∷ InvalidDayRange ∷ DateYear ∷ DateExtendedYear ∷ DateMonth
    ∷ DateDay ∷ DateUnexpectedEnd ∷ TimeRequired ∷ TimeHour ∷ TimeMinuteSecond
    ∷ TimeSecond ∷ FractionPart ∷ DateSeparator ∷ TimeSeparator ∷ DecimalSeparator
    ∷ InvalidAnnotation ∷ AnnotationOpen ∷ AnnotationClose ∷ AnnotationChar ∷ AnnotationKeyValueSeparator
    ∷ AnnotationKeyLeadingChar ∷ AnnotationKeyChar ∷ AnnotationValueCharPostHyphen ∷ AnnotationValueChar ∷ InvalidMinutePrecisionOffset
    ∷ CriticalDuplicateCalendar ∷ UnrecognizedCritical ∷ TzLeadingChar ∷ IanaCharPostSeparator ∷ IanaChar
    ∷ UtcTimeSeparator ∷ OffsetNeedsSign ∷ MonthDayHyphen ∷ DurationDisgnator ∷ DurationValueExceededRange
    ∷ DateDurationPartOrder ∷ TimeDurationPartOrder ∷ TimeDurationDesignator ∷ AmbiguousTimeMonthDay ∷ AmbiguousTimeYearMonth
    ∷ InvalidMonthDay ∷ []

pub number_some : (fault : Fault) → number_for fault ≢ 0
number_some fault is = omega (arith, is)

-- If the items of a list have the numbers 1 to `most`, in order, the item at the index `number - 1` has this number.
pub in_order : {A : Type 0} (number_of : A → ℕ) (items : List A) (most : ℕ) → map number_of items ≡ range_with_len 1 most
    → (number : ℕ) (other : A) → 1 ≤ number → number ≤ most → number_of (get_or items (number - 1) other) ≡ number
in_order number_of items most numbers number other from to =
    rw (← (get_or-map number_of items (number - 1) other), numbers)
    (get_or-range_with_len 1 most (number - 1) (number_of other) (omega (arith, from, to)) ∙ omega (arith, from))

-- The error at the index `number - 1` has this number.
pub numbered : (number : ℕ) (other : Fault) → 1 ≤ number → number ≤ 46 → number_for (get_or (faults_at []) (number - 1) other) ≡ number
numbered = in_order number_for (faults_at []) 46 refl

-- The error of a refused reply has no location.
pub nowhere : (first : Option Pair) (reply : Reply) (fault : Fault) → RefusedBeside first reply fault → location_of fault ≡ []
nowhere first reply fault refused = elim (refused_split first reply fault refused) [
  | inl p ↦ ap location_of p.0
  | inr p ↦ ap location_of p.0
]
