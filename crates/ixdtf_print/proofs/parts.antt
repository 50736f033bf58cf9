-- The parts of canonical texts and of the texts that `parse` accepts.
pub mod DerivedDates
pub mod DerivedDurations
pub mod DerivedTimes
pub mod PaddedDigits
pub mod ParsedParts
pub mod WrittenDurations
