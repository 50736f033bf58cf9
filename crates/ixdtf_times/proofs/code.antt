-- Lemmas that the proofs of the functions of the code use.
pub mod ClockParts
pub mod FixedMonths
pub mod FixedOffsets
pub mod HourDigits
pub mod LoneTimes
pub mod ThroughSecond
pub mod YearDigits
