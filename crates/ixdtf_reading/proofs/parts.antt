-- Lemmas about the parts of reading functions.
pub mod DurationRuns
pub mod ExactZones
pub mod Fronts
pub mod GrowingDigits
pub mod LookAhead
pub mod Looks
pub mod Marks
pub mod Openings
pub mod Steps
pub mod Years
