-- Lemmas that the proofs of the functions of the code use.
pub mod DurationFractions
pub mod DurationGroups
pub mod DurationLetters
pub mod DurationLoops
pub mod DurationNumbers
pub mod DurationRanks
pub mod DurationSteps
