-- Lemmas that the proofs of the functions of the code use.
pub mod DigitClasses
pub mod EqualUnits
pub mod FirstBytes
pub mod FirstLetter
pub mod FixedDateTimes
pub mod FixedPlaces
pub mod FractionLoop
pub mod LetterLoops
pub mod OpenDateTimes
pub mod PairLoops
pub mod ReadersWithoutPairs
pub mod Tables
pub mod TwoDigits
pub mod Units
pub mod WalkNames
