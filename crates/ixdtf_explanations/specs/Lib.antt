pub mod Hints
pub mod LocatedEquality
pub mod LocatedFaults
pub mod LocatedPromises
pub mod LocatedTexts
pub mod Messages
pub mod Parts
