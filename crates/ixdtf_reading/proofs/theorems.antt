-- What is true for every text.
pub mod Handled
pub mod HandledAt
pub mod Hyphens
pub mod Offsets
pub mod OneChain
pub mod OneOutcome
pub mod OnePlace
pub mod OneReason
pub mod OneUnhandledOutcome
pub mod OnlyOutcome
pub mod Replies
pub mod Rfc3339
pub mod Rfc3339Texts
pub mod Rfc9557Texts
pub mod StopFaults
pub mod RowPlaces
