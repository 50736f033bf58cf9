-- From the grammar and the fault table to reading: what the grammar derives is read, and each row that fits is returned.
pub mod ClockRows
pub mod Cores
pub mod DateTimes
pub mod Dates
pub mod Durations
pub mod ExactBracket
pub mod FirstBracket
pub mod Months
pub mod MorePairs
pub mod Pair
pub mod Times
pub mod Wholes
pub mod ZoneNames
pub mod ZonesAlone
