-- From reading to the grammar and the fault table: the grammar derives what is read, and each fault is that of a row that fits.
pub mod Cores
pub mod DateTimes
pub mod Dates
pub mod Durations
pub mod ExactBracket
pub mod FirstBracket
pub mod Months
pub mod MorePairs
pub mod Pair
pub mod Times
pub mod Wholes
pub mod ZoneNames
pub mod ZonesAlone
