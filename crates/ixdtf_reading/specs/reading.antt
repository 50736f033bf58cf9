-- The reading functions: functions on texts that have the form of the code. Private clauses refer to them, public clauses do not.
pub mod Brackets
pub mod Chains
pub mod Clauses
pub mod Cores
pub mod DateTimes
pub mod Dates
pub mod Durations
pub mod ExactZones
pub mod FixedPlaces
pub mod Looks
pub mod Months
pub mod Pairs
pub mod Runs
pub mod Stops
pub mod Times
pub mod Wholes
pub mod Zones
