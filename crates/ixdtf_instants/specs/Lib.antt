pub mod Calendar
pub mod CivilDates
pub mod Counts
pub mod Order
pub mod Texts
