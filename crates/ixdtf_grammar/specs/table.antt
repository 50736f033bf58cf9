-- The fault table: it says which error a text has, and at which position.
pub mod Before
pub mod DateTimeFronts
pub mod DurationFronts
pub mod ErrorEquality
pub mod ErrorTexts
pub mod Faults
pub mod LineNames
pub mod Lines
pub mod Outcomes
pub mod Reasons
pub mod Rows
