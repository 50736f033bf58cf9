pub mod ThroughSecond
pub mod TimeTypes
