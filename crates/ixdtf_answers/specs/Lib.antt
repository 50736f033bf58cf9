pub mod Answer
pub mod Errors
pub mod Fields
pub mod Parts
pub mod Run
pub mod Word
