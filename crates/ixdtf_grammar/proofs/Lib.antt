pub mod PaddedDigits
pub mod code
pub mod parts
pub mod theorems
pub mod widths
