pub mod code
pub mod parts
pub mod theorems
