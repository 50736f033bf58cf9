pub mod code
pub mod parts
pub mod theorems
pub mod to_grammar
pub mod to_reading
pub mod widths
